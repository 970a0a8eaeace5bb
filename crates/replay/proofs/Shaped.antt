-- The tests of the shape of a replay, and the answer for the reading of a log.
--
--   replay-refused, replay-rest    == the shape, once floor and neighbourhood are tested
--   refused-floor, -neighbourhood, -log, fit-log == the shape by the tests in order
--   job-replayable                 == `Replayable` where the shape is fit
--   replays-fit                    == `Replays` where the shape is fit
--   faulty-judged, start-good, last-inside, faultless-judged == `Judged` of a log with a fault and of a faultless one,
--                                     whose first record is a good start for the costs
--   answered                       == `ReplaysLog` of the answer `answer_in` of the reading
use Prim.Native.Nat.{ℕ, ◌+◌, ◌*◌, ◌≤◌, ◌<◌}
use mathlib.Core.Path.{◌≡◌, refl, sym, ap, ap₂, ◌∙◌}
use mathlib.Core.Bool.{Bool, true, false, ◌&&◌, not, and-false}
use mathlib.Core.List.{List, [], ◌∷◌}
use native.Mathlib.Omega.{arith}
use borrow.Author.Tests.{eqb-true, leb-true, le-leb}
use lib.Dec.{leb, eqb}
use lib.ListN.{length, get_or}
use Rattle.std.proofs.lemmas.Option.{same_Some}
use Rattle.std.proofs.Common.{Option, None, Some, Ok, Err}
use Rattle.basics.specs.Bounded.{pick}
use Rattle.basics.specs.Lists.{tabulate, zeros}
use Rattle.basics.proofs.Bools.{and_left, and_right, eqb-sym}
use Rattle.basics.proofs.Lists.{get_d_tabulate}
use Rattle.floor.specs.Floor.{floor_of, vertices}
use Rattle.floor.specs.declared.Vertex.{Vertex}
use Rattle.floor.specs.declared.Refusal.{Refusal}
use Rattle.floor.specs.declared.Refusal.TheVariants.{Neighbourhood, SliceLength, LogLength}
use Rattle.floor.specs.Refusals.{floor_shape, and_then}
use Rattle.floor.proofs.Shapes.{good-floor, good-first, good-second, good-pick}
use Rattle.moves.specs.declared.Directions.{Directions}
use Rattle.moves.specs.Moves.{neighbourhood_of}
use Rattle.paths.specs.Graph.{Graph}
use Rattle.paths.specs.Distance.{distance}
use Rattle.grid.specs.Grid.{floor_graph}
use Rattle.grid.specs.Known.{dirs_shape, GoodJob}
use Rattle.grid.proofs.Jobs.{with-passed, with-refused, with_rest}
use Rattle.distances.specs.Costs.{FilledCosts}
use Rattle.logs.specs.Log.{Log, log_of}
use Rattle.replay.specs.Replay.{
  follow_cost,
  Driven,
  driven_of,
  if_follows,
  drive,
  driven,
  throughout,
  faultless,
  first_stop,
  last_of,
  last_stop,
  cheapest,
  log_answer,
  log_costs,
  ReplaySlices,
  replay_slices_of,
  log_shape,
  replay_shape,
  pinch_at,
  replay_answer,
  replay_left,
  Replays,
}
use Rattle.replay.specs.Known.{
  Drivable,
  start_progress,
  LogRead,
  vertex_of,
  sound_ends,
  EndsIn,
  answer_in,
  Replayable,
  Judged,
  ReplaysLog,
}
use Rattle.replay.specs.declared.Reading.{Reading}
use Rattle.replay.specs.declared.Replayed.{Replayed}
use Rattle.replay.proofs.Taken.{ends_of, after_read, after_ends, after-driven}

-- ---- the shape

module _ (v n c k : ℕ) where
  -- Lengths of good shape.
  record Fitting : Type 0 where
    short : n ≤ 16384
    costs : c ≡ v
    work : k ≡ 4 * v

  log-fitting : log_shape v n c k ≡ Ok tt → Fitting
  unfolding log_shape
  log-fitting e =
      let first = pick (leb n 16384) (Ok tt) (Err LogLength) in
      let s = good-pick LogLength (leb n 16384) (good-first first _ e) in
      let t = good-pick SliceLength (eqb c v && eqb k (4 * v)) (good-second first _ e) in
      record {
        short = leb-true n 16384 s;
        costs = eqb-true c v (and_left (eqb c v) (eqb k (4 * v)) t);
        work = eqb-true k (4 * v) (and_right (eqb c v) (eqb k (4 * v)) t);
      }

module _ (w h : ℕ) (map : List ℕ) (nb n c k : ℕ) where
  pub replay-refused : {z : Refusal} → dirs_shape w h map nb ≡ Err z → Err z ≡ replay_shape w h map nb n c k
  unfolding replay_shape
  replay-refused e = sym e ∙ with-refused w h map nb (log_shape (vertices w h) n c k) refl e

  pub replay-rest : {dirs : Directions} → dirs_shape w h map nb ≡ Ok dirs
      → and_then (log_shape (vertices w h) n c k) (Ok dirs) ≡ replay_shape w h map nb n c k
  unfolding replay_shape
  replay-rest e = with_rest w h map nb refl e (log_shape (vertices w h) n c k)

-- The whole shape, test by test. The proofs go without these four; docs name them.
module _ (w h : ℕ) (map : List ℕ) (nb n c k : ℕ) where
  -- A bad floor is the answer.
  pub refused-floor : (s : Refusal) → floor_shape w h map ≡ Err s → Err s ≡ replay_shape w h map nb n c k
  unfolding replay_shape
  refused-floor s e = rw e

  module _ (f : floor_shape w h map ≡ Ok tt) where
    -- On a good floor a number that names no neighbourhood is.
    pub refused-neighbourhood : neighbourhood_of nb ≡ None → Err Neighbourhood ≡ replay_shape w h map nb n c k
    unfolding replay_shape
    refused-neighbourhood e = rw (f, e)

    module _ (dirs : Directions) (known : neighbourhood_of nb ≡ Some dirs) where
      -- With both good, a bad length of log, costs or working slice is.
      pub refused-log : (s : Refusal) → log_shape (vertices w h) n c k ≡ Err s → Err s ≡ replay_shape w h map nb n c k
      unfolding replay_shape
      refused-log s e = rw (f, known, e)

      -- With all three good, the directions are.
      pub fit-log : log_shape (vertices w h) n c k ≡ Ok tt → Ok dirs ≡ replay_shape w h map nb n c k
      unfolding replay_shape
      fit-log e = rw (f, known, e)

pub job-replayable : (w h : ℕ) (map : List ℕ) (nb : ℕ) (log costs work : List ℕ) (dirs : Directions)
    → replay_shape w h map nb (length log) (length costs) (length work) ≡ Ok dirs
    → Replayable w h map dirs log costs work
unfolding replay_shape
job-replayable w h map nb log costs work dirs e =
    let p = with-passed w h map nb _ e in
    let t = log-fitting (vertices w h) (length log) (length costs) (length work) p.rest in
    record {
      good = record {
        sized = (good-floor w h map p.floor).sized;
        listed = record { number = nb; known = p.known };
      };
      short = t.short;
      costs_len = t.costs;
      work_len = t.work;
    }

pub replays-fit : {w h : ℕ} {map : List ℕ} {nb : ℕ} {log : List ℕ} {s : ReplaySlices} {dirs : Directions} {r : Replayed}
    {costs work : List ℕ}
    → replay_shape w h map nb (length log) (length s.costs) (length s.work) ≡ Ok dirs
    → let f = floor_of w h map in
    ReplaysLog (floor_graph f dirs) (pinch_at f) (log_of log (vertices w h)) r costs work
    → Replays w h map nb log s (Ok r) (replay_slices_of costs work)
unfolding replay_answer replay_left
replays-fit e P =
    record { answer = rw e (ap Ok P.answer); left = rw e (ap₂ replay_slices_of P.costs P.work) }

-- ---- from the reading to the answer

-- A log that has a record and can be followed throughout does not start on a pinch.
first-free : (g : Graph) (p : ℕ → Bool) (l : List ℕ) → 1 ≤ length l → throughout (drive g p 1 None 0 l).unfollowed ≡ true
    → p (get_or l 0 0) ≡ false
unfolding drive follow_cost
first-free g p [] n t = absurd (omega arith)
first-free g p (v ∷ l) n t = cases (p v) t
  where
    on : Bool → Driven
    on b = if_follows (pick b None (Some 0)) (λ x. drive g p 2 (Some v) (0 + x) l) (driven_of 0 (Some 1))

    cases : (b : Bool) → throughout (on b).unfollowed ≡ true → b ≡ false
    cases true t = let z : ◌≡◌ {A = ℕ} 0 1 = cc in absurd (omega arith)
    cases false t = refl

no-ends : (l : List ℕ) (b : Bool) → ◌≡◌ {A = Option (Vertex × Vertex)} (pick b (ends_of l) None) None
    → (leb 1 (length l) && b) ≡ false
no-ends [] b e = refl
no-ends (v ∷ l) true e = cc
no-ends (v ∷ l) false e = and-false (leb 1 (length (v ∷ l)))

-- The first stop a and the last stop b of the log l, which has a record; it is sound where s says so.
record Ended (l : List ℕ) (s : Bool) (a b : Vertex) : Type 0 where
  sound : s ≡ true
  some : 1 ≤ length l
  first : a.0 ≡ get_or l 0 0
  last : b.0 ≡ last_of 0 l

some-ends : (l : List ℕ) (s : Bool) {a b : Vertex} → pick s (ends_of l) None ≡ Some (a, b) → Ended l s a b
unfolding last_of
some-ends [] true e = cc
some-ends [] false e = cc
some-ends (v ∷ l) false e = cc
some-ends (v ∷ l) true {a} {b} e =
    let q : ◌≡◌ {A = Vertex × Vertex} (vertex_of v, vertex_of (last_of v l)) (a, b) = same_Some _ _ e in
    record {
      sound = refl;
      some = omega arith;
      first = sym (ap (λ (z : Vertex × Vertex). z.0.0) q);
      last = sym (ap (λ (z : Vertex × Vertex). z.1.0) q);
    }

ends-inside : {n : ℕ} {a b : Vertex} (x : Bool) (f : Option ℕ) (e : Option (Vertex × Vertex))
    → pick (not x && throughout f) e None ≡ Some (a, b) → EndsIn n e → (a.0 < n) × (b.0 < n)
ends-inside {n} {a} {b} x f e q i = cases (not x && throughout f) q
  where
    cases : (s : Bool) → pick s e None ≡ Some (a, b) → (a.0 < n) × (b.0 < n)
    cases true q = rw q at i
    cases false q = cc

module _ {w h : ℕ} {map : List ℕ} {dirs : Directions} {log : List ℕ} {r : Reading}
    (R : LogRead w h map dirs log r) where
  abbrev g : Graph
  g = floor_graph (floor_of w h map) dirs

  abbrev p : ℕ → Bool
  p = pinch_at (floor_of w h map)

  abbrev l : Log
  l = log_of log (vertices w h)

  read_is : r.drive.read ≡ length l.stops
  read_is = ap (λ s. s.read) R.drive ∙ after_read g p l.stops start_progress ∙ omega arith

  cost-is : r.drive.cost ≡ (driven g p l).cost
  cost-is = ap (λ s. s.cost) R.drive ∙ sym (ap (λ d. d.cost) (after-driven g p l.stops))

  unfollowed-is : r.drive.unfollowed ≡ (driven g p l).unfollowed
  unfollowed-is = ap (λ s. s.unfollowed) R.drive ∙ sym (ap (λ d. d.unfollowed) (after-driven g p l.stops))

  -- Whether neither fault was found.
  abbrev sound : Bool
  sound = not l.broken && throughout (driven g p l).unfollowed

  ends-is : sound_ends r ≡ pick sound (ends_of l.stops) None
  ends-is = rw (ap (λ s. s.ends) R.drive, after_ends g p l.stops, R.broken, unfollowed-is) refl

  pub faulty-judged : (costs work : List ℕ) {costs' work' : List ℕ} → sound_ends r ≡ None
      → Replayable w h map dirs log costs work → costs' ≡ zeros (length costs) → work' ≡ zeros (length work)
      → Judged g p l false costs' work'
  unfolding faultless cheapest log_costs
  faulty-judged costs work e L c k =
      let z : (leb 1 (length l.stops) && sound) ≡ false = no-ends l.stops sound (sym ends-is ∙ e) in
      record { answer = rw z; costs = rw z (c ∙ ap zeros L.costs_len); work = k ∙ ap zeros L.work_len }

  module _ {a b : Vertex} (found : sound_ends r ≡ Some (a, b)) where
    these : Ended l.stops sound a b
    these = some-ends l.stops sound (sym ends-is ∙ found)

    is-faultless : faultless g p l ≡ true
    unfolding faultless
    is-faultless = rw (le-leb 1 (length l.stops) these.some, these.sound)

    free : p a.0 ≡ false
    free =
        let on = throughout (driven g p l).unfollowed in
        ap p these.first
        ∙ first-free g p l.stops these.some (and_right (not l.broken) on these.sound)

    inside : (a.0 < vertices w h) × (b.0 < vertices w h)
    inside = ends-inside r.broken r.drive.unfollowed r.drive.ends found R.bounded.ends

    pub start-good : Drivable w h map dirs → GoodJob w h map dirs a.0 a.0
    unfolding pinch_at
    start-good D = record {
      sized = D.sized;
      listed = D.listed;
      start_in = inside.0;
      goal_in = inside.0;
      start_free = free;
      goal_free = free;
    }

    pub last-inside : {n : ℕ} → n ≡ vertices w h → b.0 < n
    last-inside e = omega (arith, inside.1)

    pub faultless-judged : {costs work : List ℕ} → FilledCosts g a.0 costs work
        → Judged g p l (eqb (get_or costs b.0 0) r.drive.cost) costs work
    unfolding cheapest log_costs
    faultless-judged {costs} {work} F =
        let d = distance g (first_stop l) in
        let there : get_or costs b.0 0 ≡ d (last_stop l) =
        ap (λ c. get_or c b.0 0) F.costs
        ∙ get_d_tabulate (vertices w h) b.0 (distance g a.0) inside.1
        ∙ ap₂ (distance g) these.first these.last in
        record {
          answer = ap₂ eqb there cost-is ∙ eqb-sym (d (last_stop l)) (driven g p l).cost ∙ sym (rw is-faultless);
          costs = F.costs ∙ ap (λ z. tabulate (vertices w h) (distance g z)) these.first ∙ sym (rw is-faultless);
          work = F.clear;
        }

  pub answered : {b : Bool} {a : Replayed} {costs work : List ℕ} → Judged g p l b costs work → a ≡ answer_in r b
      → ReplaysLog g p l a costs work
  unfolding answer_in log_answer
  answered J e = record {
    answer = e ∙ rw (R.broken, read_is, cost-is, unfollowed-is, J.answer);
    costs = J.costs;
    work = J.work;
  }
