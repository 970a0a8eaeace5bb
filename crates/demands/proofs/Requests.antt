-- What the requests promise, from what the operations ensure.
--
--   closures-read   == request 1: the working map of a table by value, after any calls from empty
--   stored-read     == request 1: the working map of a C caller's 64 numbers, after any calls from zeros
--   packed-read     == request 6: a packed floor is the byte floor with the same cells
--   cheapest-called == request 9: which logs are called cheapest
--   reads-back      == request 11: reading what was written
--   writes-back     == request 11: writing what was read
--   stops-judged    == request 12: which proposals are accepted
--   stops-proposed  == request 12: our own proposal is accepted
--   flows           == request 13: the traversal counts are a flow
--   sheet-mended    == request 14: the checker accepts the mended sheet, and the counts of differences are exact
use Prim.Native.Nat.{ℕ, ◌+◌, ◌≤◌, ◌<◌}
use mathlib.Core.Path.{◌≡◌, refl, sym, ap, ◌∙◌, subst}
use mathlib.Core.Logic.{◌↔◌}
use mathlib.Core.Bool.{Bool, true, false, ◌&&◌, not, true≢false}
use mathlib.Core.List.{List, [], ◌∷◌}
use native.Mathlib.Omega.{arith}
use borrow.Author.Tests.{leb-true, le-leb}
use lib.Dec.{leb}
use lib.ListN.{length}
use Rattle.std.proofs.Common.{Option, Some, None, Result, Ok, Err}
use Rattle.basics.specs.Bounded.{pick}
use Rattle.basics.proofs.Bools.{and_both, and_intro, not-both}
use Rattle.floor.specs.Floor.{Floor, floor_of, with_blocked, map_of, vertices}
use Rattle.floor.specs.Refusals.{Shape, floor_shape, and_then, answer_number}
use Rattle.floor.specs.declared.Refusal.{Refusal}
use Rattle.floor.proofs.Shapes.{good-first}
use Rattle.floor.proofs.Maps.{map-cell, blocked-good}
use Rattle.floor.proofs.Stored.{packed-floor}
use Rattle.floor.proofs.Shapes.{good-floor}
use Rattle.moves.specs.declared.Directions.{Directions}
use Rattle.moves.specs.Moves.{neighbourhood_of}
use Rattle.moves.proofs.Table.{listed-lawful}
use Rattle.paths.specs.Graph.{Graph, Lawful}
use Rattle.grid.specs.Grid.{floor_graph, with_dirs}
use Rattle.grid.proofs.Lawful.{floor-lawful, size-le, graph_same}
use Rattle.closures.specs.Plain.{Plain, nothing_held, closed_by, work_shape, work_left}
use Rattle.closures.specs.Table.{empty_table, Writes}
use Rattle.closures.specs.Calls.{Call, table_after, plain_after}
use Rattle.closures.proofs.Simulation.{writes-any-calls}
use Rattle.stored_closures.specs.Stored.{WritesFrom}
use Rattle.stored_closures.specs.Calls.{none_stored, stored_after}
use Rattle.stored_closures.proofs.Simulation.{writes-any-calls as stored-any-calls}
use Rattle.logs.specs.Log.{Log, LogStep, cursor_at, stop_at, and_rest, log_from, log_of}
use Rattle.logs.proofs.Steps.{Finding, at-end, a-stop, no_stop, finding, log-step}
use Rattle.replay.specs.Replay.{ReplaySlices, follow_cost, Driven, driven_of, if_follows, drive, driven, throughout}
use Rattle.replay.specs.Replay.{faultless, first_stop, last_stop, cheapest, log_answer, pinch_at, shape_for}
use Rattle.replay.specs.Replay.{job_answer, replay_shape, replay_answer, Replays, replay_number, replay_read, replay_cost}
use Rattle.replay.specs.Replay.{record_number, replay_unfollowed, replay_cheapest}
use Rattle.replay.specs.declared.Replayed.{Replayed}
use Rattle.replay.proofs.Walked.{cheapest-exact, cheapest-alone}
use Rattle.writer.specs.Writing.{Call as WriterCall}
use Rattle.writer.proofs.RoundTrips.{read_back, write_back}
use Rattle.thinning.specs.Thinning.{seen}
use Rattle.thinning.specs.Answer.{thin_number}
use Rattle.legs.specs.Answer.{legs_shape, check_answer as legsAnswer, propose_answer, Proposes}
use Rattle.legs.proofs.Accepted.{TrueChoice, accepted-exact}
use Rattle.legs.proofs.Proposal.{proposal-accepted}
use Rattle.paths.specs.Sheet.{Sheet}
use Rattle.grid.proofs.Jobs.{job-fit}
use Rattle.planner.specs.Plan.{Planned, Slices, Finishes, plan_number, plan_total}
use Rattle.planner.proofs.Flow.{finishes-flow}
use Rattle.checker.specs.Answer.{check_number}
use Rattle.mending.specs.Mending.{MendAnswer, MendSlices, Mends}
use Rattle.mending.proofs.Taken.{mended-route, mended-none, counts-exact}
use Rattle.demands.specs.Demands.{first_of, floor_lines, dirs_for, graph_of, ReadsClosures, ReadsPacked, Cheapest}
use Rattle.demands.specs.Demands.{RightlyCheapest, ReadsBack, WritesBack, legs_lines, FewestStops, JudgesStops}
use Rattle.demands.specs.Demands.{ProposesStops, Flows, MendsSheet, closed_graph, Plans, Checks}
use Rattle.demands.proofs.Shapes.{floor-first, refused-zero, shape-zero}
use Rattle.demands.proofs.RequestAnswers.{legs-first}
use Rattle.demands.proofs.Routes.{plans}
use Rattle.demands.proofs.Checks.{checks}
use Rattle.demands.proofs.Walks.{cheapest-is, cheapest-one}

-- ---- request 1: closures

floor-lines : (w h : ℕ) (map : List ℕ) → floor_shape w h map ≡ Ok tt → first_of (floor_lines w h map) ≡ 0
floor-lines w h map e = sym (floor-first w h map answer_number (λ r. refl) [] refl) ∙ ap answer_number e

module _ (w h : ℕ) (base work : List ℕ) (m : Plain) (good : work_shape w h base (length work) ≡ Ok tt) where
  abbrev closed : Floor
  closed = with_blocked (floor_of w h base) (closed_by m)

  base_good : floor_shape w h base ≡ Ok tt
  unfolding work_shape
  base_good = good-first (floor_shape w h base) _ good

  same_graph : (nb : ℕ) → graph_of w h (map_of closed) nb ≡ closed_graph w h base m nb
  same_graph nb =
      graph_same (floor_of w h (map_of closed)) closed (dirs_for (neighbourhood_of nb)) refl refl (map-cell closed)

  working-read : ReadsClosures w h base (work_left w h base m work) m
  working-read = rw good (record {
    shape_good = floor-lines w h (map_of closed) (blocked-good w h base base_good (closed_by m));
    cells = map-cell closed;
    graph = same_graph;
    plan = λ nb a b d s r s' F z.
        subst (λ g. Plans g nb a b d r s') (same_graph nb) (plans w h (map_of closed) nb a b d s r s' F z);
    check = λ nb a b s r e z. subst (λ g. Checks g a b s r) (same_graph nb) (checks w h (map_of closed) nb a b s r e z);
  })

pub closures-read : (w h : ℕ) (cs : List Call) (base work : List ℕ) (p : Shape) (work' : List ℕ)
    → Writes (table_after (empty_table w h) cs) base work p work' → answer_number p ≡ 0
    → ReadsClosures w h base work' (plain_after w h nothing_held cs)
closures-read w h cs base work p work' W z =
    let x = writes-any-calls w h cs W in
    let good = shape-zero (work_shape w h base (length work)) (rw x.0 at z) in
    rw x.1 (working-read w h base work (plain_after w h nothing_held cs) good)

pub stored-read : (w h : ℕ) (cs : List Call) (base work : List ℕ) (p : Shape) (work' : List ℕ)
    → WritesFrom w h (stored_after w h none_stored cs) base work p work' → answer_number p ≡ 0
    → ReadsClosures w h base work' (plain_after w h nothing_held cs)
stored-read w h cs base work p work' W z =
    let x = stored-any-calls w h cs W in
    let good = shape-zero (work_shape w h base (length work)) (rw x.0 at z) in
    rw x.1 (working-read w h base work (plain_after w h nothing_held cs) good)

-- ---- request 6: packed maps

pub packed-read : (w h : ℕ) (cells : List ℕ) → ReadsPacked w h cells
packed-read w h cells = record {
  floor = packed-floor cells w h;
  graph = λ nb. ap (λ f. floor_graph f (dirs_for (neighbourhood_of nb))) (packed-floor cells w h);
}

-- ---- request 9: a log that is called cheapest

-- The first stop of a log is a vertex.
first-inside : (s : List ℕ) (v : ℕ) → 1 ≤ length (log_of s v).stops → first_stop (log_of s v) < v
first-inside s v n = cases (stop_at s v (cursor_at 0)) (finding s v (cursor_at 0)) (log-step s v (cursor_at 0))
  where
    cases : (r : LogStep) → Finding s v (cursor_at 0) r → log_of s v ≡ and_rest r (log_from s v)
        → first_stop (log_of s v) < v
    cases _ (at-end l) e = let z = ap (λ x. length x.stops) e in absurd (omega arith)
    cases _ (a-stop l i m) e = rw e i
    cases _ (no_stop l b) e = let z = ap (λ x. length x.stops) e in absurd (omega arith)

module _ (g : Graph) (p : ℕ → Bool) where
  -- Where 0 is answered for the record that cannot follow, every record follows.
  all-follow : (l : List ℕ) (k : ℕ) (o : Option ℕ) (c : ℕ) → 1 ≤ k → record_number (drive g p k o c l).unfollowed ≡ 0
      → throughout (drive g p k o c l).unfollowed ≡ true
  unfolding drive
  all-follow [] k o c i e = refl
  all-follow (v ∷ l) k o c i e =
      cases (follow_cost g p o v) e (λ x z. all-follow l (k + 1) (Some v) (c + x) (omega arith) z)
    where
      on : Option ℕ → Driven
      on q = if_follows q (λ x. drive g p (k + 1) (Some v) (c + x) l) (driven_of c (Some k))

      cases : (q : Option ℕ) → record_number (on q).unfollowed ≡ 0
          → ((x : ℕ) → record_number (drive g p (k + 1) (Some v) (c + x) l).unfollowed ≡ 0
          → throughout (drive g p (k + 1) (Some v) (c + x) l).unfollowed ≡ true)
          → throughout (on q).unfollowed ≡ true
      cases None z below = absurd (omega arith)
      cases (Some x) z below = below x z

  follow-zero : (q : Option ℕ) → throughout q ≡ true → record_number q ≡ 0
  follow-zero None e = refl
  follow-zero (Some k) e = absurd (true≢false (sym e))

  module _ (L : Lawful g) (small : g.size ≤ 16384) (l : Log)
      (inside : 1 ≤ length l.stops → first_stop l < g.size) where
    abbrev Called : Result Replayed Refusal → Type 0
    Called r = (replay_cheapest r ≡ true) ↔ ((1 ≤ replay_read r) × (replay_number r ≡ 0) × (replay_unfollowed r ≡ 0)
        × Cheapest g (first_stop l) (last_stop l) (replay_cost r))

    abbrev some_read : Bool
    some_read = leb 1 (length l.stops)

    abbrev follow : Bool
    follow = throughout (driven g p l).unfollowed

    record Parts : Type 0 where
      read : 1 ≤ length l.stops
      unbroken : not l.broken ≡ true
      all : follow ≡ true

    parts : faultless g p l ≡ true → Parts
    unfolding faultless
    parts e =
        let x = and_both some_read (not l.broken && follow) e in
        let y = and_both (not l.broken) follow x.1 in
        record { read = leb-true 1 (length l.stops) x.0; unbroken = y.0; all = y.1 }

    whole : Parts → faultless g p l ≡ true
    unfolding faultless
    whole x =
        and_intro some_read (not l.broken && follow) (le-leb 1 (length l.stops) x.read)
        (and_intro (not l.broken) follow x.unbroken x.all)

    -- The answer to the log, by the number of its bad record, if it has one.
    abbrev answered : Option ℕ → Result Replayed Refusal
    answered bad = Ok (record {
      read = length l.stops;
      cost = (driven g p l).cost;
      unfollowed = (driven g p l).unfollowed;
      bad = bad;
      cheapest = cheapest g p l;
    })

    whole-called : l.broken ≡ false → Called (answered None)
    whole-called b = (
      λ e.
          let f = cheapest-alone g p l e in
          let x = parts f in (
            x.read,
            refl,
            follow-zero (driven g p l).unfollowed x.all,
            rw ((cheapest-exact g p l f).0 e) (cheapest-is g L small (first_stop l) (last_stop l) (inside x.read)),
          ),
      λ t.
          let f = whole (record {
            read = t.0;
            unbroken = ap not b;
            all = all-follow l.stops 1 None 0 (omega arith) t.2;
          }) in
          (cheapest-exact g p l f).1 (cheapest-one g L small (first_stop l) (last_stop l) (inside t.0) t.3),
    )

    broken-called : (k : ℕ) → l.broken ≡ true → Called (answered (Some k))
    broken-called k b = (
      λ e. not-both (not l.broken) (parts (cheapest-alone g p l e)).unbroken (ap not b),
      λ t. absurd (omega (arith, t.1)),
    )

    log-called : Called (Ok (log_answer g p l))
    unfolding log_answer
    log-called = cases l.broken refl
      where
        cases : (x : Bool) → l.broken ≡ x → Called (answered (pick x (Some (length l.stops + 1)) None))
        cases true b = broken-called (length l.stops + 1) b
        cases false b = whole-called b

module _ (w h : ℕ) (map : List ℕ) (nb : ℕ) (log : List ℕ) (s : ReplaySlices) where
  abbrev read_log : Log
  read_log = log_of log (vertices w h)

  -- A log whose shape is fit has a good floor, and `dirs` are the directions of its neighbourhood.
  fit_parts : (dirs : Directions) → shape_for w h map nb log s ≡ Ok dirs
      → (floor_shape w h map ≡ Ok tt) × (neighbourhood_of nb ≡ Some dirs)
  unfolding replay_shape
  fit_parts dirs = cases (floor_shape w h map) (neighbourhood_of nb) _
    where
      cases : (t : Shape) (n : Option Directions) (u : Shape) → and_then t (with_dirs n u) ≡ Ok dirs
          → (t ≡ Ok tt) × (n ≡ Some dirs)
      cases (Ok _) (Some r) (Ok _) e = (refl, cc)
      cases (Ok _) (Some r) (Err q) e = cc
      cases (Ok _) None u e = cc
      cases (Err q) n u e = cc

  job-called : (j : Result Directions Refusal) → shape_for w h map nb log s ≡ j
      → RightlyCheapest (graph_of w h map nb) read_log (job_answer w h map log j)
  job-called (Ok dirs) e =
      let x = fit_parts dirs e in
      let f = floor_of w h map in
      let k = (good-floor w h map x.0).sized in
      let same : dirs_for (neighbourhood_of nb) ≡ dirs = ap dirs_for x.1 in
      let lawful = floor-lawful f dirs (listed-lawful (record { number = nb; known = x.1 })) in
      rw same (record {
        called = log-called (floor_graph f dirs) (pinch_at f) lawful (size-le f k.wide k.high dirs) read_log
            (first-inside log (vertices w h));
      })
  job-called (Err r) e =
      record { called = (λ q. absurd (true≢false (sym q)), λ t. absurd (omega (arith, t.0))) }

  pub cheapest-called : (r : Result Replayed Refusal) (s' : ReplaySlices) → Replays w h map nb log s r s'
      → RightlyCheapest (graph_of w h map nb) read_log r
  unfolding replay_answer
  cheapest-called r s' R = rw R.answer (job-called (shape_for w h map nb log s) refl)

-- ---- request 11: writer and reader

pub reads-back : (buf : List ℕ) (xs : List WriterCall) → ReadsBack buf xs
reads-back = read_back

pub writes-back : (s buf : List ℕ) → WritesBack s buf
writes-back = write_back

-- ---- request 12: fewest stops

module _ (w h : ℕ) (map list : List ℕ) (n : ℕ) (kept : List ℕ) (c : ℕ) (legs : List ℕ) where
  abbrev sight : ℕ → ℕ → Bool
  sight = seen (floor_of w h map) list

  stops-words : TrueChoice sight n kept c legs ↔ FewestStops sight n kept c legs
  stops-words = (
    λ t. record {
      within = t.within;
      choice = t.choice;
      as_many = t.as_many;
      fewest = t.fewest;
      kept_rest = t.kept_rest;
      legs_rest = t.legs_rest;
    },
    λ t. record {
      within = t.within;
      choice = t.choice;
      as_many = t.as_many;
      fewest = t.fewest;
      kept_rest = t.kept_rest;
      legs_rest = t.legs_rest;
    },
  )

  shape_good : first_of (legs_lines w h map list kept legs n) ≡ 0
      → legs_shape w h map list (length kept) (length legs) n ≡ Ok tt
  shape_good e =
      cases (legs_shape w h map list (length kept) (length legs) n) refl
      (legs-first w h map list kept legs n answer_number (λ q. refl) [] refl ∙ e)
    where
      cases : (t : Shape) → legs_shape w h map list (length kept) (length legs) n ≡ t → answer_number t ≡ 0
          → legs_shape w h map list (length kept) (length legs) n ≡ Ok tt
      cases (Ok _) q z = q
      cases (Err x) q z = refused-zero x z

  pub stops-judged : (r : Shape) → r ≡ legsAnswer w h map list n kept c legs
      → first_of (legs_lines w h map list kept legs n) ≡ 0 → JudgesStops w h map list n kept c legs r
  stops-judged r e good =
      let A = accepted-exact w h map list n kept c legs in
      record {
        accepts = (
          λ z. stops-words.0 (A.0 (sym e ∙ shape-zero r z)).1,
          λ t. ap answer_number (e ∙ A.1 (shape_good good, stops-words.1 t)),
        );
      }

pub stops-proposed : (w h : ℕ) (map list kept legs : List ℕ) (n : ℕ) (r : Result ℕ Refusal) (kept' legs' : List ℕ)
    → Proposes w h map list kept legs n r kept' legs' → thin_number r ≡ 0 → ProposesStops w h map list n r kept' legs'
stops-proposed w h map list kept legs n r kept' legs' P = cases r P.answer
  where
    cases : (r : Result ℕ Refusal) → r ≡ propose_answer w h map list kept legs n → thin_number r ≡ 0
        → ProposesStops w h map list n r kept' legs'
    cases (Ok k) e z = record {
      accepted = rw (P.kept_after, P.legs_after)
          (ap answer_number (proposal-accepted w h map list kept legs n k (sym e)));
    }
    cases (Err q) e z = refused-zero q z

-- ---- request 13: flow

pub flows : (w h : ℕ) (map : List ℕ) (nb a b : ℕ) (d : List ℕ) (s : Slices) (r : Planned) (s' : Slices)
    → Finishes w h map nb a b d s r s' → plan_number r ≡ 0 → Flows (graph_of w h map nb) a b d s' (plan_total r)
flows w h map nb a b d s (Ok p) s' F z =
    let x = finishes-flow F in
    let known = (job-fit w h map nb a b x.dirs x.fit).known in
    rw (ap dirs_for known) x.flow
flows w h map nb a b d s (Err q) s' F z =
    refused-zero q z

-- ---- request 14: a mended sheet

pub sheet-mended : (w h : ℕ) (map : List ℕ) (nb a b : ℕ) (old : Sheet) (s : MendSlices) (r : MendAnswer)
    (s' : MendSlices) → Mends w h map nb a b old s r s' → MendsSheet w h map nb a b old r s'
sheet-mended w h map nb a b old s r s' M = record {
  route = λ z. ap check_number (mended-route M z);
  no_route = λ z. ap check_number (mended-none M z);
  d_whole = λ o. (counts-exact M o).d;
  e_whole = λ o. (counts-exact M o).e;
  f_whole = λ o. (counts-exact M o).f;
  b_whole = λ o. (counts-exact M o).back;
  route_whole = λ o. (counts-exact M o).route;
  next_whole = λ o. (counts-exact M o).next;
}
