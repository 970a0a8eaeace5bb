-- docs/RULES.md, 12.3 to 12.10: what is driven by a log, what the operation answers, and what it leaves in the two lent
-- slices. A log is the list of its stops in order, and whether a bad record ended the reading (logs/specs/Log.antt).
--
--   goes_to o v             == the far end o is the vertex v
--   move_cost g u v         == the cost of the open move from u to v; none where there is none
--   leg_cost g o v          == 0 where o is none or v, else the cost of the open move from o to v
--   follow_cost g p o v     == the cost at which a record of vertex v follows one of the vertex o, or is the first
--                              where o is none; none where it cannot follow. p v says that v is a pinch, where no
--                              record can be
--   Driven                  == the cost driven, and the first record that cannot follow, if any
--   throughout f            == every record could follow
--   drive g p k o c l       == what is driven by the stops l, after the cost c; the first of them is record k, and o is
--                              the vertex of the record before it
--   driven g p l            == what is driven by the log l
--   faultless g p l         == the log l has a record and neither fault
--   first_stop, last_stop   == the vertices of the first and the last record
--   last_of v l             == the last vertex of the list l; v where it is empty
--   cheapest g p l          == l is faultless, and its cost is the distance between its first and its last stop
--   log_answer, log_costs   == what is answered of the log l, and the cost slice afterwards, where the shape is good
--   ReplaySlices            == the two lent slices: the costs and the working slice
--   log_shape v n c k       == refusals 16 and then 6 on a floor of v vertices, for a log of n bytes and slices of c
--                              and k places
--   replay_shape, shape_for == the directions of the neighbourhood, or the first refusal of 1, 2, 3, 4, 16 and 6
--   pinch_at f v            == the vertex with number v is a pinch of the floor f
--   job_answer, job_left    == the answer and the slices afterwards, by the shape: a refusal, or fit
--   replay_answer ..        == the answer, for every input
--   replay_left ..          == the two slices afterwards, for every input: unchanged at every refusal but 17
--   Replays ..              == the operation's promise: `replay_answer` and `replay_left`, for every input
--   record_number f         == the number of the record f; 0 where there is none
--   bad_number f            == the number of an answer with the bad record f (rule 6.1): 0 where there is none
--   replay_number, replay_read, replay_cost, replay_unfollowed, replay_bad, replay_cheapest == the number and the values of
--                            an answer; 0 for the number of a record that there is not
use Rattle.std.specs.Prelude.{ℕ, ◌+◌, ◌*◌, ◌≡◌, Bool, true, false, ◌&&◌, not, List, [], ◌∷◌, leb, ltb, eqb, length, get_or}
use Rattle.std.specs.Prelude.{Option, None, Some, Result, Ok, Err}
use Rattle.std.proofs.Math.Option.{Option as End, none as no_end, some as end_at}
use Rattle.basics.specs.Bounded.{pick, seek}
use Rattle.basics.specs.Lists.{tabulate, zeros}
use Rattle.floor.specs.Floor.{Floor, floor_of, vertices, column, row}
use Rattle.floor.specs.Refusals.{Shape, refusal_number, floor_shape, and_then}
use Rattle.floor.specs.declared.Refusal.{Refusal}
use Rattle.floor.specs.declared.Refusal.TheVariants.{SliceLength, LogLength, BadLogRecord}
use Rattle.sight.specs.Sight.{pinch}
use Rattle.moves.specs.Moves.{neighbourhood_of}
use Rattle.moves.specs.declared.Directions.{Directions}
use Rattle.paths.specs.Graph.{Graph}
use Rattle.paths.specs.Distance.{distance}
use Rattle.grid.specs.Grid.{floor_graph, with_dirs}
use Rattle.logs.specs.Log.{Log, log_of}
use Rattle.replay.specs.declared.Replayed.{Replayed}

-- ---- one record after another

abbrev pub goes_to : End ℕ → ℕ → Bool
goes_to no_end v = false
goes_to (end_at w) v = eqb w v

-- The moves are distinct, so at most one goes from u to v.
unfoldable pub move_cost : Graph → ℕ → ℕ → Option ℕ
move_cost g u v =
    let m = seek g.moves 0 (λ m. goes_to (g.step m u) v) in pick (ltb m g.moves) (Some (g.cost m)) None

abbrev pub leg_cost : Graph → Option ℕ → ℕ → Option ℕ
leg_cost g None v = Some 0
leg_cost g (Some u) v = pick (eqb u v) (Some 0) (move_cost g u v)

unfoldable pub follow_cost : Graph → (ℕ → Bool) → Option ℕ → ℕ → Option ℕ
follow_cost g p o v = pick (p v) None (leg_cost g o v)

-- ---- a whole log

pub record Driven : Type 0 where
  pub cost : ℕ
  pub unfollowed : Option ℕ

abbrev pub driven_of : ℕ → Option ℕ → Driven
driven_of c f = record { cost = c; unfollowed = f }

-- D x where the record follows at cost x, else d.
abbrev pub if_follows : Option ℕ → (ℕ → Driven) → Driven → Driven
if_follows None D d = d
if_follows (Some x) D d = D x

-- From the first record that cannot follow on, the cost stops growing.
unfoldable pub drive : Graph → (ℕ → Bool) → ℕ → Option ℕ → ℕ → List ℕ → Driven
drive g p k o c [] = driven_of c None
drive g p k o c (v ∷ l) =
    if_follows (follow_cost g p o v) (λ x. drive g p (k + 1) (Some v) (c + x) l) (driven_of c (Some k))

abbrev pub driven : Graph → (ℕ → Bool) → Log → Driven
driven g p l = drive g p 1 None 0 l.stops

abbrev pub throughout : Option ℕ → Bool
throughout None = true
throughout (Some k) = false

unfoldable pub faultless : Graph → (ℕ → Bool) → Log → Bool
faultless g p l = leb 1 (length l.stops) && (not l.broken && throughout (driven g p l).unfollowed)

abbrev pub first_stop : Log → ℕ
first_stop l = get_or l.stops 0 0

unfoldable pub last_of : ℕ → List ℕ → ℕ
last_of v [] = v
last_of v (w ∷ l) = last_of w l

abbrev pub last_stop : Log → ℕ
last_stop l = last_of 0 l.stops

unfoldable pub cheapest : Graph → (ℕ → Bool) → Log → Bool
cheapest g p l = faultless g p l && eqb (driven g p l).cost (distance g (first_stop l) (last_stop l))

-- ---- the answer, once the shape is good

-- The bad record comes after the last that was read.
unfoldable pub log_answer : Graph → (ℕ → Bool) → Log → Replayed
log_answer g p l = record {
  read = length l.stops;
  cost = (driven g p l).cost;
  unfollowed = (driven g p l).unfollowed;
  bad = pick l.broken (Some (length l.stops + 1)) None;
  cheapest = cheapest g p l;
}

unfoldable pub log_costs : Graph → (ℕ → Bool) → Log → List ℕ
log_costs g p l = pick (faultless g p l) (tabulate g.size (distance g (first_stop l))) (zeros g.size)

-- ---- for every input

pub record ReplaySlices : Type 0 where
  pub costs : List ℕ
  pub work : List ℕ

abbrev pub replay_slices_of : List ℕ → List ℕ → ReplaySlices
replay_slices_of costs work = record { costs = costs; work = work }

unfoldable pub log_shape : ℕ → ℕ → ℕ → ℕ → Shape
log_shape v log costs work =
    and_then (pick (leb log 16384) (Ok tt) (Err LogLength))
    (pick (eqb costs v && eqb work (4 * v)) (Ok tt) (Err SliceLength))

unfoldable pub replay_shape : ℕ → ℕ → List ℕ → ℕ → ℕ → ℕ → ℕ → Result Directions Refusal
replay_shape w h map nb log costs work =
    and_then (floor_shape w h map) (with_dirs (neighbourhood_of nb) (log_shape (vertices w h) log costs work))

abbrev pub shape_for : ℕ → ℕ → List ℕ → ℕ → List ℕ → ReplaySlices → Result Directions Refusal
shape_for w h map nb log s = replay_shape w h map nb (length log) (length s.costs) (length s.work)

unfoldable pub pinch_at : Floor → ℕ → Bool
pinch_at f v = pinch f (column f.wide v) (row f.wide v)

abbrev pub job_answer : ℕ → ℕ → List ℕ → List ℕ → Result Directions Refusal → Result Replayed Refusal
job_answer w h map log (Ok dirs) =
    let f = floor_of w h map in Ok (log_answer (floor_graph f dirs) (pinch_at f) (log_of log (vertices w h)))
job_answer w h map log (Err r) = Err r

abbrev pub job_left : ℕ → ℕ → List ℕ → List ℕ → ReplaySlices → Result Directions Refusal → ReplaySlices
job_left w h map log s (Ok dirs) =
    let f = floor_of w h map in
    replay_slices_of (log_costs (floor_graph f dirs) (pinch_at f) (log_of log (vertices w h))) (zeros (4 * vertices w h))
job_left w h map log s (Err r) = s

unfoldable pub replay_answer : ℕ → ℕ → List ℕ → ℕ → List ℕ → ReplaySlices → Result Replayed Refusal
replay_answer w h map nb log s = job_answer w h map log (shape_for w h map nb log s)

unfoldable pub replay_left : ℕ → ℕ → List ℕ → ℕ → List ℕ → ReplaySlices → ReplaySlices
replay_left w h map nb log s = job_left w h map log s (shape_for w h map nb log s)

-- The operation's promise: s before, s' after, and the answer r.
pub record Replays (w h : ℕ) (map : List ℕ) (nb : ℕ) (log : List ℕ) (s : ReplaySlices)
    (r : Result Replayed Refusal) (s' : ReplaySlices) : Type 0 where
  pub answer : r ≡ replay_answer w h map nb log s
  pub left : s' ≡ replay_left w h map nb log s

-- ---- number and values of an answer

-- The number of a record; 0 where there is none.
abbrev pub record_number : Option ℕ → ℕ
record_number None = 0
record_number (Some k) = k

abbrev pub bad_number : Option ℕ → ℕ
bad_number None = 0
bad_number (Some k) = refusal_number BadLogRecord

abbrev pub replay_number : Result Replayed Refusal → ℕ
replay_number (Ok d) = bad_number d.bad
replay_number (Err r) = refusal_number r

abbrev pub replay_read : Result Replayed Refusal → ℕ
replay_read (Ok d) = d.read
replay_read (Err r) = 0

abbrev pub replay_cost : Result Replayed Refusal → ℕ
replay_cost (Ok d) = d.cost
replay_cost (Err r) = 0

abbrev pub replay_unfollowed : Result Replayed Refusal → ℕ
replay_unfollowed (Ok d) = record_number d.unfollowed
replay_unfollowed (Err r) = 0

abbrev pub replay_bad : Result Replayed Refusal → ℕ
replay_bad (Ok d) = record_number d.bad
replay_bad (Err r) = 0

abbrev pub replay_cheapest : Result Replayed Refusal → Bool
replay_cheapest (Ok d) = d.cheapest
replay_cheapest (Err r) = false
