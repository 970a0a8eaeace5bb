-- The customer's three demands, and what the requests after them promise, on one page. The statements are the records
-- `Demand1`, `Demand2`, `Demand3` and `Requests`, each at the end of its section; proofs/Demands.antt proves the four.
-- Each field begins with what an operation promises, its `ensures`: `FillsCosts`, `Finishes`, `Thins` and so on, or the
-- equation of its answer. Nothing is assumed of the input.
--
-- Words that come from the crates below:
--   w, h, map             == a floor's width, height and map, as they are handed in; nb is the neighbourhood
--   floor_of w h map       == the floor with these cells; vertices w h is the number of its vertices, V
--   Graph                 == vertices 0 .. size - 1; move m of vertex u is open where `step m u` gives its far end, at
--                            cost `cost m`; moves 0 .. moves - 1 are in move order
--   Walk g k u v l        == the list l is an open walk from u to v of cost k
--   unreachable           == M, 4,294,967,295
--   entry s v             == the number at place v of the slice s
--   zeros n, padded n l   == n times 0; the list l, then 0 up to n places
--   tabulate n F          == the list F 0, .. F (n - 1)
--
-- Words of this page:
--   Joins g u v           == an open walk joins u to v
--   Cheapest g u v k      == k is the cheapest cost from u to v
--   Number g u v n        == n is the number of different cheapest walks from u to v
--   OnWay D E b v         == v is on the way, by the costs D from the start and E to b
--   LeadsOn g D E b u m w == move m leads from u to w, and w is a candidate of the central rule
--   CentralNext g D E F B b u w == the central rule goes from u to w
--   TrueRouteSheet, TrueNoRouteSheet == the two true sheets, number by number
--   line n c              == a line of a table of answers: answer n where c holds
--   first_of l             == the number of the first of the lines l that applies; 0 where none does
use Rattle.std.specs.Prelude.{ℕ, suc, ◌+◌, ◌-◌, ◌*◌, ◌^◌, ◌≤◌, ◌<◌, pred, ◌≡◌, ◌↔◌, ◌⊎◌, Bool, true, false, ◌&&◌, ◌||◌, not, leb, ltb, eqb, length, get_or, take, drop}
use Rattle.std.specs.Prelude.{Option, Some, None, Result}
use mathlib.Core.List.{List, [], ◌∷◌, ◌++◌, Memᴰ}
use Rattle.std.proofs.Math.Option.{some}
use Rattle.basics.specs.Bounded.{pick}
use Rattle.basics.specs.Lists.{tabulate, padded, zeros}
use Rattle.floor.specs.Floor.{Floor, floor_of, byte_floor, stored_cells, with_blocked, map_length, vertices, column, row}
use Rattle.floor.specs.Refusals.{Shape, side, unused_clear, answer_number}
use Rattle.floor.specs.declared.Refusal.{Refusal}
use Rattle.sight.specs.Sight.{sees, segment, pinch}
use Rattle.sight.specs.Question.{Sight, sight_answer, sight_number}
use Rattle.moves.specs.declared.Directions.{Directions}
use Rattle.moves.specs.Moves.{directions_of, neighbourhood_of}
use Rattle.paths.specs.Graph.{Graph}
use Rattle.paths.specs.Distance.{unreachable, distance, path_count}
use Rattle.paths.specs.Route.{on_shortest, central_route}
use Rattle.paths.specs.Sheet.{Sheet, sheet_of, joined, fits, route_sheet, no_route_sheet, same_sheet}
use Rattle.paths.specs.Local.{entry}
use Rattle.paths.specs.Flow.{Flow}
use Rattle.paths.specs.Walk.{Walk, HasWalk, Distinct}
use Rattle.grid.specs.Grid.{floor_graph}
use Rattle.given_costs.specs.Given.{costs_true}
use Rattle.planner.specs.Plan.{CostSlices, cost_slices_of, Slices, costs_sized, slices_sized, sheet_slices, costs_alone}
use Rattle.planner.specs.Plan.{Planned, FillsCosts, Finishes, plan_number, plan_cost, plan_total, plan_points}
use Rattle.checker.specs.Answer.{sheet_sized, check_answer, check_number}
use Rattle.checker.specs.declared.SheetKind.{SheetKind}
use Rattle.thinning.specs.Thinning.{seen, joined_list, kept_positions}
use Rattle.thinning.specs.Answer.{Thins, thin_number, thin_kept}
use Rattle.closures.specs.Plain.{Plain, nothing_held, within, lowest_free, free_in, closed_by, working_map}
use Rattle.closures.specs.Plain.{post_slot}
use Rattle.closures.specs.Table.{held, with_slot, empty_table, Posts, Strikes, Writes as WritesMap}
use Rattle.closures.specs.Calls.{Call as ClosureCall, table_after, plain_after}
use Rattle.closures.specs.declared.Rectangle.{Rectangle}
use Rattle.closures.specs.declared.Closures.{Closures}
use Rattle.stored_closures.specs.Stored.{stored_in, with_numbers, no_numbers, PostsIn, StrikesIn, WritesFrom}
use Rattle.stored_closures.specs.Calls.{none_stored, stored_after}
use Rattle.logs.specs.Log.{Log, log_of}
use Rattle.replay.specs.Replay.{ReplaySlices, replay_slices_of, log_costs, pinch_at, first_stop, last_stop, Replays}
use Rattle.replay.specs.Replay.{replay_number, replay_read, replay_cost, replay_unfollowed, replay_cheapest}
use Rattle.replay.specs.declared.Replayed.{Replayed}
use Rattle.changes.specs.Changes.{GivenFloor, floor_in, differing, ReportsCells, cells_number}
use Rattle.changes.specs.Changes.{ReportSlices, costs_on, ReportsCosts}
use Rattle.changes.specs.declared.Tally.{Tally}
use Rattle.records.specs.Format.{map_side}
use Rattle.writer.specs.Writing.{Call, put_map, put_job, call_bytes, in_turn, Writes as WritesRecord}
use Rattle.writer.specs.Calls.{fresh, after, ReadBack, read_end, WrittenBack}
use Rattle.writer.specs.declared.Writer.{Writer}
use Rattle.writer.specs.declared.AfterWrite.{AfterWrite}
use Rattle.legs.specs.Choices.{Choice, Fewest, fewest_legs}
use Rattle.legs.specs.Answer.{true_choice, proposed, check_answer as legsAnswer, Proposes}
use Rattle.mending.specs.Mending.{MendSlices, sheet_in, with_costs, sheet_differences, no_differences, Mends}
use Rattle.mending.specs.Mending.{MendAnswer, mend_number, mend_points, mend_differences}

-- ==== walks, and the numbers on a sheet

abbrev pub Joins : Graph → ℕ → ℕ → Type 0
Joins g u v = (k : ℕ) × HasWalk g k u v

-- The least cost of an open walk; M where there is none.
pub data Cheapest (g : Graph) (u v : ℕ) : ℕ → Type 0 where
  least : {k : ℕ} → HasWalk g k u v → ((j : ℕ) → HasWalk g j u v → k ≤ j) → Cheapest g u v k
  none : (Joins g u v → ⊥) → Cheapest g u v unreachable

-- Some list has each walk of the cheapest cost, each once, and nothing else; n is its length.
pub record Number (g : Graph) (u v n : ℕ) : Type 0 where
  pub cost : ℕ
  pub cheapest : Cheapest g u v cost
  pub walks : List (List ℕ)
  pub exactly : (l : List ℕ) → Memᴰ l walks ↔ Walk g cost u v l
  pub each_once : Distinct walks
  pub counted : length walks ≡ n

-- d(v) + e(v) = d(B), all three below M.
pub record OnWay (D E : ℕ → ℕ) (b v : ℕ) : Type 0 where
  pub sum : D v + E v ≡ D b
  pub below : D b < unreachable

-- Move m from u is open and leads to w, which is on the way with d(w) = d(u) + its cost.
pub record LeadsOn (g : Graph) (D E : ℕ → ℕ) (b u m w : ℕ) : Type 0 where
  pub listed : m < g.moves
  pub goes : g.step m u ≡ some w
  pub cost : D w ≡ D u + g.cost m
  pub is_on_way : OnWay D E b w

-- The central rule: from u to the w with the highest traversal count F(w) * B(w), of equals the first in move order.
pub record CentralNext (g : Graph) (D E F B : ℕ → ℕ) (b u w : ℕ) : Type 0 where
  pub move : ℕ
  pub leads : LeadsOn g D E b u move w
  pub highest : (m x : ℕ) → LeadsOn g D E b u m x → F x * B x ≤ F w * B w
  pub first : (m x : ℕ) → LeadsOn g D E b u m x → F x * B x ≡ F w * B w → move ≤ m

pub record Lengths (v : ℕ) (s : Sheet) : Type 0 where
  pub d : length s.d ≡ v
  pub e : length s.e ≡ v
  pub f : length s.f ≡ v
  pub b : length s.b ≡ v
  pub route : length s.route ≡ v
  pub next : length s.next ≡ v

-- `OnWay` and `CentralNext` by the numbers of a sheet.
abbrev pub OnWayIn : Sheet → ℕ → ℕ → Type 0
OnWayIn s b v = OnWay (entry s.d) (entry s.e) b v

abbrev pub NextIn : Graph → Sheet → ℕ → ℕ → ℕ → Type 0
NextIn g s b u w = CentralNext g (entry s.d) (entry s.e) (entry s.f) (entry s.b) b u w

-- The first n points of the route slice are the central route from a to b, and past them it is 0.
pub record CentralRoute (g : Graph) (a b : ℕ) (s : Sheet) : Type 0 where
  pub some : 1 ≤ s.n
  pub few : s.n ≤ g.size
  pub starts : entry s.route 0 ≡ a
  pub ends : entry s.route (pred s.n) ≡ b
  pub goes_on : (i : ℕ) → suc i < s.n
      → (entry s.route i ≡ b → ⊥) × NextIn g s b (entry s.route i) (entry s.route (suc i))
  pub rest : (i : ℕ) → s.n ≤ i → i < g.size → entry s.route i ≡ 0

-- A walk joins a to b, the total is at most 2^64 - 1, and every number of the sheet s is the true one.
pub record TrueRouteSheet (g : Graph) (a b : ℕ) (s : Sheet) : Type 0 where
  pub lengths : Lengths g.size s
  pub is_joined : Joins g a b
  pub costs_from : (v : ℕ) → v < g.size → Cheapest g a v (entry s.d v)
  pub costs_to : (v : ℕ) → v < g.size → Cheapest g v b (entry s.e v)
  pub counts_from : (v : ℕ) → v < g.size → OnWayIn s b v → Number g a v (entry s.f v)
  pub counts_to : (v : ℕ) → v < g.size → OnWayIn s b v → Number g v b (entry s.b v)
  pub counts_off : (v : ℕ) → v < g.size → (OnWayIn s b v → ⊥) → (entry s.f v ≡ 0) × (entry s.b v ≡ 0)
  pub total_fits : entry s.f b ≤ 2 ^ 64 - 1
  pub next_on : (v : ℕ) → v < g.size → OnWayIn s b v → (v ≡ b → ⊥) → NextIn g s b v (entry s.next v)
  pub next_end : entry s.next b ≡ b
  pub next_off : (v : ℕ) → v < g.size → (OnWayIn s b v → ⊥) → entry s.next v ≡ 0
  pub route : CentralRoute g a b s

-- No walk joins a to b, every cost from a is the true one, and all else is 0.
pub record TrueNoRouteSheet (g : Graph) (a b : ℕ) (s : Sheet) : Type 0 where
  pub lengths : Lengths g.size s
  pub not_joined : Joins g a b → ⊥
  pub costs_from : (v : ℕ) → v < g.size → Cheapest g a v (entry s.d v)
  pub else_zero : (v : ℕ) → v < g.size
      → (entry s.e v ≡ 0) × (entry s.f v ≡ 0) × (entry s.b v ≡ 0) × (entry s.route v ≡ 0)
      × (entry s.next v ≡ 0)
  pub no_points : s.n ≡ 0

-- ==== demand 1: any input is answered, by the first line that applies, and touches only what the answer says

-- That every call ends and touches nothing but what it was lent is proved of every function by the language's checker.
-- Stated here is which number an operation answers, as the first that applies, and what each answer leaves in the lent
-- slices.

pub record Line : Type 0 where
  pub number : ℕ
  pub applies : Bool

abbrev pub line : ℕ → Bool → Line
line n c = record { number = n; applies = c }

-- "Checked in this order; the first that applies is given"; 0 where none applies.
abbrev pub first_of : List Line → ℕ
first_of [] = 0
first_of (l ∷ ls) = pick l.applies l.number (first_of ls)

-- x at answer 0, else y.
abbrev pub at_zero : {A : Type 0} → ℕ → A → A → A
at_zero n x y = pick (eqb n 0) x y

-- W or H not 1 to 127; another map length than W * H / 8 rounded up; an unused bit set.
abbrev pub floor_lines : ℕ → ℕ → List ℕ → List Line
floor_lines w h map =
    line 1 (not (side w && side h))
    ∷ line 2 (not (eqb (length map) (map_length (w * h))))
    ∷ line 3 (not (unused_clear (w * h) map))
    ∷ []

abbrev pub is_neighbourhood : ℕ → Bool
is_neighbourhood nb = eqb nb 4 || (eqb nb 8 || eqb nb 16)

abbrev pub is_vertex : ℕ → ℕ → ℕ → Bool
is_vertex w h v = ltb v (vertices w h)

abbrev pub is_pinch : ℕ → ℕ → List ℕ → ℕ → Bool
is_pinch w h map v = pinch (floor_of w h map) (column w v) (row w v)

-- A floor, a neighbourhood and two ends.
abbrev pub job_lines : ℕ → ℕ → List ℕ → ℕ → ℕ → ℕ → List Line
job_lines w h map nb a b =
    floor_lines w h map
    ++ (line 4 (not (is_neighbourhood nb))
    ∷ line 5 (not (is_vertex w h a && is_vertex w h b))
    ∷ line 11 (is_pinch w h map a || is_pinch w h map b)
    ∷ [])

-- The directions of a neighbourhood, none where its number is refused, and the floor with these moves.
abbrev pub dirs_for : Option Directions → Directions
dirs_for (Some r) = r
dirs_for None = directions_of 0 0 0

abbrev pub graph_of : ℕ → ℕ → List ℕ → ℕ → Graph
graph_of w h map nb = floor_graph (floor_of w h map) (dirs_for (neighbourhood_of nb))

-- The sight question: 100 is "no". It is lent nothing to write in.
pub record AnswersSight (w h : ℕ) (map : List ℕ) (a b : ℕ) (r : Sight) : Type 0 where
  pub number : sight_number r ≡ first_of (
      floor_lines w h map
      ++ (line 5 (not (is_vertex w h a && is_vertex w h b))
      ∷ line 100 (not (sees (floor_of w h map) (segment w a b)))
      ∷ []))

-- The planner's first operation, lent d and a working slice.
abbrev pub costs_lines : ℕ → ℕ → List ℕ → ℕ → ℕ → CostSlices → List Line
costs_lines w h map nb a s = job_lines w h map nb a a ++ (line 6 (not (costs_sized (vertices w h) s)) ∷ [])

pub record AnswersCosts (w h : ℕ) (map : List ℕ) (nb a : ℕ) (s : CostSlices) (r : Shape) (s' : CostSlices)
    : Type 0 where
  pub number : answer_number r ≡ first_of (costs_lines w h map nb a s)
  pub leaves : s' ≡ at_zero (answer_number r)
      (cost_slices_of (tabulate (vertices w h) (distance (graph_of w h map nb) a)) (zeros (4 * vertices w h))) s

-- The planner's second operation, lent all other slices of the sheet and a working slice, with d to read. Its shape is
-- good where none of the lines `finish_shape` applies.
abbrev pub finish_shape : ℕ → ℕ → List ℕ → ℕ → ℕ → ℕ → List ℕ → Slices → List Line
finish_shape w h map nb a b d s =
    job_lines w h map nb a b
    ++ (line 6 (not (slices_sized (vertices w h) d s)) ∷ line 9 (not (costs_true (graph_of w h map nb) a d)) ∷ [])

abbrev pub plan_lines : Graph → ℕ → ℕ → List Line
plan_lines g a b = line 7 (not (joined g a b)) ∷ line 8 (not (fits g a b)) ∷ []

-- At 0 the true route sheet, at 7 the true no_route sheet, at 8 the costs alone, with the working slice all 0; else
-- untouched.
abbrev pub plan_left : {A : Type 0} → ℕ → A → A → A → A → A
plan_left n x0 x7 x8 s = pick (eqb n 0) x0 (pick (eqb n 7) x7 (pick (eqb n 8) x8 s))

pub record AnswersPlan (w h : ℕ) (map : List ℕ) (nb a b : ℕ) (d : List ℕ) (s : Slices) (r : Planned) (s' : Slices)
    (g : Graph) : Type 0 where
  pub number : plan_number r ≡ first_of (finish_shape w h map nb a b d s ++ plan_lines g a b)
  pub leaves : s' ≡ plan_left (plan_number r) (sheet_slices g.size (route_sheet g a b))
      (sheet_slices g.size (no_route_sheet g a)) (costs_alone g b) s
  pub cost : plan_cost r ≡ at_zero (plan_number r) (distance g a b) 0
  pub total : plan_total r ≡ at_zero (plan_number r) (path_count g a b) 0
  pub points : plan_points r ≡ at_zero (plan_number r) (length (central_route g a b)) 0

-- The checker, which is lent nothing to write in. Its shape is good where none of the lines `check_shape` applies.
abbrev pub check_shape : ℕ → ℕ → List ℕ → ℕ → ℕ → ℕ → Sheet → List Line
check_shape w h map nb a b s = job_lines w h map nb a b ++ (line 6 (not (sheet_sized (vertices w h) s)) ∷ [])

abbrev pub verdict_lines : Graph → ℕ → ℕ → Sheet → List Line
verdict_lines g a b s =
    line 0 (joined g a b && (fits g a b && same_sheet s (route_sheet g a b)))
    ∷ line 7 (not (joined g a b) && same_sheet s (no_route_sheet g a))
    ∷ line 9 true
    ∷ []

pub record AnswersCheck (w h : ℕ) (map : List ℕ) (nb a b : ℕ) (s : Sheet) (r : Result SheetKind Refusal) : Type 0 where
  pub number : check_number r
      ≡ first_of (check_shape w h map nb a b s ++ verdict_lines (graph_of w h map nb) a b s)

-- Thinning, lent an output slice.
abbrev pub thin_lines : ℕ → ℕ → List ℕ → List ℕ → List ℕ → ℕ → List Line
thin_lines w h map list out n =
    floor_lines w h map
    ++ (line 6 (not (leb (length list) 16384 && eqb (length out) (length list)))
    ∷ line 10 (not (joined_list (floor_of w h map) list n))
    ∷ [])

pub record AnswersThin (w h : ℕ) (map list out : List ℕ) (n : ℕ) (r : Result ℕ Refusal) (out' : List ℕ) : Type 0 where
  pub number : thin_number r ≡ first_of (thin_lines w h map list out n)
  pub kept : thin_kept r ≡ at_zero (thin_number r) (length (kept_positions (floor_of w h map) list n)) 0
  pub leaves : out' ≡ at_zero (thin_number r) (padded (length out) (kept_positions (floor_of w h map) list n)) out

-- The closures. `held` is the plain map from slot to rectangle that the table stands for; a C caller's 64 numbers stand
-- for `stored_in`.
abbrev pub post_lines : ℕ → ℕ → Plain → Rectangle → List Line
post_lines w h m r =
    line 1 (not (side w && side h)) ∷ line 12 (not (within w h r)) ∷ line 13 (not (ltb (lowest_free m) 16)) ∷ []

abbrev pub strike_lines : ℕ → ℕ → Plain → ℕ → List Line
strike_lines w h m k = line 1 (not (side w && side h)) ∷ line 14 (not (ltb k 16 && not (free_in m k))) ∷ []

abbrev pub work_lines : ℕ → ℕ → List ℕ → List ℕ → List Line
work_lines w h base work = floor_lines w h base ++ (line 6 (not (eqb (length work) (length base))) ∷ [])

pub record AnswersPost (t : Closures) (r : Rectangle) (p : Result ℕ Refusal) (t' : Closures) : Type 0 where
  pub number : answer_number p ≡ first_of (post_lines t.width t.height (held t) r)
  pub slot : post_slot p ≡ at_zero (answer_number p) (lowest_free (held t)) 0
  pub leaves : t' ≡ at_zero (answer_number p) (with_slot t (lowest_free (held t)) (Some r)) t

pub record AnswersStrike (t : Closures) (k : ℕ) (p : Shape) (t' : Closures) : Type 0 where
  pub number : answer_number p ≡ first_of (strike_lines t.width t.height (held t) k)
  pub leaves : t' ≡ at_zero (answer_number p) (with_slot t k None) t

pub record AnswersWorkingMap (t : Closures) (base work : List ℕ) (p : Shape) (work' : List ℕ) : Type 0 where
  pub number : answer_number p ≡ first_of (work_lines t.width t.height base work)
  pub leaves : work' ≡ at_zero (answer_number p) (working_map t.width t.height base (held t)) work

pub record AnswersStoredPost (w h : ℕ) (l : List ℕ) (r : Rectangle) (p : Result ℕ Refusal) (l' : List ℕ) : Type 0 where
  pub number : answer_number p ≡ first_of (post_lines w h (stored_in l) r)
  pub slot : post_slot p ≡ at_zero (answer_number p) (lowest_free (stored_in l)) 0
  pub leaves : l' ≡ at_zero (answer_number p) (with_numbers l (lowest_free (stored_in l)) r) l

pub record AnswersStoredStrike (w h : ℕ) (l : List ℕ) (k : ℕ) (p : Shape) (l' : List ℕ) : Type 0 where
  pub number : answer_number p ≡ first_of (strike_lines w h (stored_in l) k)
  pub leaves : l' ≡ at_zero (answer_number p) (with_numbers l k no_numbers) l

pub record AnswersStoredMap (w h : ℕ) (l base work : List ℕ) (p : Shape) (work' : List ℕ) : Type 0 where
  pub number : answer_number p ≡ first_of (work_lines w h base work)
  pub leaves : work' ≡ at_zero (answer_number p) (working_map w h base (stored_in l)) work

-- The replay of a log, lent a cost slice and a working slice. Both answers 0 and 17 write them.
abbrev pub replay_lines : ℕ → ℕ → List ℕ → ℕ → List ℕ → ReplaySlices → List Line
replay_lines w h map nb log s =
    floor_lines w h map
    ++ (line 4 (not (is_neighbourhood nb))
    ∷ line 16 (not (leb (length log) 16384))
    ∷ line 6 (not (eqb (length s.costs) (vertices w h) && eqb (length s.work) (4 * vertices w h)))
    ∷ [])

pub record AnswersReplay (w h : ℕ) (map : List ℕ) (nb : ℕ) (log : List ℕ) (s : ReplaySlices)
    (r : Result Replayed Refusal) (s' : ReplaySlices) : Type 0 where
  pub number : replay_number r
      ≡ first_of (replay_lines w h map nb log s ++ (line 17 (log_of log (vertices w h)).broken ∷ []))
  pub leaves : s' ≡ pick (eqb (replay_number r) 0 || eqb (replay_number r) 17)
      (replay_slices_of (log_costs (graph_of w h map nb) (pinch_at (floor_of w h map)) (log_of log (vertices w h)))
      (zeros (4 * vertices w h))) s

-- The two reports of what changed, from floor p to floor q.
abbrev pub floors_lines : GivenFloor → GivenFloor → List Line
floors_lines p q =
    floor_lines p.wide p.high p.map ++ floor_lines q.wide q.high q.map
    ++ (line 15 (not (eqb p.wide q.wide && eqb p.high q.high)) ∷ [])

pub record AnswersCells (p q : GivenFloor) (l : List ℕ) (r : Result Tally Refusal) (l' : List ℕ) : Type 0 where
  pub number : cells_number r
      ≡ first_of (floors_lines p q ++ (line 6 (not (eqb (length l) (p.wide * p.high))) ∷ []))
  pub leaves : l' ≡ at_zero (cells_number r) (padded (length l) (differing (floor_in p) (floor_in q))) l

abbrev pub report_lines : GivenFloor → GivenFloor → ℕ → ℕ → ReportSlices → List Line
report_lines p q nb a s =
    let v = vertices p.wide p.high in
    floors_lines p q
    ++ (line 4 (not (is_neighbourhood nb))
    ∷ line 5 (not (is_vertex p.wide p.high a))
    ∷ line 11 (is_pinch p.wide p.high p.map a || is_pinch q.wide q.high q.map a)
    ∷ line 6 (not (eqb (length s.first) v && eqb (length s.second) v && eqb (length s.change) v
    && eqb (length s.work) (4 * v)))
    ∷ [])

pub record AnswersChanges (p q : GivenFloor) (nb a : ℕ) (s : ReportSlices) (r : Shape) (s' : ReportSlices)
    : Type 0 where
  pub number : answer_number r ≡ first_of (report_lines p q nb a s)
  pub leaves : s' ≡ at_zero (answer_number r)
      (costs_on (graph_of p.wide p.high p.map nb) (graph_of q.wide q.high q.map nb) a) s

-- A call of the writer.
abbrev pub given_lines : Call → List Line
given_lines (put_map w h l) = line 1 (not (map_side w && map_side h)) ∷ floor_lines w h l
given_lines (put_job j) = []

abbrev pub write_lines : Writer → Call → List ℕ → List Line
write_lines c x buf =
    given_lines x
    ++ (line 20 (not (in_turn c.due x)) ∷ line 18 (not (leb (c.at + length (call_bytes x)) (length buf))) ∷ [])

pub record AnswersWrite (c : Writer) (x : Call) (buf : List ℕ) (r : AfterWrite) (buf' : List ℕ) : Type 0 where
  pub number : answer_number r.answer ≡ first_of (write_lines c x buf)
  pub writer : r.writer ≡ at_zero (answer_number r.answer)
      (record { at = c.at + length (call_bytes x); due = c.due + 1 }) c
  pub leaves : buf' ≡ at_zero (answer_number r.answer)
      (take c.at buf ++ call_bytes x ++ drop (c.at + length (call_bytes x)) buf) buf

-- Fewest stops: the checker of a proposal, and the proposer.
abbrev pub legs_lines : ℕ → ℕ → List ℕ → List ℕ → List ℕ → List ℕ → ℕ → List Line
legs_lines w h map list kept legs n =
    floor_lines w h map
    ++ (line 6 (not (leb (length list) 16384 && (eqb (length kept) (length list) && eqb (length legs) (length list))))
    ∷ line 10 (not (joined_list (floor_of w h map) list n))
    ∷ [])

pub record AnswersLegs (w h : ℕ) (map list : List ℕ) (n : ℕ) (kept : List ℕ) (c : ℕ) (legs : List ℕ) (r : Shape)
    : Type 0 where
  pub number : answer_number r ≡ first_of (
      legs_lines w h map list kept legs n
      ++ (line 19 (not (true_choice (seen (floor_of w h map) list) n kept c legs)) ∷ []))

pub record AnswersProposal (w h : ℕ) (map list kept legs : List ℕ) (n : ℕ) (r : Result ℕ Refusal) (kept' legs' : List ℕ)
    : Type 0 where
  pub number : thin_number r ≡ first_of (legs_lines w h map list kept legs n)
  pub count : thin_kept r ≡ at_zero (thin_number r) (length (proposed (seen (floor_of w h map) list) n)) 0
  pub leaves_kept : kept' ≡ at_zero (thin_number r)
      (padded (length kept) (proposed (seen (floor_of w h map) list) n)) kept
  pub leaves_legs : legs' ≡ at_zero (thin_number r)
      (padded (length legs) (tabulate n (fewest_legs (seen (floor_of w h map) list) n))) legs

-- The mending of a damaged sheet, which is only read, into a second set of slices.
abbrev pub mend_lines : ℕ → ℕ → List ℕ → ℕ → ℕ → ℕ → Sheet → MendSlices → List Line
mend_lines w h map nb a b old s =
    let v = vertices w h in
    job_lines w h map nb a b
    ++ (line 6 (not (sheet_sized v old && sheet_sized v (sheet_in s 0) && eqb (length s.work) (4 * v))) ∷ [])

pub record AnswersMend (w h : ℕ) (map : List ℕ) (nb a b : ℕ) (old : Sheet) (s : MendSlices) (r : MendAnswer)
    (s' : MendSlices) (g : Graph) : Type 0 where
  pub number : mend_number r ≡ first_of (mend_lines w h map nb a b old s ++ plan_lines g a b)
  pub leaves : s' ≡ plan_left (mend_number r)
      (with_costs (tabulate g.size (distance g a)) (sheet_slices g.size (route_sheet g a b)))
      (with_costs (tabulate g.size (distance g a)) (sheet_slices g.size (no_route_sheet g a)))
      (with_costs (tabulate g.size (distance g a)) (costs_alone g b)) s
  pub points : mend_points r ≡ at_zero (mend_number r) (length (central_route g a b)) 0
  pub counts : mend_differences r ≡ plan_left (mend_number r) (sheet_differences old (route_sheet g a b))
      (sheet_differences old (no_route_sheet g a)) no_differences no_differences

-- Demand 1: for every operation, what its table says follows from its `ensures`.
pub record Demand1 : Type 0 where
  pub sight : (w h : ℕ) (map : List ℕ) (a b : ℕ) (r : Sight) → r ≡ sight_answer w h map a b → AnswersSight w h map a b r
  pub costs : (w h : ℕ) (map : List ℕ) (nb a : ℕ) (s : CostSlices) (r : Shape) (s' : CostSlices)
      → FillsCosts w h map nb a s r s' → AnswersCosts w h map nb a s r s'
  pub plan : (w h : ℕ) (map : List ℕ) (nb a b : ℕ) (d : List ℕ) (s : Slices) (r : Planned) (s' : Slices)
      → Finishes w h map nb a b d s r s' → AnswersPlan w h map nb a b d s r s' (graph_of w h map nb)
  pub check : (w h : ℕ) (map : List ℕ) (nb a b : ℕ) (s : Sheet) (r : Result SheetKind Refusal)
      → r ≡ check_answer w h map nb a b s → AnswersCheck w h map nb a b s r
  pub thin : (w h : ℕ) (map list out : List ℕ) (n : ℕ) (r : Result ℕ Refusal) (out' : List ℕ)
      → Thins w h map list out n r out' → AnswersThin w h map list out n r out'
  pub post : (t : Closures) (r : Rectangle) (p : Result ℕ Refusal) (t' : Closures)
      → Posts t r p t' → AnswersPost t r p t'
  pub strike : (t : Closures) (k : ℕ) (p : Shape) (t' : Closures) → Strikes t k p t' → AnswersStrike t k p t'
  pub the_working_map : (t : Closures) (base work : List ℕ) (p : Shape) (work' : List ℕ)
      → WritesMap t base work p work' → AnswersWorkingMap t base work p work'
  pub stored_post : (w h : ℕ) (l : List ℕ) (r : Rectangle) (p : Result ℕ Refusal) (l' : List ℕ)
      → PostsIn w h l r p l' → AnswersStoredPost w h l r p l'
  pub stored_strike : (w h : ℕ) (l : List ℕ) (k : ℕ) (p : Shape) (l' : List ℕ)
      → StrikesIn w h l k p l' → AnswersStoredStrike w h l k p l'
  pub stored_map : (w h : ℕ) (l base work : List ℕ) (p : Shape) (work' : List ℕ)
      → WritesFrom w h l base work p work' → AnswersStoredMap w h l base work p work'
  pub replay : (w h : ℕ) (map : List ℕ) (nb : ℕ) (log : List ℕ) (s : ReplaySlices) (r : Result Replayed Refusal)
      (s' : ReplaySlices)
      → Replays w h map nb log s r s' → AnswersReplay w h map nb log s r s'
  pub cells : (p q : GivenFloor) (l : List ℕ) (r : Result Tally Refusal) (l' : List ℕ)
      → ReportsCells p q l r l' → AnswersCells p q l r l'
  pub changes : (p q : GivenFloor) (nb a : ℕ) (s : ReportSlices) (r : Shape) (s' : ReportSlices)
      → ReportsCosts p q nb a s r s' → AnswersChanges p q nb a s r s'
  pub write : (c : Writer) (x : Call) (buf : List ℕ) (r : AfterWrite) (buf' : List ℕ)
      → WritesRecord c x buf r buf' → AnswersWrite c x buf r buf'
  pub legs : (w h : ℕ) (map list kept legs : List ℕ) (n c : ℕ) (r : Shape)
      → r ≡ legsAnswer w h map list n kept c legs → AnswersLegs w h map list n kept c legs r
  pub proposal : (w h : ℕ) (map list kept legs : List ℕ) (n : ℕ) (r : Result ℕ Refusal) (kept' legs' : List ℕ)
      → Proposes w h map list kept legs n r kept' legs' → AnswersProposal w h map list kept legs n r kept' legs'
  pub mend : (w h : ℕ) (map : List ℕ) (nb a b : ℕ) (old : Sheet) (s : MendSlices) (r : MendAnswer) (s' : MendSlices)
      → Mends w h map nb a b old s r s' → AnswersMend w h map nb a b old s r s' (graph_of w h map nb)

-- ==== demand 2: costs, counts, route, "no route" and "too many" are exactly the published method's

-- No cost other than M is above 16,383 times the dearest move.
abbrev pub bound : ℕ → ℕ
bound nb = pick (eqb nb 16) 36632388 9452991

pub record Bounded (nb v : ℕ) (l : List ℕ) : Type 0 where
  pub at : (u : ℕ) → u < v → (entry l u ≡ unreachable) ⊎ (entry l u ≤ bound nb)

-- The first operation at answer 0: every cost from a is the least cost of an open walk, and M where there is none.
pub record TrueCosts (g : Graph) (nb a : ℕ) (d : List ℕ) : Type 0 where
  pub length_is : length d ≡ g.size
  pub costs : (v : ℕ) → v < g.size → Cheapest g a v (entry d v)
  pub bounded : Bounded nb g.size d

-- At answer 8 the costs are true and all else is 0.
pub record CostsAlone (g : Graph) (b : ℕ) (s : Slices) : Type 0 where
  pub costs_to : (v : ℕ) → v < g.size → Cheapest g v b (entry s.e v)
  pub else_zero : (v : ℕ) → v < g.size
      → (entry s.f v ≡ 0) × (entry s.b v ≡ 0) × (entry s.route v ≡ 0) × (entry s.next v ≡ 0)

-- The sheet that d and the slices s make, with n points.
abbrev pub sheet_with : List ℕ → Slices → ℕ → Sheet
sheet_with d s n = sheet_of d s.e s.f s.b s.route s.next n

-- The second operation, where its shape is good.
pub record Plans (g : Graph) (nb a b : ℕ) (d : List ℕ) (r : Planned) (s' : Slices) : Type 0 where
  pub no_route : (plan_number r ≡ 7) ↔ (Joins g a b → ⊥)
  pub too_many : (plan_number r ≡ 8) ↔ (Joins g a b × ((n : ℕ) × Number g a b n × (2 ^ 64 - 1 < n)))
  pub else_route : (plan_number r ≡ 0) ↔ (Joins g a b × ((n : ℕ) × Number g a b n × (n ≤ 2 ^ 64 - 1)))
  pub sheet : plan_number r ≡ 0 → TrueRouteSheet g a b (sheet_with d s' (plan_points r))
  pub cost : plan_number r ≡ 0 → Cheapest g a b (plan_cost r)
  pub total : plan_number r ≡ 0 → Number g a b (plan_total r)
  pub sheet_none : plan_number r ≡ 7 → TrueNoRouteSheet g a b (sheet_with d s' 0)
  pub only_costs : plan_number r ≡ 8 → CostsAlone g b s'
  pub bounded_from : Bounded nb g.size d
  pub bounded_to : (plan_number r ≡ 7 → ⊥) → Bounded nb g.size s'.e

-- The two operations together are the planner of the scope document: from slices of the right lengths, whatever stands
-- in them, the second operation on the d of the first finds a good shape, so that it answers 0, 7 or 8.
pub record Planner (w h : ℕ) (map : List ℕ) (nb a b : ℕ) (d : List ℕ) (t : Slices) (q : Planned) (t' : Slices)
    : Type 0 where
  pub shape_good : first_of (finish_shape w h map nb a b d t) ≡ 0
  pub plans : Plans (graph_of w h map nb) nb a b d q t'

-- Thinning at answer 0: j is kept after i where all positions past i up to j are seen from i, and j is the last
-- position or the one past it is not seen from i.
pub record KeptAfter (f : Floor) (list : List ℕ) (n i j : ℕ) : Type 0 where
  pub later : i < j
  pub within : j < n
  pub seen_all : (k : ℕ) → i < k → k ≤ j → seen f list i k ≡ true
  pub stops : suc j < n → seen f list i (suc j) ≡ false

-- The first k numbers of `out` are the kept positions, past them it is 0.
pub record Kept (f : Floor) (list : List ℕ) (n k : ℕ) (out : List ℕ) : Type 0 where
  pub some : 1 ≤ k
  pub starts : get_or out 0 0 ≡ 0
  pub ends : get_or out (pred k) 0 ≡ pred n
  pub next : (m : ℕ) → suc m < k → KeptAfter f list n (get_or out m 0) (get_or out (suc m) 0)
  pub each_sees_next : (m : ℕ) → suc m < k → seen f list (get_or out m 0) (get_or out (suc m) 0) ≡ true
  pub rest : (m : ℕ) → k ≤ m → get_or out m 0 ≡ 0

-- Demand 2, of the planner's operations, of the two together, and of thinning.
pub record Demand2 : Type 0 where
  pub costs : (w h : ℕ) (map : List ℕ) (nb a : ℕ) (s : CostSlices) (r : Shape) (s' : CostSlices)
      → FillsCosts w h map nb a s r s' → answer_number r ≡ 0 → TrueCosts (graph_of w h map nb) nb a s'.d
  pub plan : (w h : ℕ) (map : List ℕ) (nb a b : ℕ) (d : List ℕ) (s : Slices) (r : Planned) (s' : Slices)
      → Finishes w h map nb a b d s r s' → first_of (finish_shape w h map nb a b d s) ≡ 0
      → Plans (graph_of w h map nb) nb a b d r s'
  pub planner : (w h : ℕ) (map : List ℕ) (nb a b : ℕ) (s : CostSlices) (r : Shape) (s' : CostSlices) (t : Slices)
      (q : Planned) (t' : Slices) → FillsCosts w h map nb a s r s' → answer_number r ≡ 0
      → Finishes w h map nb a b s'.d t q t'
      → first_of (job_lines w h map nb a b ++ (line 6 (not (slices_sized (vertices w h) s'.d t)) ∷ [])) ≡ 0
      → Planner w h map nb a b s'.d t q t'
  pub thin : (w h : ℕ) (map list out : List ℕ) (n : ℕ) (r : Result ℕ Refusal) (out' : List ℕ)
      → Thins w h map list out n r out' → thin_number r ≡ 0 → Kept (floor_of w h map) list n (thin_kept r) out'

-- ==== demand 3: the checker accepts exactly the true sheets

pub record Checks (g : Graph) (a b : ℕ) (s : Sheet) (r : Result SheetKind Refusal) : Type 0 where
  pub route : (check_number r ≡ 0) ↔ TrueRouteSheet g a b s
  pub no_route : (check_number r ≡ 7) ↔ TrueNoRouteSheet g a b s
  pub refused : (check_number r ≡ 9) ↔ ((TrueRouteSheet g a b s → ⊥) × (TrueNoRouteSheet g a b s → ⊥))

-- Demand 3, where the shape is good, whatever numbers stand on the sheet.
pub record Demand3 : Type 0 where
  pub check : (w h : ℕ) (map : List ℕ) (nb a b : ℕ) (s : Sheet) (r : Result SheetKind Refusal)
      → r ≡ check_answer w h map nb a b s → first_of (check_shape w h map nb a b s) ≡ 0 → Checks (graph_of w h map nb) a b s r

-- ==== the requests

-- 1. After any calls from empty, the working map is of good shape and has the cells that are blocked in the base map or
-- covered by a closure that a plain map from slot to rectangle would hold. So on the working map demands 2 and 3 speak
-- of the graph `closed_graph`.
abbrev pub closed_graph : ℕ → ℕ → List ℕ → Plain → ℕ → Graph
closed_graph w h base m nb =
    floor_graph (with_blocked (floor_of w h base) (closed_by m)) (dirs_for (neighbourhood_of nb))

pub record ReadsClosures (w h : ℕ) (base work : List ℕ) (m : Plain) : Type 0 where
  pub shape_good : first_of (floor_lines w h work) ≡ 0
  pub cells : (i j : ℕ) → i < w → j < h → (floor_of w h work).cell i j ≡ ((floor_of w h base).cell i j || closed_by m i j)
  pub graph : (nb : ℕ) → graph_of w h work nb ≡ closed_graph w h base m nb
  pub plan : (nb a b : ℕ) (d : List ℕ) (s : Slices) (r : Planned) (s' : Slices) → Finishes w h work nb a b d s r s'
      → first_of (finish_shape w h work nb a b d s) ≡ 0 → Plans (closed_graph w h base m nb) nb a b d r s'
  pub check : (nb a b : ℕ) (s : Sheet) (r : Result SheetKind Refusal) → r ≡ check_answer w h work nb a b s
      → first_of (check_shape w h work nb a b s) ≡ 0 → Checks (closed_graph w h base m nb) a b s r

-- 6. A packed floor is the byte floor with the same cells, so whatever is asked of one is answered as of the other.
pub record ReadsPacked (w h : ℕ) (cells : List ℕ) : Type 0 where
  pub floor : floor_of w h (stored_cells cells) ≡ byte_floor w h cells
  pub graph : (nb : ℕ) → graph_of w h (stored_cells cells) nb
      ≡ floor_graph (byte_floor w h cells) (dirs_for (neighbourhood_of nb))

-- 9. A log is called cheapest exactly when it has a record, none is bad, each follows the one before, and its cost is
-- the least of an open walk from its first stop to its last.
pub record RightlyCheapest (g : Graph) (l : Log) (r : Result Replayed Refusal) : Type 0 where
  pub called : (replay_cheapest r ≡ true) ↔ ((1 ≤ replay_read r) × (replay_number r ≡ 0) × (replay_unfollowed r ≡ 0)
      × Cheapest g (first_stop l) (last_stop l) (replay_cost r))

-- 11. Writer and reader are inverse. After any calls of a fresh writer on a buffer that nobody else writes, once a map
-- is in, reading what was written gives the floor and the jobs of the calls that were not refused (`ReadBack`); with
-- room enough, writing what is read of a stream before any bad record gives the same bytes (`WrittenBack`).
abbrev pub ReadsBack : List ℕ → List Call → Type 0
ReadsBack buf xs = 1 ≤ (after (fresh buf) xs).writer.due → ReadBack buf xs

abbrev pub WritesBack : List ℕ → List ℕ → Type 0
WritesBack s buf = ((k : ℕ) → get_or s k 0 < 256) → read_end s ≤ length buf → WrittenBack s buf

-- 12. A right choice of stops: the first c positions of `kept` rise from 0 to n - 1, and each sees the next; they have
-- as many legs as the number at position 0; each of the first n numbers of `legs` is the fewest legs over all rising
-- clear choices from its position; the rest of both slices is 0.
pub record FewestStops (s : ℕ → ℕ → Bool) (n : ℕ) (kept : List ℕ) (c : ℕ) (legs : List ℕ) : Type 0 where
  pub within : c ≤ length kept
  pub choice : Choice s n 0 (take c kept)
  pub as_many : c ≡ suc (get_or legs 0 0)
  pub fewest : (i : ℕ) → i < n → Fewest s n i (get_or legs i 0)
  pub kept_rest : (k : ℕ) → c ≤ k → k < length kept → get_or kept k 0 ≡ 0
  pub legs_rest : (k : ℕ) → n ≤ k → k < length legs → get_or legs k 0 ≡ 0

-- Where the shape is good, a proposal is accepted exactly when `FewestStops` holds of it; and what our own proposer
-- proposes is accepted.
pub record JudgesStops (w h : ℕ) (map list : List ℕ) (n : ℕ) (kept : List ℕ) (c : ℕ) (legs : List ℕ) (r : Shape)
    : Type 0 where
  pub accepts : (answer_number r ≡ 0) ↔ FewestStops (seen (floor_of w h map) list) n kept c legs

pub record ProposesStops (w h : ℕ) (map list : List ℕ) (n : ℕ) (r : Result ℕ Refusal) (kept' legs' : List ℕ)
    : Type 0 where
  pub accepted : answer_number (legsAnswer w h map list n kept' (thin_kept r) legs') ≡ 0

-- 13. Whenever the planner answers 0, the traversal counts are a flow with the total that it answers. `Flow` says that
-- the traversal count of each vertex on the way is the sum of the flow that leaves it, except at b, and the sum of the
-- flow that enters it, except at a; and that at a and at b it is the total.
abbrev pub Flows : Graph → ℕ → ℕ → List ℕ → Slices → ℕ → Type 0
Flows g a b d s t = Flow g a b (on_shortest (entry d) (entry s.e) b) (entry d) (entry s.f) (entry s.b) t

-- 14. At 0 and 7 the checker accepts the mended sheet, with the point count answered, and a count of differing places
-- is 0 exactly when the old slice was the true one.
pub record MendsSheet (w h : ℕ) (map : List ℕ) (nb a b : ℕ) (old : Sheet) (r : MendAnswer) (s' : MendSlices)
    : Type 0 where
  pub route : mend_number r ≡ 0 → check_number (check_answer w h map nb a b (sheet_in s' (mend_points r))) ≡ 0
  pub no_route : mend_number r ≡ 7 → check_number (check_answer w h map nb a b (sheet_in s' (mend_points r))) ≡ 7
  pub d_whole : (mend_number r ≡ 0) ⊎ (mend_number r ≡ 7) → ((mend_differences r).d ≡ 0) ↔ (old.d ≡ s'.d)
  pub e_whole : (mend_number r ≡ 0) ⊎ (mend_number r ≡ 7) → ((mend_differences r).e ≡ 0) ↔ (old.e ≡ s'.e)
  pub f_whole : (mend_number r ≡ 0) ⊎ (mend_number r ≡ 7) → ((mend_differences r).f ≡ 0) ↔ (old.f ≡ s'.f)
  pub b_whole : (mend_number r ≡ 0) ⊎ (mend_number r ≡ 7) → ((mend_differences r).back ≡ 0) ↔ (old.b ≡ s'.b)
  pub route_whole : (mend_number r ≡ 0) ⊎ (mend_number r ≡ 7) → ((mend_differences r).route ≡ 0) ↔ (old.route ≡ s'.route)
  pub next_whole : (mend_number r ≡ 0) ⊎ (mend_number r ≡ 7) → ((mend_differences r).next ≡ 0) ↔ (old.next ≡ s'.next)

pub record Requests : Type 0 where
  pub closures : (w h : ℕ) (cs : List ClosureCall) (base work : List ℕ) (p : Shape) (work' : List ℕ)
      → WritesMap (table_after (empty_table w h) cs) base work p work' → answer_number p ≡ 0
      → ReadsClosures w h base work' (plain_after w h nothing_held cs)
  pub stored_closures : (w h : ℕ) (cs : List ClosureCall) (base work : List ℕ) (p : Shape) (work' : List ℕ)
      → WritesFrom w h (stored_after w h none_stored cs) base work p work' → answer_number p ≡ 0
      → ReadsClosures w h base work' (plain_after w h nothing_held cs)
  pub packed : (w h : ℕ) (cells : List ℕ) → ReadsPacked w h cells
  pub cheapest : (w h : ℕ) (map : List ℕ) (nb : ℕ) (log : List ℕ) (s : ReplaySlices) (r : Result Replayed Refusal)
      (s' : ReplaySlices)
      → Replays w h map nb log s r s' → RightlyCheapest (graph_of w h map nb) (log_of log (vertices w h)) r
  pub read_back : (buf : List ℕ) (xs : List Call) → ReadsBack buf xs
  pub write_back : (s buf : List ℕ) → WritesBack s buf
  pub judged : (w h : ℕ) (map list : List ℕ) (n : ℕ) (kept : List ℕ) (c : ℕ) (legs : List ℕ) (r : Shape)
      → r ≡ legsAnswer w h map list n kept c legs → first_of (legs_lines w h map list kept legs n) ≡ 0
      → JudgesStops w h map list n kept c legs r
  pub proposed : (w h : ℕ) (map list kept legs : List ℕ) (n : ℕ) (r : Result ℕ Refusal) (kept' legs' : List ℕ)
      → Proposes w h map list kept legs n r kept' legs' → thin_number r ≡ 0 → ProposesStops w h map list n r kept' legs'
  pub flow : (w h : ℕ) (map : List ℕ) (nb a b : ℕ) (d : List ℕ) (s : Slices) (r : Planned) (s' : Slices)
      → Finishes w h map nb a b d s r s' → plan_number r ≡ 0 → Flows (graph_of w h map nb) a b d s' (plan_total r)
  pub mended : (w h : ℕ) (map : List ℕ) (nb a b : ℕ) (old : Sheet) (s : MendSlices) (r : MendAnswer) (s' : MendSlices)
      → Mends w h map nb a b old s r s' → MendsSheet w h map nb a b old r s'
