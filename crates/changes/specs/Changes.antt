-- docs/RULES.md, section 13: what the two reports answer, and what they leave in every lent slice, for every input. The
-- first floor is the one before the change, the second the one after it.
--
--   GivenFloor, given_floor_of w h map == a floor as it is handed in: its sides, and the bytes of its map
--   shape_of p                 == refusals 1 to 3 of the given floor p
--   floor_in p                 == the floor that p gives
--   floors_shape p q           == 1 to 3 of the first floor p, then of the second floor q, then 15 where the sizes
--                                 differ
--   closes f f' c              == cell c is open on the first floor and blocked on the second
--   opens f f' c               == cell c is blocked on the first floor and open on the second
--   differs f f' c             == cell c closes or opens: `closes f f' c || opens f f' c`
--   differing f f'             == the numbers of the differing cells, ascending
--   tally c o                  == the counts: c cells closed and o opened
--   tally_of f f'              == how many cells closed and how many opened from f to f'
--   cells_shape p q n          == the refusals of the first report, for a slice of n places: `floors_shape p q`, then 6
--   cells_answer p q l         == the first report's answer, for every input; l is the lent slice
--   cells_left p q l           == the slice l after the first report: the differing cells, then 0; untouched at a
--                                 refusal
--   ReportsCells ..            == the first report's promise: `cells_answer` and `cells_left`, for every input
--   change_of x y              == how a cost changed from x to y: 0 not at all, 3 from M, 4 to M, otherwise 1 fell, 2
--                                 rose
--   ReportSlices, report_slices_of c c' l k == the slices of the second report: the costs on the first floor and on the
--                           second, the changes, and the working slice
--   slices_shape v c c' n k    == refusal 6 of the second report on a floor of v vertices, for slices of c, c', n and k
--                                 places
--   start_shape p q a          == 5 of the start a, then 11 where it is a pinch of the first floor or of the second
--   report_shape ..            == the directions of the neighbourhood, or the first refusal of the second report, for
--                                 slices of the lengths given: `floors_shape p q`, 4, 5, 11, then 6
--   shape_for p q nb a s       == `report_shape` for the lengths of the slices s
--   costs_on g g' a            == the slices with the costs from a on the graphs of the two floors, and their changes
--   job_left f f' a s j        == the second report's slices afterwards, from the directions or the refusal j that
--                                 `report_shape` gives
--   costs_answer ..            == the second report's answer, for every input
--   costs_left ..              == the second report's slices afterwards, for every input: untouched at a refusal
--   ReportsCosts ..            == the second report's promise: `costs_answer` and `costs_left`, for every input
--   cells_number a             == the number of the first report's answer a
--   closed_count, opened_count == how many cells closed and opened, as the first report's answer says; 0 at a refusal
use Rattle.std.specs.Prelude.{ℕ, ◌*◌, ◌≡◌, Bool, ◌&&◌, ◌||◌, not, List, ltb, eqb, length, Result, Ok, Err}
use Rattle.basics.specs.Bounded.{pick, count}
use Rattle.basics.specs.Lists.{tabulate, padded, zeros, chosen}
use Rattle.floor.specs.Floor.{Floor, floor_of, cell_numbered, vertices}
use Rattle.floor.specs.Refusals.{Shape, good_if, answer_number, floor_shape, end_shape, and_then, left_by}
use Rattle.floor.specs.declared.Refusal.{Refusal}
use Rattle.floor.specs.declared.Refusal.TheVariants.{SliceLength, SizesDiffer}
use Rattle.moves.specs.Moves.{neighbourhood_of}
use Rattle.moves.specs.declared.Directions.{Directions}
use Rattle.paths.specs.Graph.{Graph}
use Rattle.paths.specs.Distance.{unreachable, distance}
use Rattle.grid.specs.Grid.{floor_graph, with_dirs, pinch_shape}
use Rattle.changes.specs.declared.Tally.{Tally}

-- ---- two floors

pub record GivenFloor : Type 0 where
  pub wide : ℕ
  pub high : ℕ
  pub map : List ℕ

abbrev pub given_floor_of : ℕ → ℕ → List ℕ → GivenFloor
given_floor_of w h map = record { wide = w; high = h; map = map }

abbrev pub shape_of : GivenFloor → Shape
shape_of p = floor_shape p.wide p.high p.map

abbrev pub floor_in : GivenFloor → Floor
floor_in p = floor_of p.wide p.high p.map

unfoldable pub floors_shape : GivenFloor → GivenFloor → Shape
floors_shape p q =
    and_then (shape_of p)
    (and_then (shape_of q) (pick (eqb p.wide q.wide && eqb p.high q.high) (Ok tt) (Err SizesDiffer)))

-- ---- the first report: the cells

abbrev pub closes : Floor → Floor → ℕ → Bool
closes f f' c = not (cell_numbered f c) && cell_numbered f' c

abbrev pub opens : Floor → Floor → ℕ → Bool
opens f f' c = cell_numbered f c && not (cell_numbered f' c)

abbrev pub differs : Floor → Floor → ℕ → Bool
differs f f' c = closes f f' c || opens f f' c

unfoldable pub differing : Floor → Floor → List ℕ
differing f f' = chosen (f.wide * f.high) (differs f f')

abbrev pub tally : ℕ → ℕ → Tally
tally closed opened = record { closed = closed; opened = opened }

unfoldable pub tally_of : Floor → Floor → Tally
tally_of f f' = tally (count (f.wide * f.high) (closes f f')) (count (f.wide * f.high) (opens f f'))

unfoldable pub cells_shape : GivenFloor → GivenFloor → ℕ → Shape
cells_shape p q n = and_then (floors_shape p q) (pick (eqb n (p.wide * p.high)) (Ok tt) (Err SliceLength))

unfoldable pub cells_answer : GivenFloor → GivenFloor → List ℕ → Result Tally Refusal
cells_answer p q l = and_then (cells_shape p q (length l)) (Ok (tally_of (floor_in p) (floor_in q)))

unfoldable pub cells_left : GivenFloor → GivenFloor → List ℕ → List ℕ
cells_left p q l =
    left_by (cells_shape p q (length l)) (padded (length l) (differing (floor_in p) (floor_in q))) l

-- The first report's promise: the slice l before, l' after, and the answer r.
pub record ReportsCells (p q : GivenFloor) (l : List ℕ) (r : Result Tally Refusal) (l' : List ℕ) : Type 0 where
  pub answer : r ≡ cells_answer p q l
  pub left : l' ≡ cells_left p q l

-- ---- the second report: the costs

unfoldable pub change_of : ℕ → ℕ → ℕ
change_of x y =
    pick (eqb x y) 0 (pick (eqb x unreachable) 3 (pick (eqb y unreachable) 4 (pick (ltb y x) 1 2)))

pub record ReportSlices : Type 0 where
  pub first : List ℕ
  pub second : List ℕ
  pub change : List ℕ
  pub work : List ℕ

abbrev pub report_slices_of : List ℕ → List ℕ → List ℕ → List ℕ → ReportSlices
report_slices_of c c' l k = record { first = c; second = c'; change = l; work = k }

unfoldable pub slices_shape : ℕ → ℕ → ℕ → ℕ → ℕ → Shape
slices_shape v c c' n k = pick (eqb c v && eqb c' v && eqb n v && eqb k (4 * v)) (Ok tt) (Err SliceLength)

unfoldable pub start_shape : GivenFloor → GivenFloor → ℕ → Shape
start_shape p q a =
    and_then (end_shape p.wide p.high a) (and_then (pinch_shape (floor_in p) a) (pinch_shape (floor_in q) a))

unfoldable pub report_shape : GivenFloor → GivenFloor → ℕ → ℕ → ℕ → ℕ → ℕ → ℕ → Result Directions Refusal
report_shape p q nb a c c' n k =
    and_then (floors_shape p q)
    (with_dirs (neighbourhood_of nb)
    (and_then (start_shape p q a) (slices_shape (vertices p.wide p.high) c c' n k)))

abbrev pub shape_for : GivenFloor → GivenFloor → ℕ → ℕ → ReportSlices → Result Directions Refusal
shape_for p q nb a s =
    report_shape p q nb a (length s.first) (length s.second) (length s.change) (length s.work)

unfoldable pub costs_on : Graph → Graph → ℕ → ReportSlices
costs_on g g' a = record {
  first = tabulate g.size (distance g a);
  second = tabulate g'.size (distance g' a);
  change = tabulate g.size (λ v. change_of (distance g a v) (distance g' a v));
  work = zeros (4 * g.size);
}

abbrev pub job_left : Floor → Floor → ℕ → ReportSlices → Result Directions Refusal → ReportSlices
job_left f f' a s (Ok dirs) = costs_on (floor_graph f dirs) (floor_graph f' dirs) a
job_left f f' a s (Err r) = s

unfoldable pub costs_answer : GivenFloor → GivenFloor → ℕ → ℕ → ReportSlices → Shape
costs_answer p q nb a s = good_if (shape_for p q nb a s)

unfoldable pub costs_left : GivenFloor → GivenFloor → ℕ → ℕ → ReportSlices → ReportSlices
costs_left p q nb a s = job_left (floor_in p) (floor_in q) a s (shape_for p q nb a s)

-- The second report's promise: the slices s before, s' after, and the answer r.
pub record ReportsCosts (p q : GivenFloor) (nb a : ℕ) (s : ReportSlices) (r : Shape) (s' : ReportSlices)
    : Type 0 where
  pub answer : r ≡ costs_answer p q nb a s
  pub left : s' ≡ costs_left p q nb a s

-- ---- number and values of an answer

abbrev pub cells_number : Result Tally Refusal → ℕ
cells_number r = answer_number r

abbrev pub closed_count : Result Tally Refusal → ℕ
closed_count (Ok t) = t.closed
closed_count (Err r) = 0

abbrev pub opened_count : Result Tally Refusal → ℕ
opened_count (Ok t) = t.opened
opened_count (Err r) = 0
