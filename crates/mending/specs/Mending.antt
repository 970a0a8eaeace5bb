-- docs/RULES.md, 14.1 to 14.3: what the operation answers, and what it leaves in every lent slice. The damaged sheet is
-- only read. The true sheet is written into a second set of slices, and the answer says for each slice at how many
-- places the damaged one and the true one differ.
--
--   MendSlices            == the slices lent to be written: those of the second set, and the working slice
--   sheet_in s n          == the sheet in the second set of s, with point count n
--   sheet_differences s t == for each slice, at how many places the sheets s and t differ
--   no_differences        == 0 for each slice: `sheet_differences` of two sheets that differ nowhere
--   sheet_answer g a b s  == the answer for the damaged sheet s of the job from a to b on graph g, where the shape is
--                            good: 0, 7 or 8
--   sheet_left g a b      == the slices that the answer `sheet_answer` leaves: d has the costs from a, and the others
--                            are as the planner leaves them
--   sheet_sized v l       == the slices of a sheet have v places each, by their lengths l
--   sheet_lengths s       == the lengths of the slices of the sheet s
--   mend_shape ..         == the directions of the neighbourhood, or the first refusal of 1 to 5, 11 and 6, by the
--                            lengths of the slices of both sheets and of the working slice
--   shape_for ..          == `mend_shape` by the slices themselves
--   job_answer, job_left  == the answer and the slices afterwards, by the shape: a refusal, or fit
--   mend_answer ..        == the answer, for every input
--   mend_left ..          == the slices afterwards, for every input: unchanged at answers 1 to 6 and 11
--   Mends ..              == the operation's promise: `mend_answer` and `mend_left`, for every input
--   mend_number, mend_points, mend_differences == the number (rule 6.1) and the values (rule 6.4) of an answer
--
-- A damaged sheet is a `Sheet`; its point count is not read.
use Rattle.std.specs.Prelude.{ℕ, ◌*◌, ◌≡◌, Bool, ◌&&◌, List, eqb, length, Result, Ok, Err, Option, Some, None}
use Rattle.basics.specs.Bounded.{pick}
use Rattle.basics.specs.Lists.{tabulate, differences}
use Rattle.floor.specs.Floor.{floor_of, vertices}
use Rattle.floor.specs.Refusals.{refusal_number}
use Rattle.floor.specs.declared.Refusal.{Refusal}
use Rattle.floor.specs.declared.Refusal.TheVariants.{SliceLength, NoRoute, TooMany}
use Rattle.moves.specs.declared.Directions.{Directions}
use Rattle.paths.specs.Graph.{Graph}
use Rattle.paths.specs.Distance.{distance}
use Rattle.paths.specs.Sheet.{Sheet, sheet_of, joined, fits, route_sheet, no_route_sheet}
use Rattle.grid.specs.Grid.{floor_graph, job_shape}
use Rattle.checker.specs.Answer.{sheet_sized}
use Rattle.planner.specs.Plan.{Slices, route_left}
use Rattle.mending.specs.declared.Differences.{Differences}
use Rattle.mending.specs.declared.Mended.{Mended}

pub record MendSlices : Type 0 where
  pub d : List ℕ
  pub e : List ℕ
  pub f : List ℕ
  pub b : List ℕ
  pub route : List ℕ
  pub next : List ℕ
  pub work : List ℕ

abbrev pub mend_slices_of : List ℕ → List ℕ → List ℕ → List ℕ → List ℕ → List ℕ → List ℕ → MendSlices
mend_slices_of d e f b route next work =
    record { d = d; e = e; f = f; b = b; route = route; next = next; work = work }

abbrev pub sheet_in : MendSlices → ℕ → Sheet
sheet_in s n = sheet_of s.d s.e s.f s.b s.route s.next n

-- ---- once the shape is good

abbrev pub sheet_differences : Sheet → Sheet → Differences
sheet_differences s t = record {
  d = differences s.d t.d;
  e = differences s.e t.e;
  f = differences s.f t.f;
  back = differences s.b t.b;
  route = differences s.route t.route;
  next = differences s.next t.next;
}

abbrev pub no_differences : Differences
no_differences = record { d = 0; e = 0; f = 0; back = 0; route = 0; next = 0 }

abbrev pub MendAnswer : Type 0
MendAnswer = Result Mended Refusal

-- What is answered where a walk joins the ends by a route of n points, and where none does.
abbrev pub by_route : ℕ → Differences → MendAnswer
by_route n c = Ok (record { points = Some n; differences = c })

abbrev pub by_none : Differences → MendAnswer
by_none c = Ok (record { points = None; differences = c })

unfoldable pub sheet_answer : Graph → ℕ → ℕ → Sheet → MendAnswer
sheet_answer g a b s =
    pick (joined g a b)
    (pick (fits g a b) (by_route (route_sheet g a b).n (sheet_differences s (route_sheet g a b))) (Err TooMany))
    (by_none (sheet_differences s (no_route_sheet g a)))

-- d beside the slices that the planner finishes.
abbrev pub with_costs : List ℕ → Slices → MendSlices
with_costs d s = mend_slices_of d s.e s.f s.b s.route s.next s.work

unfoldable pub sheet_left : Graph → ℕ → ℕ → MendSlices
sheet_left g a b = with_costs (tabulate g.size (distance g a)) (route_left g a b)

-- ---- for every input

-- The shape of the job, but refusal 6 where it is fit and z says that the slices have wrong lengths.
abbrev pub if_sized : Bool → Result Directions Refusal → Result Directions Refusal
if_sized z (Ok dirs) = pick z (Ok dirs) (Err SliceLength)
if_sized z (Err r) = Err r

unfoldable pub mend_shape : ℕ → ℕ → List ℕ → ℕ → ℕ → ℕ → Sheet → Sheet → List ℕ → Result Directions Refusal
mend_shape w h map nb a b old second work =
    let v = vertices w h in
    if_sized (sheet_sized v old && sheet_sized v second && eqb (length work) (4 * v)) (job_shape w h map nb a b)

abbrev pub shape_for : ℕ → ℕ → List ℕ → ℕ → ℕ → ℕ → Sheet → MendSlices → Result Directions Refusal
shape_for w h map nb a b old s = mend_shape w h map nb a b old (sheet_in s 0) s.work

abbrev pub job_answer : ℕ → ℕ → List ℕ → ℕ → ℕ → Sheet → Result Directions Refusal → MendAnswer
job_answer w h map a b old (Ok dirs) = sheet_answer (floor_graph (floor_of w h map) dirs) a b old
job_answer w h map a b old (Err r) = Err r

abbrev pub job_left : ℕ → ℕ → List ℕ → ℕ → ℕ → MendSlices → Result Directions Refusal → MendSlices
job_left w h map a b s (Ok dirs) = sheet_left (floor_graph (floor_of w h map) dirs) a b
job_left w h map a b s (Err r) = s

unfoldable pub mend_answer : ℕ → ℕ → List ℕ → ℕ → ℕ → ℕ → Sheet → MendSlices → MendAnswer
mend_answer w h map nb a b old s = job_answer w h map a b old (shape_for w h map nb a b old s)

unfoldable pub mend_left : ℕ → ℕ → List ℕ → ℕ → ℕ → ℕ → Sheet → MendSlices → MendSlices
mend_left w h map nb a b old s = job_left w h map a b s (shape_for w h map nb a b old s)

-- The operation's promise: the damaged sheet, s before, s' after, and the answer r.
pub record Mends (w h : ℕ) (map : List ℕ) (nb a b : ℕ) (old : Sheet) (s : MendSlices) (r : MendAnswer) (s' : MendSlices)
    : Type 0 where
  pub answer : r ≡ mend_answer w h map nb a b old s
  pub left : s' ≡ mend_left w h map nb a b old s

-- ---- number and values of an answer

abbrev pub number_by : Option ℕ → ℕ
number_by (Some n) = 0
number_by None = refusal_number NoRoute

abbrev pub points_by : Option ℕ → ℕ
points_by (Some n) = n
points_by None = 0

abbrev pub mend_number : MendAnswer → ℕ
mend_number (Ok m) = number_by m.points
mend_number (Err r) = refusal_number r

abbrev pub mend_points : MendAnswer → ℕ
mend_points (Ok m) = points_by m.points
mend_points (Err r) = 0

abbrev pub mend_differences : MendAnswer → Differences
mend_differences (Ok m) = m.differences
mend_differences (Err r) = no_differences
