-- Used by contracts between functions; nobody has to believe it: laws tie it to the definitions.
-- What the functions of the operation require and leave.
--
--   answer_by p c          == the answer of the operation, where the planner's is p and the differences are c
--   AlikeSheets s t        == each slice of the sheet s is as long as that of the sheet t
--   Plannable ..           == a good job, and slices of the lengths that the planner needs
--   PlannedSheet g a b r s == the planner's answer r and the slices s are those of the job from a to b on graph g
--   Mendable ..            == `Plannable`, and a damaged sheet whose slices have a place for each vertex
--   MendsSheet ..          == the answer r and the slices s are those of the operation, where none of refusals 1 to 5,
--                             11 and 6 applies
use Rattle.std.specs.Prelude.{ℕ, ◌≡◌, List, eqb, length, Ok, Err}
use Rattle.basics.specs.Bounded.{pick}
use Rattle.floor.specs.Floor.{vertices}
use Rattle.floor.specs.Refusals.{refusal_number}
use Rattle.moves.specs.declared.Directions.{Directions}
use Rattle.paths.specs.Graph.{Graph}
use Rattle.paths.specs.Sheet.{Sheet}
use Rattle.paths.specs.Local.{Shaped}
use Rattle.grid.specs.Known.{GoodJob}
use Rattle.planner.specs.Plan.{Planned, route_answer}
use Rattle.planner.specs.Parts.{FullSlices}
use Rattle.mending.specs.declared.Differences.{Differences}
use Rattle.mending.specs.Mending.{MendSlices, MendAnswer, by_route, by_none, sheet_answer, sheet_left}

abbrev pub answer_by : Planned → Differences → MendAnswer
answer_by (Ok p) c = by_route p.points c
answer_by (Err r) c = pick (eqb (refusal_number r) 7) (by_none c) (Err r)

pub record AlikeSheets (s t : Sheet) : Type 0 where
  pub d : length s.d ≡ length t.d
  pub e : length s.e ≡ length t.e
  pub f : length s.f ≡ length t.f
  pub b : length s.b ≡ length t.b
  pub route : length s.route ≡ length t.route
  pub next : length s.next ≡ length t.next

pub record Plannable (w h : ℕ) (map : List ℕ) (dirs : Directions) (a b : ℕ) (s : MendSlices) : Type 0 where
  pub job : GoodJob w h map dirs a b
  pub lent : FullSlices (vertices w h) s.d s.e s.f s.b s.route s.next s.work

pub record PlannedSheet (g : Graph) (a b : ℕ) (r : Planned) (s : MendSlices) : Type 0 where
  pub answer : r ≡ route_answer g a b
  pub left : s ≡ sheet_left g a b

pub record Mendable (w h : ℕ) (map : List ℕ) (dirs : Directions) (a b : ℕ) (old : Sheet) (s : MendSlices) : Type 0 where
  pub plannable : Plannable w h map dirs a b s
  pub damaged : Shaped (vertices w h) old

pub record MendsSheet (g : Graph) (a b : ℕ) (old : Sheet) (r : MendAnswer) (s : MendSlices) : Type 0 where
  pub answer : r ≡ sheet_answer g a b old
  pub left : s ≡ sheet_left g a b
