-- Used by contracts between functions; nobody has to believe it: laws tie it to the definitions.
-- What the tests of a job find on the way, and what planner and checker know of a job whose shape is good, by the law
-- `good-job`.
--
--   shape_with w h l nb s    == the floor, then the neighbourhood, then the shape s of the rest: `job_shape` with that
--                               of the ends
--   dirs_shape w h l nb      == the floor and the neighbourhood alone: refusals 1 to 4
--   GoodJob w h map dirs a b == the floor, the directions of the neighbourhood and both ends are good; no end is a
--                               pinch
use Rattle.std.specs.Prelude.{ℕ, ◌<◌, ◌≡◌, false, List, Result, Ok}
use Rattle.floor.specs.Floor.{floor_of, vertices, column, row}
use Rattle.floor.specs.Known.{Sized}
use Rattle.floor.specs.Refusals.{Shape, floor_shape, and_then}
use Rattle.floor.specs.declared.Refusal.{Refusal}
use Rattle.sight.specs.Sight.{pinch}
use Rattle.moves.specs.declared.Directions.{Directions}
use Rattle.moves.specs.Moves.{neighbourhood_of}
use Rattle.moves.specs.Table.{Listed}
use Rattle.grid.specs.Grid.{with_dirs}

abbrev pub shape_with : ℕ → ℕ → List ℕ → ℕ → Shape → Result Directions Refusal
shape_with w h l nb s = and_then (floor_shape w h l) (with_dirs (neighbourhood_of nb) s)

unfoldable pub dirs_shape : ℕ → ℕ → List ℕ → ℕ → Result Directions Refusal
dirs_shape w h l nb = shape_with w h l nb (Ok tt)

pub record GoodJob (w h : ℕ) (map : List ℕ) (dirs : Directions) (a b : ℕ) : Type 0 where
  pub sized : Sized w h map
  pub listed : Listed dirs
  pub start_in : a < vertices w h
  pub goal_in : b < vertices w h
  pub start_free : pinch (floor_of w h map) (column w a) (row w a) ≡ false
  pub goal_free : pinch (floor_of w h map) (column w b) (row w b) ≡ false
