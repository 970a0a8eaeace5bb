-- Used by contracts between functions; nobody has to believe it: laws tie it to the definitions.
-- A list of vertices on a floor, as the code has it.
--
--   seen_in p == which positions of the list p see each other
use Rattle.std.specs.Prelude.{ℕ, Bool}
use Rattle.floor.specs.Plan.{floor_on}
use Rattle.thinning.specs.Thinning.{seen}
use Rattle.thinning.specs.declared.points.PointList.{PointList}

abbrev pub seen_in : PointList → ℕ → ℕ → Bool
seen_in p = seen (floor_on p.floor) p.list.now
