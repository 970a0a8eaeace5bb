-- `given_costs::costs_true` meets its contract: the start costs 0, and the rows passed are right; `above` and `here`
-- are the windows of the lines above y and at y. Assumes nothing.
use Prim.Native.Nat.{suc, ◌-◌}
use Rattle.basics.proofs.Scan.{Passed}
use Rattle.floor.specs.Plan.{floor_on}
use Rattle.masks.specs.Windows.{WindowRow}
use Rattle.grid.specs.Leaving.{leaving_graph}
use Rattle.given_costs.specs.Tests.{row_test}
use Rattle.given_costs.proofs.costs_true.Given as goal

abbrev pub invariant-loop-y : goal.invariant-loop-y
invariant-loop-y l =
    Passed (suc l.floor.h) l.y (row_test (leaving_graph (floor_on l.floor) l.dirs) l.a.0 l.d l.floor.w)
    × WindowRow (floor_on l.floor) (l.y - 1) l.windows (suc l.floor.w) l.above
    × WindowRow (floor_on l.floor) l.y l.windows (suc l.floor.w) l.here
