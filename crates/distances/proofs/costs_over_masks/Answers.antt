-- `distances::costs_over_masks` meets its contract: the algorithm runs on the floor's graph, as its masks and shifts
-- give it. Assumes nothing.
use Prim.Native.Nat.{ℕ, ◌<◌}
use native.Mathlib.Omega.{arith}
use Rattle.floor.specs.Floor.{vertices}
use Rattle.floor.specs.Plan.{floor_on}
use Rattle.grid.specs.Grid.{floor_graph}
use Rattle.distances.specs.Dijkstra.{Runnable}
use Rattle.distances.proofs.Operations.{runnable, ordered-costs}
use Rattle.distances.proofs.costs_over_masks.Goals.{After-classes_of-classes}
use Rattle.distances.proofs.costs_over_masks.Goals as goal

-- The algorithm runs on the floor's graph, from any vertex of it.
runs : (c : After-classes_of-classes) {x : ℕ}
    → let a = c.args in
    x < vertices a.floor.w a.floor.h
    → Runnable (floor_graph (floor_on a.floor) a.dirs) a.dirs c.shifts_of-shifts.result
    c.classes_of-classes.result x a.d.now a.work.now
runs c inside =
    runnable c.requires.costing c.requires.masks_in c.shifts_of-shifts.ensures c.classes_of-classes.ensures.0 inside

pub settle-requires : goal.settle-requires
settle-requires c =
    (_, _, runs (goal.at.settle-requires c).After-classes_of-classes (omega (arith, c.requires.costing.job.start_in)))

pub returns : goal.returns
returns c =
    let S = c.settle.ensures _ _ (runs (goal.at.returns c).After-classes_of-classes (omega (arith, c.requires.costing.job.start_in))) in
    ordered-costs c.requires.costing c.requires.masks_in S S.costs
