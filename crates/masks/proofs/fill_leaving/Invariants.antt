use Prim.Native.Nat.{suc, ◌+◌, ◌-◌, ◌≤◌}
use Rattle.floor.specs.Floor.{number}
use Rattle.floor.specs.Plan.{floor_on}
use Rattle.masks.specs.Masks.{LeavingTo}
use Rattle.masks.specs.Windows.{WindowRow}
use Rattle.masks.proofs.fill_leaving.Given as goal

-- `masks::fill_leaving` meets its contract: the masks of the rows before y are stored, and `above` and `here` are the
-- windows of the lines above y and at y. Assumes nothing.
abbrev pub invariant-loop-y : goal.invariant-loop-y
invariant-loop-y l =
    LeavingTo (floor_on l.floor) l.dirs (number l.floor.w 0 l.y) l.masks
    × WindowRow (floor_on l.floor) (l.y - 1) l.windows (suc l.floor.w) l.above
    × WindowRow (floor_on l.floor) l.y l.windows (suc l.floor.w) l.here
    × (l.y ≤ l.floor.h + 1)
