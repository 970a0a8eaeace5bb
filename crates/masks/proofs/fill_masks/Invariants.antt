use Prim.Native.Nat.{◌+◌, ◌≤◌}
use Rattle.floor.specs.Floor.{number}
use Rattle.floor.specs.Plan.{floor_on}
use Rattle.masks.specs.Masks.{Cleared}
use Rattle.masks.proofs.fill_masks.Given as goal

-- `masks::fill_masks` meets its contract: the masks of the moves that leave the vertices are stored, and then the moves
-- to pinches of the rows before y are cleared. Assumes nothing.
abbrev pub invariant-loop-y : goal.invariant-loop-y
invariant-loop-y l =
    Cleared (floor_on l.floor) l.dirs (number l.floor.w 0 l.y) l.masks × (l.y ≤ l.floor.h + 1)
