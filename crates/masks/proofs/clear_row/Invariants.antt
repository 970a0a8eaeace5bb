use Prim.Native.Nat.{◌+◌, ◌≤◌}
use Rattle.floor.specs.Floor.{number}
use Rattle.floor.specs.Plan.{floor_on}
use Rattle.masks.specs.Masks.{Cleared}
use Rattle.masks.proofs.clear_row.Given as goal

-- `masks::clear_row` meets its contract: the moves to pinches before column x of the row are cleared. Assumes nothing.
abbrev pub invariant-loop-x : goal.invariant-loop-x
invariant-loop-x l =
    Cleared (floor_on l.floor) l.dirs (number l.floor.w l.x l.y) l.masks × (l.x ≤ l.floor.w + 1)
