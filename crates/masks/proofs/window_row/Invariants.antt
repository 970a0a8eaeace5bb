use Prim.Native.Nat.{◌+◌, ◌≤◌}
use mathlib.Core.Path.{◌≡◌}
use Rattle.floor.specs.Plan.{floor_on}
use Rattle.masks.specs.Windows.{pair_at, WindowRow}
use Rattle.masks.proofs.window_row.Given as goal

-- `masks::window_row` meets its contract: the windows of the vertices before column x of the line are read, and `left`
-- has the two cells on the left of that one. Assumes nothing.
abbrev pub invariant-loop-x : goal.invariant-loop-x
invariant-loop-x l =
    WindowRow (floor_on l.floor) l.y l.windows l.x l.masks × (l.left ≡ pair_at (floor_on l.floor) l.x l.y)
    × (l.left ≤ 5) × (l.x ≤ l.floor.w + 1)
