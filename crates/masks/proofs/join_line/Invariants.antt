use Prim.Native.Nat.{ℕ, ◌-◌, ◌≤◌}
use mathlib.Core.Path.{◌≡◌}
use lib.ListN.{get_or}
use Rattle.floor.specs.Plan.{floor_on}
use Rattle.moves.specs.Table.{sixteen_dirs}
use Rattle.masks.specs.Masks.{LeavingRow}
use Rattle.masks.specs.Windows.{window_at}
use Rattle.masks.proofs.join_line.Given as goal

-- `masks::join_line` meets its contract: the masks of the vertices before column x of the row are made, the rest of the
-- line is as it was, and `before` is the mask of the window on the left of that vertex. Assumes nothing.
abbrev pub invariant-loop-x : goal.invariant-loop-x
invariant-loop-x l =
    LeavingRow (floor_on l.floor) sixteen_dirs l.y l.x l.line
    × ((k : ℕ) → l.x ≤ k → get_or l.line k 0 ≡ get_or l.initial.line k 0)
    × (l.before ≡ get_or l.windows (window_at (floor_on l.floor) (l.x - 1) l.y) 0)
    × (l.x ≤ l.w)

abbrev pub decreases-loop-x : goal.decreases-loop-x
decreases-loop-x l = l.w - l.x
