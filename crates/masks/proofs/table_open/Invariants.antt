use Prim.Native.Nat.{◌-◌, ◌≤◌}
use Rattle.moves.specs.Moves.{move_at}
use Rattle.masks.proofs.Windows.{Gathered, open_by}
use Rattle.masks.proofs.table_open.Given as goal

-- `masks::table_open` meets its contract: the mask has the open directions of the moves before m. Assumes nothing.
abbrev pub invariant-loop-m : goal.invariant-loop-m
invariant-loop-m g l = Gathered l.table (λ m. open_by l.b (move_at l.table m)) l.m l.mask × (l.m ≤ g.row.N)

abbrev pub decreases-loop-m : goal.decreases-loop-m
decreases-loop-m g l = g.row.N - l.m
