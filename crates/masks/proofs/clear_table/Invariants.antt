use Prim.Native.Nat.{◌-◌, ◌≤◌}
use Rattle.masks.specs.Masks.{ClearsTo}
use Rattle.masks.proofs.clear_table.Given as goal

-- `masks::clear_table` meets its contract: the bits of the first m moves are cleared. Assumes nothing.
abbrev pub invariant-loop-m : goal.invariant-loop-m
invariant-loop-m g l = ClearsTo l.w l.h l.table l.x l.y l.m l.initial.masks l.masks × (l.m ≤ g.row.N)

abbrev pub decreases-loop-m : goal.decreases-loop-m
decreases-loop-m g l = g.row.N - l.m
