use Prim.Native.Nat.{◌-◌, ◌≤◌}
use Rattle.offsets.proofs.Masked.{ShiftsTo}
use Rattle.offsets.proofs.table_shifts.Given as goal

-- `offsets::table_shifts` meets its contract: the moves before m have their shifts. Assumes nothing.
abbrev pub invariant-loop-m : goal.invariant-loop-m
invariant-loop-m g l = ShiftsTo l.w l.table l.m l.shifts × (l.m ≤ g.row.N)

abbrev pub decreases-loop-m : goal.decreases-loop-m
decreases-loop-m g l = g.row.N - l.m
