-- `counts::keep_on_way` meets its contract: after i turns the vertices on the way among the first i are kept, and from
-- place i on the slice is as it was. Assumes nothing.
use Prim.Native.Nat.{◌-◌, ◌≤◌}
use Rattle.counts.specs.Passes.{sums_to, Filtered}
use Rattle.counts.proofs.keep_on_way.Given as goal

abbrev pub invariant-loop-i : goal.invariant-loop-i
invariant-loop-i l = (l.i ≤ l.n) × Filtered (sums_to l.d l.e l.whole) l.i l.kept l.initial.work l.work

abbrev pub decreases-loop-i : goal.decreases-loop-i
decreases-loop-i l = l.n - l.i
