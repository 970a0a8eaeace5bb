-- `counts::count_along` meets its contract: at each turn a vertex on the way gets its count, since the cheaper vertices
-- on the way have theirs. Assumes nothing.
use Prim.Native.Nat.{◌-◌}
use Rattle.counts.proofs.Passing.{Turning}
use Rattle.counts.proofs.count_along.Given as goal

abbrev pub invariant-loop-i : goal.invariant-loop-i
invariant-loop-i l = Turning l.dirs l.shifts l.start l.n l.rev l.d l.work l.i l.f

abbrev pub decreases-loop-i : goal.decreases-loop-i
decreases-loop-i l = l.n - l.i
