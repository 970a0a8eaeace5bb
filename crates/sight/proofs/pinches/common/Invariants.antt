-- `sight::pinches::common` meets its contract, by Euclid's argument. Assumes nothing.
use Rattle.sight.proofs.Common.{Euclid}
use Rattle.sight.proofs.pinches.common.Given as goal

abbrev pub invariant-loop-m : goal.invariant-loop-m
invariant-loop-m l = Euclid l.a l.b l.n l.m

abbrev pub decreases-loop-m : goal.decreases-loop-m
decreases-loop-m l = l.m
