-- `legs::proposing::fill_legs` meets its contract: from i on each number is the fewest legs. Assumes nothing.
use lib.ListN.{length}
use Rattle.thinning.specs.Points.{seen_in}
use Rattle.legs.proofs.Filling.{Filling}
use Rattle.legs.proofs.proposing.fill_legs.Given as goal

abbrev pub invariant-loop-i : goal.invariant-loop-i
invariant-loop-i l = Filling (seen_in l.points) l.points.n (length l.initial.legs) l.i l.legs
