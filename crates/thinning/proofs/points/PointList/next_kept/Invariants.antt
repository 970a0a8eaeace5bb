-- `thinning::PointList::next_kept` meets its contract: the loop stops at the first position that is not seen. Assumes
-- nothing.
use Rattle.thinning.specs.Points.{seen_in}
use Rattle.thinning.proofs.Kept.{Seeing}
use Rattle.thinning.proofs.points.PointList.next_kept.Given as goal

abbrev pub invariant-loop-k : goal.invariant-loop-k
invariant-loop-k l = Seeing (seen_in l.self) l.self.n l.i l.last l.k
