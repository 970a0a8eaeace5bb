-- `legs::LegList::farthest_next` meets its contract: the search has not passed the position. Assumes nothing.
use Rattle.legs.specs.Lists.{sight_in}
use Rattle.legs.proofs.Farthest.{Seeking}
use Rattle.legs.proofs.leg_list.LegList.farthest_next.Given as goal

abbrev pub invariant-loop-j : goal.invariant-loop-j
invariant-loop-j l = Seeking (sight_in l.self) l.self.points.n l.i l.j
