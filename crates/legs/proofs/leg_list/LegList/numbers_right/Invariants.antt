-- `legs::LegList::numbers_right` meets its contract: the numbers from i on are right. Assumes nothing.
use Rattle.legs.specs.Known.{RightFrom}
use Rattle.legs.specs.Lists.{sight_in}
use Rattle.legs.proofs.leg_list.LegList.numbers_right.Given as goal

abbrev pub invariant-loop-i : goal.invariant-loop-i
invariant-loop-i l = RightFrom (sight_in l.self) l.self.points.n l.self.legs.now l.i
