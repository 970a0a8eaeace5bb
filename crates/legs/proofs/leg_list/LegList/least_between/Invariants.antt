-- `legs::LegList::least_between` meets its contract: the loop keeps the least so far. Assumes nothing.
use Rattle.legs.specs.Lists.{LeastIn}
use Rattle.legs.proofs.leg_list.LegList.least_between.Given as goal

abbrev pub invariant-loop-j : goal.invariant-loop-j
invariant-loop-j l = LeastIn l.self l.i l.a l.j l.cap l.least
