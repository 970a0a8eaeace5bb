-- `legs::LegList::least_ahead` meets its contract: the loop keeps the least so far, from what was found near on. Assumes
-- nothing.
use Prim.Native.Nat.{suc, ◌-◌, ◌<◌, ◌≤◌}
use Rattle.legs.specs.Lists.{LeastIn}
use Rattle.legs.proofs.leg_list.LegList.least_ahead.Given as goal

abbrev pub invariant-loop-j : goal.invariant-loop-j
invariant-loop-j l = record {
  after : l.i < l.j;
  within : l.j ≤ l.self.points.n;
  least : LeastIn l.self l.i (suc l.i) l.j l.cap l.least;
}

abbrev pub decreases-loop-j : goal.decreases-loop-j
decreases-loop-j l = l.self.points.n - l.j
