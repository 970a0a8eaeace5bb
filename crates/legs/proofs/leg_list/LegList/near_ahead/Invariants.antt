-- `legs::LegList::near_ahead` meets its contract: it says what was found in one step. Assumes nothing.
use Prim.Native.Nat.{◌-◌, ◌≤◌, ◌<◌}
use Rattle.legs.proofs.leg_list.LegList.near_ahead.Given as goal

abbrev pub invariant-loop-j : goal.invariant-loop-j
invariant-loop-j l = (l.i < l.j) × (l.j ≤ l.self.points.n)

abbrev pub decreases-loop-j : goal.decreases-loop-j
decreases-loop-j l = l.self.points.n - l.j
