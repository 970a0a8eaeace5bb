-- `planner::route::write_route` meets its contract: the n points written are those of the route before `at`. Assumes
-- nothing.
use Prim.Native.Nat.{◌-◌}
use lib.ListN.{length}
use Rattle.planner.proofs.Walking.{Stepping}
use Rattle.planner.proofs.route.write_route.Given as goal

abbrev pub invariant-loop-at : goal.invariant-loop-at
invariant-loop-at l = Stepping l.a l.b l.next l.initial.route l.n l.at l.route

abbrev pub decreases-loop-at : goal.decreases-loop-at
decreases-loop-at l = length l.next - l.n
