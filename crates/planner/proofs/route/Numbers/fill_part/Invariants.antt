-- `planner::route::Numbers::fill_part` meets its contract: the places before v have their next vertices. Assumes nothing.
use Prim.Native.Nat.{◌-◌, ◌≤◌}
use Rattle.planner.specs.Parts.{NumberedBy}
use Rattle.planner.proofs.route.Numbers.fill_part.Given as goal

abbrev pub invariant-loop-v : goal.invariant-loop-v
invariant-loop-v l =
    NumberedBy l.self l.v l.next × (l.v ≤ l.past)

abbrev pub decreases-loop-v : goal.decreases-loop-v
decreases-loop-v l = l.past - l.v
