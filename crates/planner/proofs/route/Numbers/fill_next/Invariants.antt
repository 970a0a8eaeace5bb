-- `planner::route::Numbers::fill_next` meets its contract: the vertices of the parts before `part` have their next vertices, and
-- the others 0. Assumes nothing.
use Prim.Native.Nat.{◌*◌, ◌-◌, min}
use lib.ListN.{length}
use Rattle.planner.specs.Parts.{NumberedBy}
use Rattle.planner.proofs.route.Numbers.fill_next.Given as goal

abbrev pub invariant-loop-part : goal.invariant-loop-part
invariant-loop-part l =
    NumberedBy l.self (min (length l.self.d.now) (l.part * 64)) l.next

abbrev pub decreases-loop-part : goal.decreases-loop-part
decreases-loop-part l = l.count - l.part
