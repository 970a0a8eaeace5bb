-- `closures::mark_all` meets its contract: the closures of the slots looked at so far are on the map. Assumes nothing.
use Rattle.closures.proofs.Marks.{Marking}
use Rattle.closures.proofs.mark_all.Given as goal

abbrev pub invariant-loop-slot : goal.invariant-loop-slot
invariant-loop-slot l = Marking l.table l.base l.slot-index l.work
