-- `closures::mark` meets its contract: the rows before row j are blocked. Assumes nothing.
use Rattle.closures.proofs.Rows.{Rows}
use Rattle.closures.proofs.mark.Given as goal

abbrev pub invariant-loop-j : goal.invariant-loop-j
invariant-loop-j l = Rows l.r l.w l.h l.initial.work l.j-end l.j l.work
