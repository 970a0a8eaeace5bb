-- `writer::put_cells` meets its contract: the bytes of the first c cells are written. Assumes nothing.
use Rattle.basics.specs.Lists.{tabulate}
use Rattle.records.proofs.Writing.{Copying}
use Rattle.writer.specs.Known.{cell_byte}
use Rattle.writer.proofs.put_cells.Given as goal

abbrev pub invariant-loop-c : goal.invariant-loop-c
invariant-loop-c l = Copying l.initial.buf l.at (tabulate l.count (cell_byte l.map)) l.count l.c l.buf
