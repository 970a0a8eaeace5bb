-- `writer::put_cells` meets its contract: the bytes of the first c cells are written. Assumes nothing.
use native.Mathlib.Omega.{arith}
use Rattle.records.proofs.Writing.{copying-done}
use Rattle.writer.specs.Known.{cell_byte}
use Rattle.writer.proofs.Cells.{cells-none, cells-more}
use Rattle.writer.proofs.put_cells.Goals as goal

pub loop-c-init : goal.loop-c-init
loop-c-init c = cells-none _ _ _ _ c.requires.1

pub bounds-buf-at : goal.bounds-buf-at
bounds-buf-at c = omega (arith, c.loop-c.invariant.len)

pub loop-c-preserved : goal.loop-c-preserved
loop-c-preserved c =
    cells-more (cell_byte c.args.map.now) c.loop-c.invariant c.requires.1 (omega arith) c.cell_byte.ensures

pub shape_of-buf : goal.shape_of-buf
shape_of-buf c = c.loop-c.invariant.len

pub returns : goal.returns
returns c = copying-done c.loop-c.invariant (omega arith)
