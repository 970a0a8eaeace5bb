-- `closures::mark` meets its contract: the rows before row j are blocked. Assumes nothing.
use mathlib.Core.Path.{refl}
use native.Mathlib.Omega.{arith}
use Rattle.floor.proofs.Shapes.{GoodFloor, good-floor}
use Rattle.floor.proofs.Maps.{row_fits}
use Rattle.closures.proofs.Rows.{rows_none, rows-good, rows-length, rows_more, rows-done}
use Rattle.closures.proofs.mark.Goals.{Start}
use Rattle.closures.proofs.mark.Goals as goal

floor-good : (s : Start) → GoodFloor s.args.w s.args.h s.args.work.now
floor-good s = good-floor s.args.w s.args.h s.args.work.now s.requires.0

pub overflow_add-j-end : goal.overflow_add-j-end
overflow_add-j-end c =
    omega (arith, c.requires.1.rows, (floor-good (goal.at.overflow_add-j-end c).Start).sized.high)

pub loop-j-init : goal.loop-j-init
loop-j-init c =
    rows_none c.args.r c.args.w c.args.h c.args.work.now c.requires.0
    (λ k. omega (arith, c.type_inv.work k)) _ refl

pub cell_at-requires : goal.cell_at-requires
cell_at-requires c =
    let g = (floor-good (goal.at.cell_at-requires c).Start).sized in (
      g.wide,
      omega (arith, g.wide, c.requires.1.columns),
      omega (arith, g.high, c.requires.1.rows, c.loop-j.invariant.last),
    )

pub block_cells-requires : goal.block_cells-requires
block_cells-requires c =
    let a = c.args in
    let i = c.loop-j.invariant in
    rw c.cell_at.ensures
    (row_fits a.w a.h _ (rows-good a.r a.w a.h a.work.now c.requires.0 i) a.r.column _
    a.r.columns c.requires.1.columns (omega (arith, i.last, c.requires.1.rows)))

pub overflow_step-j : goal.overflow_step-j
overflow_step-j c =
    omega (arith, c.loop-j.invariant.last, c.requires.1.rows, (floor-good (goal.at.overflow_step-j c).Start).sized.high)

pub loop-j-preserved : goal.loop-j-preserved
loop-j-preserved c =
    let a = c.args in
    rows_more a.r a.w a.h a.work.now c.requires.0 c.loop-j.invariant c.requires.1 (omega arith) _ _
    c.cell_at.ensures c.block_cells.ensures

pub shape_of-work : goal.shape_of-work
shape_of-work c =
    rows-length c.args.r c.args.w c.args.h c.args.work.now c.requires.0 c.loop-j.invariant

pub returns : goal.returns
returns c =
    rows-done c.args.r c.args.w c.args.h c.args.work.now c.requires.0 c.loop-j.invariant
    (omega arith)
