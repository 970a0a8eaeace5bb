-- `floor::block_cells` meets its contract: the cells before `at` are blocked. Assumes nothing.
use mathlib.Core.Path.{refl}
use native.Mathlib.Omega.{arith}
use Rattle.floor.proofs.Blocking.{blocking-none, blocking-more, blocking-done}
use Rattle.floor.proofs.block_cells.Goals as goal

pub loop-at-init : goal.loop-at-init
loop-at-init c = blocking-none _ _ _ _ (λ k. omega (arith, c.type_inv.map k)) refl

pub loop-at-preserved : goal.loop-at-preserved
loop-at-preserved c =
    blocking-more _ c.loop-at.invariant (omega arith) c.block_cell.ensures

pub returns : goal.returns
returns c = blocking-done c.loop-at.invariant (omega arith)
