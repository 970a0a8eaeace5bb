-- `masks::clear_table` meets its contract: the bits of the first m moves are cleared. Assumes nothing.
use native.Mathlib.Omega.{arith}
use native.Mathlib.Numerals.{add-one}
use Rattle.masks.proofs.Clearing.{clears-none, clears-more}
use Rattle.masks.proofs.clear_table.Goals as goal

pub loop-m-init : goal.loop-m-init
loop-m-init g c = (clears-none, omega arith)

pub loop-m-preserved : goal.loop-m-preserved
loop-m-preserved g c =
    (rw add-one (clears-more c.loop-m.invariant.0 c.clear_back.ensures), omega arith)
