-- `masks::window_masks` meets its contract: the masks of the windows before b are made. Assumes nothing.
use native.Mathlib.Omega.{arith}
use native.Mathlib.Numerals.{add-one}
use Rattle.masks.proofs.Windows.{windows-more}
use Rattle.masks.proofs.window_masks.Goals as goal

pub loop-b-preserved : goal.loop-b-preserved
loop-b-preserved c = rw add-one (windows-more c.loop-b.invariant (omega arith) c.window_mask.ensures)
