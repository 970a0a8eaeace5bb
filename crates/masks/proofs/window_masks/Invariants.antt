use Rattle.masks.specs.Windows.{WindowsTo}
use Rattle.masks.proofs.window_masks.Given as goal

-- `masks::window_masks` meets its contract: the masks of the windows before b are made. Assumes nothing.
abbrev pub invariant-loop-b : goal.invariant-loop-b
invariant-loop-b l = WindowsTo l.dirs l.b l.mask-items
