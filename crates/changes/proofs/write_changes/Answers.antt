-- `changes::write_changes` meets its contract: the places before `v` hold their changes. Assumes nothing.
use mathlib.Core.Path.{refl}
use native.Mathlib.Omega.{arith}
use Rattle.changes.proofs.Changing.{writing-none, writing_more, writing-done}
use Rattle.changes.proofs.write_changes.Goals as goal

pub loop-v-init : goal.loop-v-init
loop-v-init c = writing-none _ c.requires.0 c.requires.1 refl

pub loop-v-preserved : goal.loop-v-preserved
loop-v-preserved c = writing_more c.loop-v.invariant (omega arith) c.change_of.ensures

pub shape_of-changes : goal.shape_of-changes
shape_of-changes c = c.loop-v.invariant.len

pub returns : goal.returns
returns c = writing-done c.loop-v.invariant (omega arith)
