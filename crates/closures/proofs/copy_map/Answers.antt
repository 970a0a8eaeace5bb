-- `closures::copy_map` meets its contract: the places before `at` are copied. Assumes nothing.
use mathlib.Core.Path.{refl, sym}
use native.Mathlib.Omega.{arith}
use Rattle.floor.proofs.Rewriting.{rewriting-more, copy-none, copy_done}
use Rattle.closures.proofs.copy_map.Goals as goal

pub loop-at-init : goal.loop-at-init
loop-at-init c = copy-none c.args.base.now _ _ (sym c.requires)

pub loop-at-preserved : goal.loop-at-preserved
loop-at-preserved c = rewriting-more _ c.loop-at.invariant (omega arith) refl

pub shape_of-map : goal.shape_of-map
shape_of-map c = c.loop-at.invariant.len

pub returns : goal.returns
returns c = copy_done c.requires c.loop-at.invariant (omega arith)
