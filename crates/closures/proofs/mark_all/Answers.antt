-- `closures::mark_all` meets its contract: the closures of the slots looked at so far are on the map. Assumes nothing.
use native.Mathlib.Omega.{arith}
use Rattle.closures.proofs.Marks.{marking-good, marking-none, marking-more, marking-done}
use Rattle.closures.proofs.mark_all.Goals as goal

pub loop-slot-init : goal.loop-slot-init
loop-slot-init c =
    marking-none c.args.table c.args.base.now _ c.requires.good (λ k. omega (arith, c.type_inv.base k))
    c.copy_map.ensures

pub mark_slot-requires : goal.mark_slot-requires
mark_slot-requires c = marking-good c.loop-slot.invariant

pub loop-slot-preserved : goal.loop-slot-preserved
loop-slot-preserved c = marking-more _ c.loop-slot.invariant c.loop-slot-test.true c.mark_slot.ensures

pub returns : goal.returns
returns c = marking-done c.loop-slot.invariant c.loop-slot-test.false
