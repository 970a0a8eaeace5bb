-- `closures::mark_slot` meets its contract: a free slot leaves the map as it was, and of a rectangle the part on the
-- floor is blocked. Assumes nothing.
use native.Mathlib.Omega.{arith}
use Rattle.closures.proofs.Marks.{unmarked}
use Rattle.closures.proofs.Rows.{clipped-marked}
use Rattle.closures.proofs.mark_slot.Goals as goal

pub returns-in-Some : goal.returns-in-Some
returns-in-Some c =
    let a = c.args in
    rw c.in-Some.is (clipped-marked c.in-Some.r a.w a.h a.work.now _ (rw c.clip.ensures at c.mark.ensures))

pub returns-in_default : goal.returns-in_default
returns-in_default c =
    unmarked c.args.slot c.args.w c.args.h c.args.work.now c.requires (λ k. omega (arith, c.type_inv.work k))
    c.in_default.is
