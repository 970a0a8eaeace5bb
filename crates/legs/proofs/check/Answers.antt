-- `legs::check` meets its contract: where the proposal is tested, nothing is refused. Assumes nothing.
use mathlib.Core.Path.{sym}
use native.Mathlib.Omega.{arith}
use lib.ListN.{length}
use Rattle.legs.specs.Known.{JoinedOn}
use Rattle.legs.proofs.Shapes.{GoodLegs, good-legs, joined-on}
use Rattle.legs.proofs.check.Goals.{In_ok-legs_shape}
use Rattle.legs.proofs.check.Goals as goal

good : (c : In_ok-legs_shape)
    → (let a = c.args in
    GoodLegs a.w a.h a.map.now a.list.now (length a.kept.now) (length a.legs.now) a.n)
good c =
    let a = c.args in
    good-legs a.w a.h a.map.now a.list.now (length a.kept.now) (length a.legs.now) a.n (sym c.in_ok-legs_shape.ensures)

joined : (c : In_ok-legs_shape) → JoinedOn c.args.w c.args.h c.args.map.now c.args.list.now c.args.n
joined c = joined-on _ _ _ _ _ _ _ (good c)

pub invariant_of-points : goal.invariant_of-points
invariant_of-points c = record { sized = (joined c).sized }

pub invariant_of-points-2 : goal.invariant_of-points-2
invariant_of-points-2 c = record { listed = (joined (goal.at.invariant_of-points-2 c).In_ok-legs_shape).listed }

pub invariant_of-true_choice : goal.invariant_of-true_choice
invariant_of-true_choice c =
    let t = (goal.at.invariant_of-true_choice c).In_ok-legs_shape in
    record { joined = joined t; numbered = omega (arith, (joined t).listed.within, (good t).legs-same) }
