-- `legs::propose` meets its contract: a refusal leaves both slices as they were lent, and of a good list the numbers
-- are filled and then the positions recorded. Assumes nothing.
use mathlib.Core.Path.{sym}
use native.Mathlib.Omega.{arith}
use lib.ListN.{length}
use Rattle.std.proofs.lemmas.Result.{err_from_is_err_and}
use Rattle.legs.specs.Known.{JoinedOn}
use Rattle.legs.proofs.Shapes.{GoodLegs, good-legs, joined-on}
use Rattle.legs.proofs.Answered.{propose-refused, propose-kept}
use Rattle.legs.proofs.propose.Goals.{In_ok-legs_shape}
use Rattle.legs.proofs.propose.Goals as goal

good : (c : In_ok-legs_shape)
    → (let a = c.args in
    GoodLegs a.w a.h a.map.now a.list.now (length a.kept.now) (length a.legs.now) a.n)
good c =
    let a = c.args in
    good-legs a.w a.h a.map.now a.list.now (length a.kept.now) (length a.legs.now) a.n (sym c.in_ok-legs_shape.ensures)

joined : (c : In_ok-legs_shape) → JoinedOn c.args.w c.args.h c.args.map.now c.args.list.now c.args.n
joined c = joined-on _ _ _ _ _ _ _ (good c)

pub returns-in_err-legs_shape : goal.returns-in_err-legs_shape
returns-in_err-legs_shape c =
    let a = c.args in
    let p = err_from_is_err_and c.from_residual.result c.from_residual.ensures.1 in
    rw (p.1, p.2)
    (propose-refused a.w a.h a.map.now a.list.now a.kept.now a.legs.now a.n (sym c.in_err-legs_shape.ensures))

pub invariant_of-points : goal.invariant_of-points
invariant_of-points c = record { sized = (joined c).sized }

pub invariant_of-points-2 : goal.invariant_of-points-2
invariant_of-points-2 c = record { listed = (joined (goal.at.invariant_of-points-2 c).In_ok-legs_shape).listed }

pub fill-requires : goal.fill-requires
fill-requires c =
    let t = (goal.at.fill-requires c).In_ok-legs_shape in
    let j = joined t in
    let g = good t in
    (j, omega (arith, j.listed.within, g.kept_same), omega (arith, j.listed.within, g.legs-same))

pub returns : goal.returns
returns c =
    let a = c.args in
    propose-kept a.w a.h a.map.now a.list.now a.kept.now a.legs.now a.n (sym c.in_ok-legs_shape.ensures)
    c.fill.ensures.numbers c.fill.ensures.positions
