-- `thinning::thin` meets its contract: a refusal leaves the output as it was lent, and a good list is recorded.
-- Assumes nothing.
use mathlib.Core.Path.{sym}
use lib.ListN.{length}
use Rattle.std.proofs.lemmas.Result.{err_from_is_err_and}
use Rattle.thinning.proofs.Shapes.{GoodList, good-list, joined-list, thins-refused, thins-kept}
use Rattle.thinning.proofs.thin.Goals.{In_ok-list_shape}
use Rattle.thinning.proofs.thin.Goals as goal

-- Where the list is recorded, nothing is refused.
good : (c : In_ok-list_shape)
    → GoodList c.args.w c.args.h c.args.map.now c.args.list.now (length c.args.out.now) c.args.n
good c =
    let a = c.args in
    good-list a.w a.h a.map.now a.list.now (length a.out.now) a.n (sym c.in_ok-list_shape.ensures)

pub invariant_of-points : goal.invariant_of-points
invariant_of-points c = record { sized = (good c).floor.sized }

pub invariant_of-points-2 : goal.invariant_of-points-2
invariant_of-points-2 c =
    record { listed = (joined-list _ _ _ (good (goal.at.invariant_of-points-2 c).In_ok-list_shape).joined).listed }

pub record_kept-requires : goal.record_kept-requires
record_kept-requires c =
    let g = good (goal.at.record_kept-requires c).In_ok-list_shape in
    record { short = g.short; same = g.same; joined = g.joined }

pub returns-in_err-list_shape : goal.returns-in_err-list_shape
returns-in_err-list_shape c =
    let a = c.args in
    let p = err_from_is_err_and c.from_residual.result c.from_residual.ensures.1 in
    rw (p.1, p.2) (thins-refused a.w a.h a.map.now a.list.now a.out.now a.n (sym c.in_err-list_shape.ensures))

pub returns : goal.returns
returns c =
    let a = c.args in
    thins-kept a.w a.h a.map.now a.list.now a.out.now a.n (sym c.in_ok-list_shape.ensures) c.record_kept.ensures
