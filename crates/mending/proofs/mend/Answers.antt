-- `mending::mend` meets its contract: an input that is not refused can be mended; the costs are filled, and then the job
-- is finished from them; the differences are those to the sheet that is then left. Assumes nothing.
use mathlib.Core.Path.{sym, ◌∙◌}
use Rattle.paths.specs.Sheet.{sheet_in as sheet_held}
use Rattle.mending.specs.Mending.{mend_slices_of}
use Rattle.mending.specs.Known.{Mendable}
use Rattle.mending.proofs.Shaped.{job-mendable, plan-costing, plan-finishable, planned-of, alike-left, mended-of, mends-sheet}
use Rattle.mending.proofs.mend.Goals.{In_ok-dirs}
use Rattle.mending.proofs.mend.Goals as goal

mendable : (c : In_ok-dirs)
    → let a = c.args in
    Mendable a.w a.h a.map.now c.in_ok-dirs.dirs a.a a.b (sheet_held a.old)
    (mend_slices_of a.d.now a.e.now a.f.now a.back.now a.route.now a.next.now a.work.now)
mendable c = job-mendable _ _ _ _ _ _ _ _ _ (sym c.mend_shape.ensures ∙ c.in_ok-dirs.was)

pub invariant_of-floor : goal.invariant_of-floor
invariant_of-floor c = record { sized = (mendable (goal.at.invariant_of-floor c).In_ok-dirs).plannable.job.sized }

pub costs_from-requires : goal.costs_from-requires
costs_from-requires c = plan-costing (mendable (goal.at.costs_from-requires c).In_ok-dirs).plannable

pub finish_job-planned-requires : goal.finish_job-planned-requires
finish_job-planned-requires c =
    let k = c.costs_from.auto in
    plan-finishable (mendable (goal.at.finish_job-planned-requires c).In_ok-dirs).plannable c.costs_from.ensures k.d k.work

pub sheet_differences-differences-requires : goal.sheet_differences-differences-requires
sheet_differences-differences-requires c =
    let k = c.finish_job-planned.auto.slices in
    alike-left _ _ _ _ _ _ (mendable (goal.at.sheet_differences-differences-requires c).In_ok-dirs) c.costs_from.auto.d k.0
    k.1.0 k.1.1.0 k.1.1.1.0 k.1.1.1.1.0

pub returns : goal.returns
returns c =
    mends-sheet (sym c.mend_shape.ensures ∙ c.in_ok-dirs.was)
    (mended-of (planned-of c.costs_from.ensures c.finish_job-planned.ensures) c.sheet_differences-differences.ensures
    c.answer_with.ensures)
