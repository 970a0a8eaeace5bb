-- `planner::finish` meets its contract: a job that is not refused is good; slices of the wrong lengths and false costs are
-- refused, and otherwise the job is finished. Assumes nothing.
use mathlib.Core.Path.{◌≡◌, sym, ◌∙◌}
use Rattle.std.specs.Prelude.{Ok}
use Rattle.floor.specs.Floor.{vertices}
use Rattle.grid.specs.Grid.{job_shape}
use Rattle.grid.specs.Known.{GoodJob}
use Rattle.grid.proofs.Jobs.{good-job, start-alone}
use Rattle.planner.specs.Parts.{FullSlices}
use Rattle.planner.proofs.Shaped.{lent_of, lengths-bad, finish-unsized, finish-refused, finish-finished, job-finishable}
use Rattle.planner.proofs.finish.Goals.{In_ok-dirs, Else-not-lengths_good}
use Rattle.planner.proofs.finish.Goals as goal

fit : (c : In_ok-dirs) → let a = c.args in job_shape a.w a.h a.map.now a.nb a.a a.b ≡ Ok c.in_ok-dirs.dirs
fit c = sym c.job_shape.ensures ∙ c.in_ok-dirs.was

good : (c : In_ok-dirs) → let a = c.args in GoodJob a.w a.h a.map.now c.in_ok-dirs.dirs a.a a.b
good c = good-job _ _ _ _ _ _ _ (fit c)

-- The slices have the lengths that they need.
lent : (c : Else-not-lengths_good)
    → let a = c.args in
    FullSlices (vertices a.w a.h) a.d.now a.e.now a.f.now a.back.now a.route.now a.next.now a.work.now
lent c =
    let a = c.args in
    lent_of a.d.now a.e.now a.f.now a.back.now a.route.now a.next.now a.work.now c.vertex_count.ensures.0
    c.lengths_good.ensures c.if-not-lengths_good.false

pub vertex_count-requires : goal.vertex_count-requires
vertex_count-requires c =
    let J = good (goal.at.vertex_count-requires c).In_ok-dirs in
    (J.sized.wide, J.sized.high)

pub returns-then-not-lengths_good : goal.returns-then-not-lengths_good
returns-then-not-lengths_good c =
    let a = c.args in
    finish-unsized (fit (goal.at.returns-then-not-lengths_good c).In_ok-dirs)
    (lengths-bad _ _ a.d.now a.e.now a.f.now a.back.now a.route.now a.next.now a.work.now _ c.vertex_count.ensures.0
    c.lengths_good.ensures c.if-not-lengths_good.true)

pub invariant_of-floor : goal.invariant_of-floor
invariant_of-floor c = record { sized = (good (goal.at.invariant_of-floor c).In_ok-dirs).sized }

pub costs_true-requires : goal.costs_true-requires
costs_true-requires c = (
  start-alone (good (goal.at.costs_true-requires c).In_ok-dirs),
  (lent (goal.at.costs_true-requires c).Else-not-lengths_good).sheet.d,
)

pub returns-then-not-costs_true : goal.returns-then-not-costs_true
returns-then-not-costs_true c =
    let at = goal.at.returns-then-not-costs_true c in
    finish-refused (fit at.In_ok-dirs) (lent at.Else-not-lengths_good)
    (sym c.costs_true.ensures ∙ c.if-not-costs_true.true)

pub finish_job-requires : goal.finish_job-requires
finish_job-requires c =
    let at = goal.at.finish_job-requires c in
    job-finishable (good at.In_ok-dirs) (lent at.Else-not-lengths_good)
    (sym c.costs_true.ensures ∙ c.if-not-costs_true.false)

pub returns : goal.returns
returns c =
    let at = goal.at.returns c in
    finish-finished (fit at.In_ok-dirs) (lent at.Else-not-lengths_good)
    (sym c.costs_true.ensures ∙ c.if-not-costs_true.false) c.finish_job.ensures
