-- `planner::fill_costs` meets its contract: a job that is not refused is good. Assumes nothing.
use mathlib.Core.Path.{sym, ◌∙◌}
use Rattle.std.proofs.Common.{rules}
use Rattle.grid.specs.Known.{GoodJob}
use Rattle.grid.proofs.Jobs.{good-job}
use Rattle.planner.proofs.fill_costs.Goals.{In_ok-dirs}
use Rattle.planner.proofs.fill_costs.Goals as goal

good : (c : In_ok-dirs) → let a = c.args in GoodJob a.w a.h a.map.now c.in_ok-dirs.dirs a.a a.a
good c = good-job _ _ _ _ _ _ _ (sym c.job_shape.ensures ∙ c.in_ok-dirs.was)

pub vertex_count-v-requires : goal.vertex_count-v-requires
vertex_count-v-requires c =
    let J = good (goal.at.vertex_count-v-requires c).In_ok-dirs in
    (J.sized.wide, J.sized.high)

pub invariant_of-costs_from : goal.invariant_of-costs_from
invariant_of-costs_from c = record { sized = (good (goal.at.invariant_of-costs_from c).In_ok-dirs).sized }

pub costs_from-requires : goal.costs_from-requires
costs_from-requires c =
    record { job = good (goal.at.costs_from-requires c).In_ok-dirs; d_len = search rules; work_len = search rules }
