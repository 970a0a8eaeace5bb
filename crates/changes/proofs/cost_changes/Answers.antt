-- `changes::cost_changes` meets its contract: for an input of good shape the report is written. Assumes nothing.
use mathlib.Core.Path.{sym, ◌∙◌}
use Rattle.changes.specs.Changes.{given_floor_of, report_slices_of}
use Rattle.changes.proofs.Jobs.{job-reportable, costs-fit}
use Rattle.changes.proofs.cost_changes.Goals as goal

pub report_costs-requires : goal.report_costs-requires
report_costs-requires c =
    let a = c.args in
    job-reportable (given_floor_of a.w a.h a.map.now) (given_floor_of a.w2 a.h2 a.map2.now) a.nb
    a.a (report_slices_of a.costs.now a.costs2.now a.changes.now a.work.now)
    (sym c.report_shape.ensures ∙ c.in_ok-dirs.was)

pub returns : goal.returns
returns c =
    let a = c.args in
    let n = c.report_costs.new in
    costs-fit (given_floor_of a.w a.h a.map.now) (given_floor_of a.w2 a.h2 a.map2.now)
    {s' = report_slices_of n.costs n.costs2 n.changes n.work}
    (sym c.report_shape.ensures ∙ c.in_ok-dirs.was) c.report_costs.ensures
