-- `program_text::plan_job` meets its contract: an answer other than 9 is that of the job, and so is the answer from the
-- costs that `fill_costs` has filled. Assumes nothing.
use mathlib.Core.Path.{sym, ◌∙◌}
use mathlib.Core.Bool.{true≢false}
use Rattle.planner.proofs.Shaped.{full-sized}
use Rattle.program_text.proofs.Planning.{costs-sized, full-on, planned-first, planned-again}
use Rattle.program_text.proofs.plan_job.Goals as goal

pub returns-then-ne : goal.returns-then-ne
returns-then-ne c = planned-first c.args.job (full-sized c.requires) c.finish-first.ensures (λ q. true≢false (sym c.if-ne.true ∙ (rw q at c.ne.ensures)))

pub returns : goal.returns
returns c =
    let L = c.requires in
    let k = c.finish-first.auto in
    let others = full-on L k.e k.f k.back k.route k.next (c.fill_costs.auto.work ∙ k.work) in
    planned-again c.args.job (costs-sized _ _ L.sheet.d (k.work ∙ L.work_len)) (full-sized others)
    c.fill_costs.ensures c.finish.ensures
