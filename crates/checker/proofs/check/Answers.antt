-- `checker::check` meets its contract: it tests the shape of the job, then the sheet. Assumes nothing.
use mathlib.Core.Path.{sym, ◌∙◌}
use Rattle.grid.proofs.Jobs.{good-job}
use Rattle.checker.proofs.check.Goals as goal

pub invariant_of-judge : goal.invariant_of-judge
invariant_of-judge c = record {
  sized = (good-job _ _ _ _ _ _ _ (sym c.job_shape.ensures ∙ c.in_ok-dirs.was)).sized;
}

pub judge-requires : goal.judge-requires
judge-requires c = good-job _ _ _ _ _ _ _ (sym c.job_shape.ensures ∙ c.in_ok-dirs.was)
