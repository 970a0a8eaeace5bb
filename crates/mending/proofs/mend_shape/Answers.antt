-- `mending::mend_shape` meets its contract: a job that is not refused has sides of at most 127 cells, and the shape is
-- good where both sheets and the working slice have the right lengths. Assumes nothing.
use mathlib.Core.Path.{sym, ◌∙◌}
use Rattle.grid.proofs.Jobs.{good-job}
use Rattle.mending.proofs.Shaped.{mend-fit}
use Rattle.mending.proofs.mend_shape.Goals as goal

pub vertex_count-v-requires : goal.vertex_count-v-requires
vertex_count-v-requires c =
    let J = good-job _ _ _ _ _ _ _ (sym c.job_shape.ensures ∙ c.in_ok-dirs.was) in
    (J.sized.wide, J.sized.high)

pub returns : goal.returns
returns c =
    mend-fit _ _ _ _ _ _ _ _ _ (sym c.job_shape.ensures ∙ c.in_ok-dirs.was) c.vertex_count-v.ensures.0
    (sym c.sheet_sized.ensures ∙ c.if-not-sheet_sized.false)
    (sym c.sheet_sized-else-not-sheet_sized.ensures ∙ c.if-not-sheet_sized-2.false) c.if-work-v.false
