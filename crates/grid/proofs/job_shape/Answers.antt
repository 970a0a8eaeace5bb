-- `grid::job_shape` meets its contract: the floor is a plan once its shape is good. Assumes nothing.
use Rattle.grid.proofs.Jobs.{dirs-floor}
use Rattle.grid.proofs.job_shape.Goals as goal

pub invariant_of-ends_shape : goal.invariant_of-ends_shape
invariant_of-ends_shape c = record { sized = (dirs-floor _ _ _ _ c.dirs_shape.ensures c.in_ok-dirs.was).sized }
