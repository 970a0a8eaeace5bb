-- `neighbours::any_on_way` meets its contract: the flag is false only where no test held. Assumes nothing.
use Rattle.neighbours.proofs.Choice.{off-start, off-more}
use Rattle.neighbours.proofs.any_on_way.Goals as goal

pub loop-v-init : goal.loop-v-init
loop-v-init c = off-start _ _ _ _ _

pub loop-v-preserved : goal.loop-v-preserved
loop-v-preserved c =
    off-more _ _ _ _ c.loop-v.invariant c.cost_at.result c.cost_at-in-loop-v.result c.cost_at-whole.result
    c.cost_at.ensures.0 c.cost_at-in-loop-v.ensures.0 c.cost_at-whole.ensures.0
