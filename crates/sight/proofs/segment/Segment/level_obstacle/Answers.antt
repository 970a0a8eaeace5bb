-- `sight::segment::Segment::level_obstacle` meets its contract: the steps passed are not shut. Assumes nothing.
use mathlib.Core.Path.{refl, sym, ◌∙◌}
use native.Mathlib.Omega.{arith}
use Rattle.sight.proofs.First.{looked-none, looked-more, looked-stop}
use Rattle.sight.proofs.segment.Segment.level_obstacle.Goals as goal

pub loop-k-init : goal.loop-k-init
loop-k-init c = looked-none _ _

pub returns-in-Some : goal.returns-in-Some
returns-in-Some c = looked-stop c.loop-k.invariant (omega arith) (sym c.in-Some.ensures) refl

pub loop-k-preserved : goal.loop-k-preserved
loop-k-preserved c =
    looked-more c.loop-k.invariant (omega arith) (sym c.level_step.ensures ∙ c.in_default.is)
