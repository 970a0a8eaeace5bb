-- `replay::leads_to` meets its contract: the test of the step is that of its far end. Assumes nothing.
use mathlib.Core.Path.{◌≡◌, refl, ap, ◌∙◌}
use Rattle.moves.specs.Steps.{far_end_at, step_of}
use Rattle.moves.proofs.Signs.{handed-back}
use Rattle.moves.proofs.Steps.{offsets-end}
use Rattle.replay.proofs.Moving.{step-goes}
use Rattle.replay.proofs.leads_to.Goals as goal

pub returns : goal.returns
returns c =
    let a = c.args in
    let step : c.step_from.result ≡ step_of (far_end_at a.w a.h a.m a.x a.y) =
    rw (handed-back c.requires.1) at c.step_from.ensures ∙ ap step_of (offsets-end a.w a.h a.x a.y a.m) in
    rw step at c.eq.ensures ∙ step-goes (λ x y. refl) (far_end_at a.w a.h a.m a.x a.y) a.v
