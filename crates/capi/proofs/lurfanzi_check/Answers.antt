-- `capi::lurfanzi_check` meets its contract: it hands its numbers and slices on to `checker::check`. Assumes nothing.
use mathlib.Core.Path.{ap, ◌∙◌}
use Rattle.checker.specs.Answer.{check_number}
use Rattle.capi.proofs.lurfanzi_check.Goals as goal

pub returns : goal.returns
returns c = c.check_number.ensures ∙ ap check_number c.check.ensures
