-- `sight::in_sight` meets its contract: nothing is in the way exactly when the ends see each other. Assumes nothing.
use mathlib.Core.Path.{ap, ◌∙◌}
use Rattle.floor.specs.Plan.{floor_on}
use Rattle.sight.specs.Obstacle.{is_clear}
use Rattle.sight.proofs.First.{none-clear}
use Rattle.sight.proofs.Passed.{obstacle-sees-segment}
use Rattle.sight.proofs.in_sight.Goals as goal

pub returns : goal.returns
returns c =
    let a = c.args in
    none-clear c.look.result c.is_none.result c.is_none.ensures ∙ ap is_clear c.look.ensures
    ∙ obstacle-sees-segment (floor_on a.floor) a.a.0 a.b.0 c.requires.0 c.requires.1
