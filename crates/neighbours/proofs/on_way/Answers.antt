-- `neighbours::on_way` meets its contract: the two tests are those of `on_shortest`. Assumes nothing.
use Rattle.std.proofs.Common.{rules}
use Rattle.paths.specs.Route.{on_shortest}
use Rattle.neighbours.proofs.on_way.Goals as goal

pub returns-then-d-goal : goal.returns-then-d-goal
unfolding on_shortest
returns-then-d-goal c = search rules

pub returns-else-d-goal : goal.returns-else-d-goal
unfolding on_shortest
returns-else-d-goal c = search rules
