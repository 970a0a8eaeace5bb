-- `replay::take_stop` meets its contract: a record that follows costs at most 4,095. Assumes nothing.
use mathlib.Core.Path.{sym, ◌∙◌}
use native.Mathlib.Omega.{arith}
use Rattle.floor.specs.Plan.{floor_on}
use Rattle.moves.proofs.Table.{listed-lawful}
use Rattle.grid.specs.Grid.{floor_graph}
use Rattle.grid.proofs.Lawful.{floor-lawful}
use Rattle.replay.specs.Replay.{pinch_at}
use Rattle.replay.specs.Known.{before}
use Rattle.replay.proofs.Taken.{follow-high}
use Rattle.replay.proofs.take_stop.Goals as goal

pub overflow_add-result : goal.overflow_add-result
overflow_add-result c =
    let a = c.args in
    let f = floor_on a.floor in
    omega (
      arith,
      c.requires.bounded.cost,
      c.requires.few,
      follow-high (floor_graph f a.dirs) (pinch_at f) (floor-lawful f a.dirs (listed-lawful c.requires.good.listed))
          (before a.s) a.v.0 c.in-Some.x (sym c.follow_cost.ensures ∙ c.in-Some.is),
    )
