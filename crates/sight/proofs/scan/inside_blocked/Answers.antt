-- `sight::scan::inside_blocked` meets its contract: a cell on the floor reads as its bit. Assumes nothing.
use mathlib.Core.Path.{sym, ap, ◌∙◌}
use native.Mathlib.Omega.{arith}
use Rattle.floor.specs.Floor.{bit_at, cell_of}
use Rattle.floor.specs.Plan.{floor_on}
use Rattle.floor.proofs.Cells.{blocked-inside}
use Rattle.sight.proofs.scan.inside_blocked.Goals as goal

pub returns : goal.returns
unfolding cell_of
returns c =
    c.is_blocked.ensures ∙ ap (bit_at c.args.floor.map.now) c.cell_before.ensures.0
    ∙ sym (blocked-inside (floor_on c.args.floor) c.args.x c.args.y (omega arith) (omega arith) (omega arith)
    (omega arith))
