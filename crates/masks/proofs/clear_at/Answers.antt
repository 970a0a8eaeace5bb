-- `masks::clear_at` meets its contract: the mask says whether the vertex is a pinch. Assumes nothing.
use mathlib.Core.Path.{sym, ◌∙◌}
use Rattle.floor.specs.Plan.{floor_on}
use Rattle.moves.specs.Table.{table_of}
use Rattle.moves.proofs.Table.{table-listed, table-within}
use Rattle.masks.proofs.Clearing.{past_skip, past-hit}
use Rattle.masks.proofs.clear_at.Goals as goal

pub returns-then-marks_pinch : goal.returns-then-marks_pinch
returns-then-marks_pinch c =
    let a = c.args in
    let p = c.requires in
    past-hit (floor_on a.floor) (table_of a.dirs) (table-listed a.dirs) a.x a.y p.0.column p.0.row (table-within p.1)
    p.2 (rw c.vertex_at-v.ensures.0 at (sym c.marks_pinch.ensures ∙ c.if-marks_pinch.true)) c.clear_to.ensures

pub returns-else-marks_pinch : goal.returns-else-marks_pinch
returns-else-marks_pinch c =
    let a = c.args in
    let p = c.requires in
    past_skip (floor_on a.floor) (table_of a.dirs) (table-listed a.dirs) a.x a.y p.0.column p.0.row (table-within p.1)
    p.2 (rw c.vertex_at-v.ensures.0 at (sym c.marks_pinch.ensures ∙ c.if-marks_pinch.false))
