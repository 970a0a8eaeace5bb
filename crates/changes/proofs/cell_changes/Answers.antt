-- `changes::cell_changes` meets its contract: a refusal leaves the slice as it was lent, and on two good floors the
-- cells are listed. Assumes nothing.
use mathlib.Core.Path.{sym, ◌∙◌}
use lib.ListN.{length}
use Rattle.changes.specs.Changes.{given_floor_of}
use Rattle.changes.proofs.Shaped.{good-cells, cells-maps, reports-listed}
use Rattle.changes.proofs.cell_changes.Goals as goal

pub list_cells-requires : goal.list_cells-requires
list_cells-requires c =
    let a = c.args in
    let p = given_floor_of a.w a.h a.map.now in
    let q = given_floor_of a.w2 a.h2 a.map2.now in
    let n = length a.cells.now in
    cells-maps p q n (good-cells p q n (sym c.cells_shape.ensures ∙ c.in_ok-cells_shape.was))

pub returns : goal.returns
returns c =
    let a = c.args in
    reports-listed (given_floor_of a.w a.h a.map.now) (given_floor_of a.w2 a.h2 a.map2.now)
    (sym c.cells_shape.ensures ∙ c.in_ok-cells_shape.was) c.list_cells.ensures
