-- `program_text::copy_cells` meets its contract: the part of the input that is stored is the cells of the map. Assumes
-- nothing.
use mathlib.Core.Path.{ap, ◌∙◌}
use Rattle.floor.specs.Floor.{stored_cells}
use Rattle.program_text.proofs.Cells.{part-cells}
use Rattle.program_text.proofs.copy_cells.Goals as goal

pub returns : goal.returns
returns c =
    let a = c.args in
    c.store_cells.ensures ∙ ap stored_cells (part-cells a.s.now a.m)
