-- `closures::posted` meets its contract: the slot answered is one of the sixteen. Assumes nothing.
use mathlib.Core.Path.{sym, ◌∙◌}
use Rattle.closures.specs.Table.{held}
use Rattle.closures.proofs.Shapes.{posted-slot}
use Rattle.closures.proofs.posted.Goals as goal

pub with_slot-requires : goal.with_slot-requires
with_slot-requires c =
    let a = c.args in
    posted-slot a.table.width a.table.height (held a.table) a.r c.in-Ok.k (sym c.post_slot.ensures ∙ c.in-Ok.is)
