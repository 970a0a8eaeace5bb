-- `masks::window_mask` meets its contract: the mask is that of a pinch, or that of the table that has the directions.
-- Assumes nothing.
use mathlib.Core.Path.{◌≡◌, refl, sym, ◌∙◌}
use mathlib.Core.Bool.{false}
use Rattle.basics.specs.Bits.{bit}
use Rattle.moves.proofs.Table.{table-sixteen, table-eight, table-within, sixteen-listed, eight-listed}
use Rattle.masks.specs.Windows.{pinch_of}
use Rattle.masks.proofs.Windows.{pinch-window, pinch-alone, window-within}
use Rattle.masks.proofs.window_mask.Goals.{Else-is_pinch}
use Rattle.masks.proofs.window_mask.Goals as goal

-- The middle of the floor is no pinch.
free : (c : Else-is_pinch)
    → let b = c.args.b in
    pinch_of (bit b 0) (bit b 1) (bit b 2) (bit b 3) ≡ false
free c =
    sym (pinch-window c.window_map-map.ensures) ∙ sym c.is_pinch.ensures ∙ c.if-is_pinch.false

pub returns-then-is_pinch : goal.returns-then-is_pinch
returns-then-is_pinch c =
    pinch-alone c.requires
    (sym (pinch-window c.window_map-map.ensures) ∙ sym c.is_pinch.ensures ∙ c.if-is_pinch.true)

pub table_open-requires : goal.table_open-requires
table_open-requires c = (sixteen-listed, refl, free (goal.at.table_open-requires c).Else-is_pinch)

pub table_open-requires-else-dirs-eq16 : goal.table_open-requires-else-dirs-eq16
table_open-requires-else-dirs-eq16 c =
    (eight-listed, refl, free (goal.at.table_open-requires-else-dirs-eq16 c).Else-is_pinch)

pub returns-then-dirs-eq16 : goal.returns-then-dirs-eq16
returns-then-dirs-eq16 c =
    window-within (rw (table-sixteen c.args.dirs c.if-dirs-eq16.true) at (table-within c.requires))
    c.table_open.ensures

pub returns-else-dirs-eq16 : goal.returns-else-dirs-eq16
returns-else-dirs-eq16 c =
    window-within (rw (table-eight c.args.dirs c.if-dirs-eq16.false) at (table-within c.requires))
    c.table_open-else-dirs-eq16.ensures
