-- `masks::leaving_row` meets its contract: by the number of moves the directions are those of the sixteen, or none of
-- them goes two columns or rows. Assumes nothing.
use native.Mathlib.Numerals.{add-one}
use Rattle.masks.proofs.Windows.{listed-unit, unit-rows}
use Rattle.masks.proofs.leaving_row.Goals as goal

pub returns-then-dirs-ne16 : goal.returns-then-dirs-ne16
returns-then-dirs-ne16 c =
    let p = c.requires in
    unit-rows p.1 (listed-unit p.1 c.if-dirs-ne16.true) p.0 p.2 c.window_row-here.ensures

pub leaving_between-requires : goal.leaving_between-requires
leaving_between-requires c =
    let p = c.requires in (
      p.0,
      p.1,
      p.2,
      record {
        upper = rw c.saturating_sub.ensures at c.window_row-above.ensures;
        middle = c.window_row-here.ensures;
        lower = rw add-one at c.window_row-below.ensures;
      },
    )
