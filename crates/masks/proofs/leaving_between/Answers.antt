-- `masks::leaving_between` meets its contract: by the number of moves the directions are those of the sixteen, or none
-- of them goes two columns or rows. Assumes nothing.
use Rattle.masks.proofs.Windows.{listed-sixteen, listed-unit, unit-rows}
use Rattle.masks.proofs.leaving_between.Goals as goal

pub join_line-requires : goal.join_line-requires
join_line-requires c =
    let p = c.requires in
    (p.0, rw (listed-sixteen p.1 c.if-dirs-ne16.false) at p.2, p.3)

pub returns : goal.returns
returns c =
    rw (listed-sixteen c.requires.1 c.if-dirs-ne16.false) c.join_line.ensures

pub returns-then-dirs-ne16 : goal.returns-then-dirs-ne16
returns-then-dirs-ne16 c =
    let p = c.requires in
    unit-rows p.1 (listed-unit p.1 c.if-dirs-ne16.true) p.0 p.2 p.3.middle
