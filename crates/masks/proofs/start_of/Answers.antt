-- `masks::start_of` meets its contract: one of the two parts of an offset is 0, and the other at most 2. Assumes
-- nothing.
use mathlib.Core.Path.{◌≡◌}
use native.Mathlib.Omega.{arith}
use Rattle.moves.specs.Steps.{up, down}
use Rattle.moves.proofs.Signs.{parts-back, up_le, down_le}
use Rattle.masks.proofs.start_of.Goals.{After-parts_of-o}
use Rattle.masks.proofs.start_of.Goals as goal

-- `masks::start_of` meets its contract: one of the two parts of an offset is 0, and the other at most 2. Assumes
-- nothing.
-- The two parts of the offset.
parts : (c : After-parts_of-o)
    → let o = c.parts_of-o.result in let d = c.args.d in (o.up ≡ up d) × (o.down ≡ down d)
parts c = parts-back c.args.d c.requires c.parts_of-o.ensures

pub overflow_sub-result : goal.overflow_sub-result
overflow_sub-result c =
    omega (arith, parts (goal.at.overflow_sub-result c).After-parts_of-o, up_le c.args.d, c.requires)

pub returns : goal.returns
returns c =
    rw ((parts (goal.at.returns c).After-parts_of-o).0, (parts (goal.at.returns c).After-parts_of-o).1) (omega arith, omega (arith, down_le c.args.d, c.requires))
