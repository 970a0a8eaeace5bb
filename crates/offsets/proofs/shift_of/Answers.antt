-- `offsets::shift_of` meets its contract: neither part of an offset is above 258, which is below SHIFT_BASE. Assumes
-- nothing.
use mathlib.Core.Path.{ap}
use native.Mathlib.Omega.{arith}
use Rattle.moves.specs.declared.Offset.{Offset}
use Rattle.moves.specs.Moves.{move_at}
use Rattle.moves.proofs.Table.{lawful-move}
use Rattle.offsets.proofs.Masked.{MoveOffset, move-offset}
use Rattle.offsets.proofs.shift_of.Goals.{After-offset_of-by}
use Rattle.offsets.proofs.shift_of.Goals as goal

-- `offsets::shift_of` meets its contract: neither part of an offset is above 258, which is below SHIFT_BASE. Assumes
-- nothing.
made : (c : After-offset_of-by)
    → let a = c.args in
    MoveOffset a.w (move_at a.dirs a.m) c.offset_of-by.result
made c =
    move-offset c.offset_of-by.ensures c.requires.0
    (lawful-move c.args.dirs c.args.m c.requires.1 c.requires.2).is_short

pub overflow_add-result : goal.overflow_add-result
overflow_add-result c = let p = made (goal.at.overflow_add-result c).After-offset_of-by in omega arith

pub overflow_sub-result : goal.overflow_sub-result
overflow_sub-result c = let p = made (goal.at.overflow_sub-result c).After-offset_of-by in omega arith

pub returns : goal.returns
returns c =
    let p = made (goal.at.returns c).After-offset_of-by in
    let u = ap (λ (o : Offset). o.up) p.is in
    let d = ap (λ (o : Offset). o.down) p.is in
    omega (arith, p.downs, u, d)
