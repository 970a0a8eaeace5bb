-- `offsets::offset_of` meets its contract: a row is w + 1 vertices. Assumes nothing.
use mathlib.Core.Path.{◌≡◌}
use native.Mathlib.Omega.{arith}
use Rattle.moves.specs.Table.{Short, parts_of}
use Rattle.moves.proofs.Signs.{back}
use Rattle.moves.proofs.Table.{move-short}
use Rattle.offsets.proofs.Masked.{Composed, composed}
use Rattle.offsets.proofs.offset_of.Goals.{After-move_at-t, After-parts_of-x, After-parts_of-y}
use Rattle.offsets.proofs.offset_of.Goals as goal

-- `offsets::offset_of` meets its contract: a row is w + 1 vertices. Assumes nothing.
short : (c : After-move_at-t) → Short c.move_at-t.result
short c =
    move-short c.args.dirs c.args.m c.requires.1 c.requires.2 c.move_at-t.ensures

-- The parts of the two offsets.
columns : (c : After-parts_of-x) → c.parts_of-x.result ≡ parts_of c.move_at-t.result.dx
columns c =
    rw (back c.move_at-t.result.dx (short (goal.at.After-parts_of-x c).After-move_at-t).columns) at c.parts_of-x.ensures

dirs : (c : After-parts_of-y)
    → c.parts_of-y.result ≡ parts_of c.move_at-t.result.dy
dirs c =
    rw (back c.move_at-t.result.dy (short (goal.at.After-parts_of-y c).After-move_at-t).rows) at c.parts_of-y.ensures

made : (c : After-parts_of-y)
    → Composed c.args.w c.move_at-t.result c.parts_of-x.result
    c.parts_of-y.result
made c =
    composed c.args.w c.move_at-t.result c.parts_of-x.result c.parts_of-y.result
    (columns (goal.at.After-parts_of-y c).After-parts_of-x) (dirs c) c.requires.0 (short (goal.at.After-parts_of-y c).After-move_at-t)

pub parts_of-x-requires : goal.parts_of-x-requires
parts_of-x-requires c =
    rw (back c.move_at-t.result.dx (short (goal.at.parts_of-x-requires c).After-move_at-t).columns) (short (goal.at.parts_of-x-requires c).After-move_at-t).columns

pub parts_of-y-requires : goal.parts_of-y-requires
parts_of-y-requires c =
    rw (back c.move_at-t.result.dy (short (goal.at.parts_of-y-requires c).After-move_at-t).rows) (short (goal.at.parts_of-y-requires c).After-move_at-t).rows

pub overflow_mul-result : goal.overflow_mul-result
overflow_mul-result c = let p = made (goal.at.overflow_mul-result c).After-parts_of-y in omega arith

pub overflow_add-result-2 : goal.overflow_add-result-2
overflow_add-result-2 c = let p = made (goal.at.overflow_add-result-2 c).After-parts_of-y in omega arith

pub overflow_mul-result-2 : goal.overflow_mul-result-2
overflow_mul-result-2 c = let p = made (goal.at.overflow_mul-result-2 c).After-parts_of-y in omega arith

pub overflow_add-result-4 : goal.overflow_add-result-4
overflow_add-result-4 c = let p = made (goal.at.overflow_add-result-4 c).After-parts_of-y in omega arith
