-- `masks::turned_dir` meets its contract: the opposite move is eight directions on or back. Assumes nothing.
use mathlib.Core.Path.{ap, ◌∙◌}
use lib.Bits.{bit_xor}
use Rattle.moves.proofs.Table.{lawful-move, listed-lawful}
use Rattle.masks.proofs.Clearing.{turned-xor}
use Rattle.masks.proofs.turned_dir.Goals as goal

pub returns : goal.returns
returns c =
    let is = ap (λ k. bit_xor k 8) c.dir_at.ensures.0 ∙ turned-xor c.requires.0 c.args.m c.requires.1 in
    let opposite = (lawful-move c.args.dirs c.args.m (listed-lawful c.requires.0) c.requires.1).opposite_listed in
    (is, rw is (lawful-move c.args.dirs _ (listed-lawful c.requires.0) opposite).in_the_table)
