-- `masks::dir_open` meets its contract: from its start the move has the four cells of the floor beside it. Assumes
-- nothing.
use Prim.Native.Nat.{◌≤◌}
use mathlib.Core.Path.{◌≡◌, ap, ◌∙◌}
use Rattle.moves.specs.Moves.{move_of}
use Rattle.moves.specs.Cells.{centre}
use Rattle.moves.proofs.Signs.{back}
use Rattle.masks.specs.Windows.{start_of, open_in}
use Rattle.masks.proofs.Windows.{start-centre, open-window, dir-where}
use Rattle.masks.proofs.dir_open.Goals.{After-start_of-2}
use Rattle.masks.proofs.dir_open.Goals as goal

-- Where the move starts.
column : (c : After-start_of-2)
    → (c.start_of.result ≡ start_of c.args.dx) × (c.start_of.result ≤ 2)
column c = rw (back c.args.dx c.requires.0.columns) at c.start_of.ensures

row : (c : After-start_of-2) → (c.start_of-2.result ≡ start_of c.args.dy) × (c.start_of-2.result ≤ 2)
row c = rw (back c.args.dy c.requires.0.rows) at c.start_of-2.ensures

pub returns : goal.returns
returns c =
    let dx = c.args.dx in
    let dy = c.args.dy in
    let short = c.requires.0 in
    let is =
    rw (back dx short.columns, back dy short.rows) at c.is_unblocked.ensures
    ∙ open-window c.window_map-map.ensures (move_of dx dy 0) c.start_of.result
    c.start_of-2.result
    short c.requires.1 (column (goal.at.returns c).After-start_of-2).1 (row (goal.at.returns c).After-start_of-2).1 (ap (centre dx) (column (goal.at.returns c).After-start_of-2).0 ∙ start-centre dx short.columns)
    (ap (centre dy) (row (goal.at.returns c).After-start_of-2).0 ∙ start-centre dy short.rows) c.requires.3 in
    rw (c.from.ensures, is) (dir-where (open_in (move_of dx dy 0) _ _ _ _) c.args.k c.requires.2)
