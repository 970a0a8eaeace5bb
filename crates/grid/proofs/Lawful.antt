-- A floor with any lawful table of moves is a lawful graph: where a move is open, so is its opposite, since sight is
-- the same in both directions.
--
--   table-lawful       == a floor with any lawful table of moves is a lawful graph
--   floor-lawful       == a floor with directions that pass `lawful_dirs`, as those of a neighbourhood do, is a lawful
--                         graph
--   size-le            == a floor of at most 127 by 127 cells has at most 16,384 vertices
--   graph_same         == floors of one size with the same cells have the same graph
use Prim.Native.Nat.{ℕ, ◌≤◌, ◌<◌}
use mathlib.Core.Path.{◌≡◌}
use mathlib.Core.Bool.{true}
use Rattle.floor.specs.Floor.{Floor, column, row}
use Rattle.floor.proofs.Numbers.{vertices-le, column-le}
use Rattle.sight.specs.Sight.{Segment, sees}
use Rattle.sight.proofs.Symmetry.{sees_back, sees-same}
use Rattle.moves.specs.declared.Move.{Move}
use Rattle.moves.specs.declared.Directions.{Directions}
use Rattle.moves.specs.Moves.{move_at}
use Rattle.moves.specs.Steps.{end_if}
use Rattle.moves.specs.AnyTable.{LawfulTable}
use Rattle.moves.specs.Table.{lawful_dirs}
use Rattle.moves.proofs.Table.{dirs-lawful}
use Rattle.moves.proofs.Steps.{goes_end}
use Rattle.moves.proofs.Opposites.{goes, goes-inside, goes-dx, goes-dy, goes_back}
use Rattle.paths.specs.Graph.{Lawful}
use Rattle.grid.specs.Grid.{table_graph, floor_graph}

module _ (f : Floor) (n : ℕ) (M : ℕ → Move) (T : LawfulTable n M) where
  pub table-lawful : Lawful (table_graph f n M)
  table-lawful = record {
    low = T.low;
    high = T.high;
    inside = λ m u w l i s. goes-inside sees f (M m) u w (goes sees f (M m) u w s);
    distinct = λ m k u w l h i s t.
        let a = goes sees f (M m) u w s in
        let b = goes sees f (M k) u w t in
        T.distinct m k l h (goes-dx sees f (M m) (M k) u w a b) (goes-dy sees f (M m) (M k) u w a b);
    opposite = T.opposite;
    opposite_listed = T.opposite_listed;
    opposite_cost = T.opposite_cost;
    opposite_back = λ m u w l i s.
        let back = M (T.opposite m) in
        goes_end sees f back (column f.wide w) (row f.wide w) u (column-le f.wide w)
        (goes_back sees f (sees_back f) (M m) back u w i (T.opposite_dx m l) (T.opposite_dy m l)
        (goes sees f (M m) u w s));
  }

module _ (f : Floor) where
  pub floor-lawful : (r : Directions) → lawful_dirs r ≡ true → Lawful (floor_graph f r)
  floor-lawful r e = table-lawful f r.count (move_at r) (dirs-lawful r e)

  pub size-le : f.wide ≤ 127 → f.high ≤ 127 → (r : Directions) → (floor_graph f r).size ≤ 16384
  size-le p q r = vertices-le p q

pub graph_same : (f h : Floor) (r : Directions) → f.wide ≡ h.wide → f.high ≡ h.high
    → ((i j : ℕ) → i < f.wide → j < f.high → f.cell i j ≡ h.cell i j) → floor_graph f r ≡ floor_graph h r
unfolding end_if
graph_same f h r p q e =
    let s : (z : Segment) → sees f z ≡ sees h z = sees-same f h p q e in
    simp (p, q, s)
