-- The graph of the moves that leave a vertex has the open moves, and others only to pinches, which no move leaves. So
-- costs and counts of all vertices pass the tests on it exactly when they pass them on the graph of the floor.
--
--   pinched f v     == vertex v is a pinch
--   leaving-half    == `HalfOf (pinched f)` of the graph of the floor and that of the moves that leave a vertex, for a
--                      source c that is no pinch
use Prim.Native.Nat.{ℕ, ◌<◌}
use mathlib.Core.Path.{◌≡◌, refl}
use mathlib.Core.Bool.{Bool, true, false}
use Rattle.floor.specs.Floor.{Floor, column, row}
use Rattle.sight.specs.Sight.{pinch}
use Rattle.moves.specs.declared.Directions.{Directions}
use Rattle.moves.specs.Moves.{move_at}
use Rattle.moves.specs.Leaving.{leaves}
use Rattle.moves.specs.Table.{lawful_dirs}
use Rattle.moves.proofs.Table.{LawfulMove, lawful-move}
use Rattle.moves.proofs.Opposites.{goes, goes-inside}
use Rattle.moves.proofs.Leaving.{leaves_none, leaves-shut, leaves-leads}
use Rattle.grid.specs.Grid.{floor_graph}
use Rattle.grid.specs.Leaving.{leaving_graph}
use Rattle.neighbours.proofs.Half.{HalfOf}

abbrev pub pinched : Floor → ℕ → Bool
pinched f v = pinch f (column f.wide v) (row f.wide v)

module _ (f : Floor) (r : Directions) (lawful : lawful_dirs r ≡ true) where
  law : (m : ℕ) → m < r.count → LawfulMove r m
  law m l = lawful-move r m lawful l

  pub leaving-half : (c : ℕ) → pinched f c ≡ false → HalfOf (pinched f) (floor_graph f r) (leaving_graph f r) c
  leaving-half c free = record {
    size = refl;
    moves = refl;
    cost = λ m l. refl;
    low = λ m l. (law m l).cost_low;
    inside = λ m v w l i e. goes-inside leaves f (move_at r m) v w (goes leaves f (move_at r m) v w e);
    shut = λ m v l i e. leaves-shut f (move_at r m) (law m l).is_short (law m l).is_narrow v i e;
    leads = λ m v w l i e. leaves-leads f (move_at r m) (law m l).is_short (law m l).is_narrow v i w e;
    none_from = λ m w l i p. leaves_none f (move_at r m) (law m l).is_short (law m l).is_narrow w i p;
    source = free;
  }
