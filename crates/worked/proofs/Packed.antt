-- Packed floors: antt computes those worked by hand. A packed floor answers as the byte floor with the same cells,
-- since it is that floor.
--
--   packed-sight == the obstacle of a segment is the same on a packed floor and on the byte floor
--   packed-route, packed-no_route == the true sheets are the same on a packed floor and on the byte floor
--   packed-kept  == the positions that thinning keeps are the same on a packed floor and on the byte floor
use Prim.Native.Nat.{ℕ}
use mathlib.Core.Path.{◌≡◌, refl, ap}
use mathlib.Core.List.{List}
use Rattle.basics.specs.Bounded.{bounded-opened}
use Rattle.basics.specs.Lists.{lists-opened}
use Rattle.floor.specs.Floor.{stored_cells, floor_of, byte_floor, floor-opened}
use Rattle.floor.specs.Refusals.{sides_shape, unused_clear, floor_shape}
use Rattle.floor.proofs.Stored.{packed-floor}
use Rattle.sight.specs.Sight.{Segment}
use Rattle.sight.specs.Obstacle.{obstacle}
use Rattle.moves.specs.declared.Directions.{Directions}
use Rattle.paths.specs.Sheet.{Sheet, TrueRoute, TrueNoRoute}
use Rattle.grid.specs.Grid.{floor_graph}
use Rattle.thinning.specs.Thinning.{kept_positions}
use Rattle.worked.specs.Packed.{PackedHold}

pub packed-hold : PackedHold
unfolding sides_shape unused_clear floor_shape bounded-opened lists-opened floor-opened
packed-hold = record {
  floor_g_stored = refl;
  nine_cells = refl;
  nine_good = refl;
  nine_first = refl;
  nine_last = refl;
  nine_short = refl;
  nine_long = refl;
  eight_good = refl;
}

module _ (w h : ℕ) (l : List ℕ) where
  pub packed-sight : (s : Segment) → obstacle (floor_of w h (stored_cells l)) s ≡ obstacle (byte_floor w h l) s
  packed-sight s = ap (λ f. obstacle f s) (packed-floor l w h)

  module _ (r : Directions) (a b : ℕ) (s : Sheet) where
    pub packed-route : TrueRoute (floor_graph (floor_of w h (stored_cells l)) r) a b s
        ≡ TrueRoute (floor_graph (byte_floor w h l) r) a b s
    packed-route = ap (λ f. TrueRoute (floor_graph f r) a b s) (packed-floor l w h)

    pub packed-no_route : TrueNoRoute (floor_graph (floor_of w h (stored_cells l)) r) a b s
        ≡ TrueNoRoute (floor_graph (byte_floor w h l) r) a b s
    packed-no_route = ap (λ f. TrueNoRoute (floor_graph f r) a b s) (packed-floor l w h)

  pub packed-kept : (points : List ℕ) (n : ℕ)
      → kept_positions (floor_of w h (stored_cells l)) points n ≡ kept_positions (byte_floor w h l) points n
  packed-kept points n = ap (λ f. kept_positions f points n) (packed-floor l w h)
