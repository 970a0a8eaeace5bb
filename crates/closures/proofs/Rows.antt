-- A rectangle on a map: its cells blocked row after row, and its part that lies on the floor.
--
--   covers_to r n          == what the rows of r before row n cover
--   Rows r w h old end j s == s is the map old, of a floor of width w and height h, blocked also where the rows of r
--                             before row j cover; row `end` is the one after the last row of r
use Prim.Native.Nat.{ℕ, ◌+◌, ◌-◌, ◌≤◌, ◌<◌, min}
use mathlib.Core.Path.{◌≡◌, refl, sym, ap, ap₂, ◌∙◌}
use mathlib.Core.Bool.{Bool, true, false, ◌&&◌, ◌||◌, and-true, and-false, or-false}
use mathlib.Core.Logic.{⊎_elim}
use mathlib.Core.List.{List}
use native.Mathlib.Omega.{arith}
use borrow.Author.Tests.{le-leb, lt-leb, lt-ltb, le-ltb, eq-eqb, ne_eqb}
use lib.Dec.{leb, ltb}
use lib.ListN.{length}
use Rattle.basics.proofs.Order.{le-or-lt, eq-or-ne}
use Rattle.floor.specs.Floor.{cell_number, floor_of, map_of, with_blocked}
use Rattle.floor.specs.Known.{blocked_from}
use Rattle.floor.specs.Refusals.{floor_shape}
use Rattle.std.proofs.Common.{Ok, Some}
use Rattle.floor.proofs.Packed.{Bytes}
use Rattle.floor.proofs.Maps.{
  map_same,
  blocked-more,
  in_row,
  blocked-none,
  blocked-good,
  blocked-length,
  blocked-row,
}
use Rattle.closures.specs.Plain.{covers}
use Rattle.closures.specs.Known.{CellsOnFloor, clipped, Marked}
use Rattle.closures.specs.declared.Rectangle.{Rectangle}
use Rattle.closures.proofs.Shapes.{above_of, below_of}

abbrev covers_to : Rectangle → ℕ → ℕ → ℕ → Bool
covers_to r n i j = covers r i j && ltb j n

pub record Rows (r : Rectangle) (w h : ℕ) (old : List ℕ) (end j : ℕ) (s : List ℕ) : Type 0 where
  pub last : end ≡ r.row + r.rows
  pub from : r.row ≤ j
  pub within : j ≤ end
  pub at : s ≡ map_of (with_blocked (floor_of w h old) (covers_to r j))

no_row : (r : Rectangle) (i j : ℕ) → false ≡ covers_to r r.row i j
no_row r i j = ⊎_elim
    (λ (p : r.row ≤ j). sym (rw (le-ltb j r.row p) (and-false (covers r i j))))
    (λ (p : j < r.row). sym (ap (λ b. b && ltb j r.row) (above_of r i j p)))
    (le-or-lt r.row j)

this-row : (r : Rectangle) (n i : ℕ) → r.row ≤ n → n < r.row + r.rows
    → (covers_to r n i n || in_row r.column n r.columns i n) ≡ covers_to r (n + 1) i n
unfolding covers
this-row r n i p q =
    rw (
      le-ltb n n (omega arith),
      lt-ltb n (n + 1) (omega arith),
      eq-eqb n n refl,
      le-leb r.row n p,
      lt-ltb n (r.row + r.rows) q,
      and-false ((leb r.column i && ltb i (r.column + r.columns)) && true),
      and-true (leb r.column i && ltb i (r.column + r.columns)),
    ) (sym (and-true (leb r.column i && ltb i (r.column + r.columns))))

one-row-more : (r : Rectangle) (n i j : ℕ) → r.row ≤ n → n < r.row + r.rows
    → (covers_to r n i j || in_row r.column n r.columns i j) ≡ covers_to r (n + 1) i j
one-row-more r n i j p q = ⊎_elim
    (λ (e : j ≡ n). rw e (this-row r n i p q))
    (λ (e : j ≡ n → ⊥). rw (ne_eqb j n e) (or-false (covers_to r n i j) ∙ ap (λ b. covers r i j && b) (other e)))
    (eq-or-ne j n)
  where
    other : (j ≡ n → ⊥) → ltb j n ≡ ltb j (n + 1)
    other e = ⊎_elim
        (λ (a : n ≤ j). le-ltb j n a ∙ sym (le-ltb j (n + 1) (omega arith)))
        (λ (a : j < n). lt-ltb j n a ∙ sym (lt-ltb j (n + 1) (omega arith)))
        (le-or-lt n j)

all-rows : (r : Rectangle) (n i j : ℕ) → n ≡ r.row + r.rows → covers_to r n i j ≡ covers r i j
all-rows r n i j e = ⊎_elim
    (λ (p : n ≤ j). rw (below_of r i j (omega arith)))
    (λ (p : j < n). rw (lt-ltb j n p) (and-true (covers r i j)))
    (le-or-lt n j)

module _ (r : Rectangle) (w h : ℕ) (old : List ℕ) (good : floor_shape w h old ≡ Ok tt) where
  pub rows_none : Bytes old → (end : ℕ) → end ≡ r.row + r.rows → Rows r w h old end r.row old
  rows_none small end e = record {
    last = e;
    from = omega arith;
    within = omega arith;
    at =
        blocked-none w h old good small
        ∙ map_same w h _ _ (λ i j a b. ap (λ t. (floor_of w h old).cell i j || t) (no_row r i j));
  }

  module _ {end j : ℕ} {s : List ℕ} (g : Rows r w h old end j s) where
    pub rows-good : floor_shape w h s ≡ Ok tt
    rows-good = rw g.at (blocked-good w h old good (covers_to r j))

    pub rows-length : length s ≡ length old
    rows-length = ap length g.at ∙ blocked-length w h old good (covers_to r j)

    pub rows-done : end ≤ j → Marked (Some r) w h old s
    rows-done l =
        g.at ∙ map_same w h _ _ (λ x y a b.
        ap (λ t. (floor_of w h old).cell x y || t) (all-rows r j x y (omega (arith, g.within, g.last))))

    -- One row more is blocked.
    pub rows_more : CellsOnFloor r w h → j < end → (first : ℕ) (left : List ℕ) → first ≡ cell_number w r.column j
        → left ≡ blocked_from first r.columns s → Rows r w h old end (j + 1) left
    rows_more on b first left q e =
        let row = in_row r.column j r.columns in
        record {
          last = g.last;
          from = omega (arith, g.from);
          within = omega arith;
          at =
              e ∙ ap (λ n. blocked_from n r.columns s) q
              ∙ blocked-row w h s rows-good r.column j r.columns on.columns (omega (arith, g.last, on.rows))
              ∙ ap (λ l. map_of (with_blocked (floor_of w h l) row)) g.at
              ∙ blocked-more (floor_of w h old) (covers_to r j) row
              ∙ map_same w h _ _ (λ x y a c.
              ap (λ t. (floor_of w h old).cell x y || t) (one-row-more r j x y g.from (omega (arith, g.last))));
        }

-- The part of a rectangle on the floor covers the same cells of the floor.
clipped-from : (a n i : ℕ) → i < n → leb (min a n) i ≡ leb a i
clipped-from a n i l =
    ⊎_elim
    (λ (p : a ≤ i). le-leb (min a n) i (omega arith) ∙ sym (le-leb a i p))
    (λ (p : i < a). lt-leb (min a n) i (omega arith) ∙ sym (lt-leb a i p))
    (le-or-lt a i)

clipped-end : (a m n i : ℕ) → i < n → ltb i (min a n + min m (n - min a n)) ≡ ltb i (a + m)
clipped-end a m n i l =
    ⊎_elim
    (λ (p : a + m ≤ i). le-ltb i (min a n + min m (n - min a n)) (omega arith) ∙ sym (le-ltb i (a + m) p))
    (λ (p : i < a + m). lt-ltb i (min a n + min m (n - min a n)) (omega arith) ∙ sym (lt-ltb i (a + m) p))
    (le-or-lt (a + m) i)

module _ (r : Rectangle) (w h : ℕ) where
  clipped-covers : (i j : ℕ) → i < w → j < h → covers (clipped w h r) i j ≡ covers r i j
  unfolding covers
  clipped-covers i j p q =
      ap₂ ◌&&◌
      (ap₂ ◌&&◌ (clipped-from r.column w i p) (clipped-end r.column r.columns w i p))
      (ap₂ ◌&&◌ (clipped-from r.row h j q) (clipped-end r.row r.rows h j q))

  pub clipped-on : CellsOnFloor (clipped w h r) w h
  clipped-on = record { columns = omega arith; rows = omega arith }

  pub clipped-marked : (l left : List ℕ) → Marked (Some (clipped w h r)) w h l left → Marked (Some r) w h l left
  clipped-marked l left e =
      e ∙ map_same w h _ _ (λ i j a b. ap (λ t. (floor_of w h l).cell i j || t) (clipped-covers i j a b))
