-- Sight with the pinches counted (rules 2.4 to 2.7).
--
--   edge-no-pinch == no vertex on the edge of the floor is a pinch; edge-left, -above, -right, -below for each side
--   pinch-tests    == `pinch_of` of four cells by the comparisons that the code makes
--   pinch-read    == `pinch` from the four cells that the code reads
--   obstacle-sees == nothing is in the way exactly when the ends see each other; obstacle-sees-segment for two vertices
--                    by their numbers
--   obstacle-back == the obstacle of a segment is None exactly when that of the segment turned round is
--   still-..      == `still` of a segment by its spans
--   unit-nearest  == the nearest pinch of a segment of at most one column and one row is one of its ends
--   one-row, one-level, two-rows == a segment of one row, of one column and no row, or of one column and two rows
--                      passes no pinch exactly when neither end is one
use Prim.Native.Nat.{ℕ, suc, ◌+◌, ◌≤◌, ◌<◌}
use mathlib.Core.Path.{◌≡◌, refl, sym, ap, ap₂, ◌∙◌}
use mathlib.Core.Bool.{Bool, beq, true, false, ◌&&◌, ◌||◌, not, and-false, true≢false}
use mathlib.Core.Logic.{◌⊎◌, ⊎_elim}
use native.Mathlib.Omega.{arith}
use native.Mathlib.Numerals.{add-one}
use borrow.Author.Tests.{eq-eqb, ne_eqb}
use lib.Dec.{eqb}
use Rattle.std.specs.Prelude.{None}
use Rattle.basics.specs.Bounded.{pick}
use Rattle.basics.proofs.Order.{le-or-lt}
use Rattle.basics.proofs.Bools.{and_intro, or_left, or_right}
use Rattle.floor.specs.Floor.{Floor, blocked, vertices, column, row}
use Rattle.floor.proofs.Numbers.{column-le, row-le}
use Rattle.floor.proofs.Cells.{blocked-left, blocked-above, blocked-right, blocked-below}
use Rattle.sight.specs.Sight.{Segment, segment_of, segment, pinch, no_pinch_passed, still, sees}
use Rattle.sight.specs.Obstacle.{is_clear, or_else, span, blockage, pinch_at, nearest_pinch, obstacle}
use Rattle.sight.specs.Travel.{Ends, pinch_here, Common}
use Rattle.sight.proofs.Symmetry.{back, sees_back}
use Rattle.sight.proofs.First.{else-clear}
use Rattle.sight.proofs.Obstacles.{blockage-clear}
use Rattle.sight.proofs.Common.{common-one, one-common}
pub use Rattle.sight.proofs.Vertices.{point-le}
use Rattle.sight.proofs.Nearest.{clear-unless, nearest-clear, ends-nearest}

-- ---- the four cells at a vertex

-- The cells at (x, y), (x + 1, y + 1), (x + 1, y) and (x, y + 1).
abbrev pub pinch_of : Bool → Bool → Bool → Bool → Bool
pinch_of a b c d = (a && b && (not c && not d)) || (not a && not b && (c && d))

-- No pinch, where one of the first two is blocked and one of the last two: each is beside both of the other pair.
side_by_side : (a b c d : Bool) → (a || b) ≡ true → (c || d) ≡ true → pinch_of a b c d ≡ false
side_by_side true true true d p q = refl
side_by_side true true false true p q = refl
side_by_side true true false false p q = absurd (true≢false (sym q))
side_by_side true false c d p q = refl
side_by_side false true c d p q = refl
side_by_side false false c d p q = absurd (true≢false (sym p))

neither-pair : (a b : Bool) → ((a && b && false) || (not a && not b && false)) ≡ false
neither-pair a b = rw (and-false (a && b), and-false (not a && not b))

-- A pinch has the pairs different, the first two the same, and the last two the same.
pub pinch-tests : (a b c d : Bool) → (not (beq a c) && (beq a b && beq c d)) ≡ pinch_of a b c d
pinch-tests true true true true = refl
pinch-tests true true true false = refl
pinch-tests true true false true = refl
pinch-tests true true false false = refl
pinch-tests true false true true = refl
pinch-tests true false true false = refl
pinch-tests true false false true = refl
pinch-tests true false false false = refl
pinch-tests false true true true = refl
pinch-tests false true true false = refl
pinch-tests false true false true = refl
pinch-tests false true false false = refl
pinch-tests false false true true = refl
pinch-tests false false true false = refl
pinch-tests false false false true = refl
pinch-tests false false false false = refl

module _ (f : Floor) (x y : ℕ) where
  sides : (blocked f x y || blocked f (suc x) (suc y)) ≡ true → (blocked f (suc x) y || blocked f x (suc y)) ≡ true
      → pinch f x y ≡ false
  unfolding pinch
  sides = side_by_side (blocked f x y) (blocked f (suc x) (suc y)) (blocked f (suc x) y) (blocked f x (suc y))

  pub edge-left : x ≡ 0 → pinch f x y ≡ false
  edge-left z =
      sides (or_left (blocked f x y) (blocked f (suc x) (suc y)) (blocked-left f x y z))
      (or_right (blocked f (suc x) y) (blocked f x (suc y)) (blocked-left f x (suc y) z))

  pub edge-above : y ≡ 0 → pinch f x y ≡ false
  edge-above z =
      sides (or_left (blocked f x y) (blocked f (suc x) (suc y)) (blocked-above f x y z))
      (or_left (blocked f (suc x) y) (blocked f x (suc y)) (blocked-above f (suc x) y z))

  pub edge-right : f.wide ≤ x → pinch f x y ≡ false
  edge-right l =
      sides (or_right (blocked f x y) (blocked f (suc x) (suc y)) (blocked-right f (suc x) (suc y) (omega arith)))
      (or_left (blocked f (suc x) y) (blocked f x (suc y)) (blocked-right f (suc x) y (omega arith)))

  pub edge-below : f.high ≤ y → pinch f x y ≡ false
  edge-below l =
      sides (or_right (blocked f x y) (blocked f (suc x) (suc y)) (blocked-below f (suc x) (suc y) (omega arith)))
      (or_right (blocked f (suc x) y) (blocked f x (suc y)) (blocked-below f x (suc y) (omega arith)))

  -- No vertex of the floor's edge is a pinch.
  pub edge-no-pinch : (x ≡ 0) ⊎ ((y ≡ 0) ⊎ ((f.wide ≤ x) ⊎ (f.high ≤ y))) → pinch f x y ≡ false
  edge-no-pinch = ⊎_elim edge-left (⊎_elim edge-above (⊎_elim edge-right edge-below))

  -- The test of the four cells, as the code reads them.
  pub pinch-read : {a b c d r : Bool} → a ≡ blocked f x y → b ≡ blocked f (x + 1) (y + 1) → c ≡ blocked f (x + 1) y
      → d ≡ blocked f x (y + 1) → r ≡ pinch_of a b c d → r ≡ pinch f x y
  unfolding pinch
  pinch-read p q u v e =
      let i : x + 1 ≡ suc x = add-one x in
      let j : y + 1 ≡ suc y = add-one y in
      e ∙ rw (p, q, u, v, i, j)

module _ (f : Floor) (x0 y0 x1 y1 : ℕ) (e : Ends f.wide f.high x0 y0 x1 y1) where
  abbrev t : Segment
  t = segment_of x0 y0 x1 y1

  pub obstacle-sees : is_clear (obstacle f t) ≡ sees f t
  unfolding obstacle sees
  obstacle-sees =
      else-clear (blockage f t) (pick (still t) None (nearest_pinch f t))
      ∙ ap₂ ◌&&◌ (blockage-clear f x0 y0 x1 y1 e)
      (or-clear (still t) ∙ ap (λ b. still t || b) (nearest-clear f x0 y0 x1 y1 e))
    where
      or-clear : (b : Bool) → is_clear (pick b None (nearest_pinch f t)) ≡ (b || is_clear (nearest_pinch f t))
      or-clear true = refl
      or-clear false = refl

module _ (f : Floor) (x0 y0 x1 y1 : ℕ) (e : Ends f.wide f.high x0 y0 x1 y1) where
  turned : Ends f.wide f.high x1 y1 x0 y0
  turned = record { x_first = e.x_last; y_first = e.y_last; x_last = e.x_first; y_last = e.y_first }

  pub obstacle-back : is_clear (obstacle f (back (segment_of x0 y0 x1 y1))) ≡ is_clear (obstacle f (segment_of x0 y0 x1 y1))
  obstacle-back =
      obstacle-sees f x1 y1 x0 y0 turned ∙ sees_back f (segment_of x0 y0 x1 y1) ∙ sym (obstacle-sees f x0 y0 x1 y1 e)

module _ (f : Floor) (a b : ℕ) (la : a < vertices f.wide f.high) (lb : b < vertices f.wide f.high) where
  on-floor : Ends f.wide f.high (column f.wide a) (row f.wide a) (column f.wide b) (row f.wide b)
  on-floor = record {
    x_first = column-le f.wide a;
    y_first = row-le f.wide f.high a la;
    x_last = column-le f.wide b;
    y_last = row-le f.wide f.high b lb;
  }

  pub obstacle-sees-segment : is_clear (obstacle f (segment f.wide a b)) ≡ sees f (segment f.wide a b)
  unfolding segment
  obstacle-sees-segment =
      obstacle-sees f (column f.wide a) (row f.wide a) (column f.wide b) (row f.wide b) on-floor

module _ (x0 y0 x1 y1 : ℕ) where
  pub still-yes : span x0 x1 ≡ 0 → span y0 y1 ≡ 0 → still (segment_of x0 y0 x1 y1) ≡ true
  unfolding span
  still-yes p q = and_intro (eqb x0 x1) (eqb y0 y1) (eq-eqb x0 x1 (omega arith)) (eq-eqb y0 y1 (omega arith))

  pub still-column : (span x0 x1 ≡ 0 → ⊥) → still (segment_of x0 y0 x1 y1) ≡ false
  unfolding span
  still-column n = rw (ne_eqb x0 x1 (λ e. n (omega arith)))

  pub still-row : (span y0 y1 ≡ 0 → ⊥) → still (segment_of x0 y0 x1 y1) ≡ false
  unfolding span
  still-row n = rw (ne_eqb y0 y1 (λ e. n (omega arith))) (and-false (eqb x0 x1))

  pub still-apart : 1 ≤ span x0 x1 + span y0 y1 → still (segment_of x0 y0 x1 y1) ≡ false
  still-apart l =
      ⊎_elim (λ (h : 1 ≤ span x0 x1). still-column (λ z. omega arith))
      (λ (h : span x0 x1 < 1). still-row (λ z. omega arith)) (le-or-lt 1 (span x0 x1))

-- ---- a look from one end

module _ (f : Floor) (x0 y0 x1 y1 : ℕ) (e : Ends f.wide f.high x0 y0 x1 y1) where
  abbrev u : Segment
  u = segment_of x0 y0 x1 y1

  -- Neither end is a pinch.
  abbrev ends-free : Bool
  ends-free = not (pinch f x0 y0) && not (pinch f x1 y1)

  here-clear : (x y : ℕ) → is_clear (pinch_here f x y) ≡ not (pinch f x y)
  unfolding pinch_here
  here-clear x y = clear-unless (pinch f x y) (pinch_at f x y) refl

  ends-passed : Common (span x0 x1) (span y0 y1) 1 → 1 ≤ span x0 x1 + span y0 y1 → no_pinch_passed f u ≡ ends-free
  ends-passed C l =
      sym (nearest-clear f x0 y0 x1 y1 e) ∙ ap is_clear (ends-nearest f x0 y0 x1 y1 e C l)
      ∙ else-clear (pinch_here f x0 y0) (pinch_here f x1 y1) ∙ ap₂ ◌&&◌ (here-clear x0 y0) (here-clear x1 y1)

  -- One row high, and any number of columns wide.
  pub one-row : span y0 y1 ≡ 1 → no_pinch_passed f u ≡ ends-free
  one-row q = ends-passed (rw q (common-one (span x0 x1))) (omega arith)

  -- One column wide.
  one-column : span x0 x1 ≡ 1 → no_pinch_passed f u ≡ ends-free
  one-column p = ends-passed (rw p (one-common (span y0 y1))) (omega arith)

  pub one-level : span x0 x1 ≡ 1 → span y0 y1 ≡ 0 → no_pinch_passed f u ≡ ends-free
  one-level p q = one-column p

  pub two-rows : span x0 x1 ≡ 1 → span y0 y1 ≡ 2 → no_pinch_passed f u ≡ ends-free
  two-rows p q = one-column p

  pub unit-nearest : span x0 x1 ≤ 1 → span y0 y1 ≤ 1 → 1 ≤ span x0 x1 + span y0 y1
      → nearest_pinch f u ≡ or_else (pinch_here f x0 y0) (pinch_here f x1 y1)
  unit-nearest p q l =
      ⊎_elim
      (λ (h : 1 ≤ span y0 y1).
      let one : span y0 y1 ≡ 1 = omega arith in
      ends-nearest f x0 y0 x1 y1 e (rw one (common-one (span x0 x1))) l)
      (λ (h : span y0 y1 < 1).
      let one : span x0 x1 ≡ 1 = omega arith in
      ends-nearest f x0 y0 x1 y1 e (rw one (one-common (span y0 y1))) l) (le-or-lt 1 (span y0 y1))
