-- Sight is the same both ways; a vertex sees itself, even a pinch; and two floors with the same cells see the same.
--
--   back s    == the segment from the last end to the first
--   sees_back == sees f (back s) ≡ sees f s; sees-segment-back for two vertices by their numbers
--   sees-self == a vertex sees itself, even a pinch; sees-segment-self for a vertex by its number
--   sees-same == two floors with the same cells see the same
--   unblocked-back, -self, -same == unblocked f (back s) ≡ unblocked f s; `unblocked` from a vertex to itself;
--                 `unblocked` is the same on floors with the same cells; passes-back of the vertices passed
use Prim.Native.Nat.{ℕ, suc, ◌<◌, min, max}
use mathlib.Core.Path.{◌≡◌, refl, sym, ap₂, ◌∙◌}
use mathlib.Core.Bool.{Bool, true, ◌&&◌, ◌||◌, not}
use mathlib.Core.Logic.{⊎_elim}
use native.Mathlib.Omega.{arith}
use borrow.Author.Tests.{eq-eqb, ne_eqb}
use lib.Dec.{ltb, eqb}
use Rattle.basics.specs.Bounded.{every}
use Rattle.basics.proofs.Order.{eq-or-ne}
use Rattle.basics.proofs.Bools.{and_comm, eqb-sym}
use Rattle.floor.specs.Floor.{Floor, column, row}
use Rattle.floor.proofs.Cells.{blocked-same}
use Rattle.sight.specs.Sight.{
  Segment,
  segment_of,
  segment,
  positive,
  negative,
  between,
  corner,
  enters,
  no_cell_entered,
  upright_open,
  level_open,
  no_step_shut,
  unblocked,
  pinch,
  spans,
  passes,
  no_pinch_passed,
  sees,
}
use Rattle.sight.proofs.Travel.{between-back}
use Rattle.sight.proofs.Cross.{less, more, positive-is, negative-is}
use Rattle.sight.proofs.Sees.{none-entered, none_between, upright-enters}

abbrev pub back : Segment → Segment
back s = segment_of s.x1 s.y1 s.x0 s.y0

-- For the segment turned round, `less` and `more` change places.
module _ (s : Segment) (p q : ℕ) where
  less-back : less s.x1 s.y1 s.x0 s.y0 p q ≡ more s.x0 s.y0 s.x1 s.y1 p q
  less-back = omega arith

  more-back : more s.x1 s.y1 s.x0 s.y0 p q ≡ less s.x0 s.y0 s.x1 s.y1 p q
  more-back = omega arith

  pub positive_back : positive (back s) p q ≡ negative s p q
  positive_back = positive-is (back s) p q ∙ ap₂ ltb less-back more-back ∙ sym (negative-is s p q)

  pub negative_back : negative (back s) p q ≡ positive s p q
  negative_back = negative-is (back s) p q ∙ ap₂ ltb more-back less-back ∙ sym (positive-is s p q)

corner-same : (p q : ℕ → ℕ → Bool) (i j : ℕ) → ((x y : ℕ) → p x y ≡ q x y) → corner p i j ≡ corner q i j
unfolding corner
corner-same p q i j h = ap₂ ◌||◌ (ap₂ ◌||◌ (ap₂ ◌||◌ (h i j) (h (suc i) j)) (h i (suc j))) (h (suc i) (suc j))

enters-back : (s : Segment) (i j : ℕ) → enters (back s) i j ≡ enters s i j
unfolding enters
enters-back s i j =
    ap₂ ◌&&◌ (ap₂ ◌&&◌ (between-back s.x1 s.x0 i) (between-back s.y1 s.y0 j))
    (ap₂ ◌&&◌ (corner-same (positive (back s)) (negative s) i j (positive_back s))
    (corner-same (negative (back s)) (positive s) i j (negative_back s))
    ∙ and_comm (corner (negative s) i j) (corner (positive s) i j))

cells-back : (f : Floor) (s : Segment) → no_cell_entered f (back s) ≡ no_cell_entered f s
unfolding no_cell_entered
cells-back f s = simp (enters-back s)

-- A test P of the line of a segment along a grid line, by one end or the other.
either_end : (a b : ℕ) (P : ℕ → Bool) → (not (eqb b a) || P b) ≡ (not (eqb a b) || P a)
either_end a b P =
    ⊎_elim (λ e. rw e) (λ n. rw (ne_eqb b a (λ e. n (sym e)), ne_eqb a b n)) (eq-or-ne a b)

steps_back : (f : Floor) (s : Segment) → no_step_shut f (back s) ≡ no_step_shut f s
unfolding no_step_shut
steps_back f s =
    simp (between-back s.x1 s.x0, between-back s.y1 s.y0)
    (ap₂ ◌&&◌
    (either_end s.x0 s.x1 (λ x. every f.high (λ j. not (between s.y0 s.y1 j) || upright_open f x j)))
    (either_end s.y0 s.y1 (λ y. every f.wide (λ i. not (between s.x0 s.x1 i) || level_open f i y))))

pub unblocked-back : (f : Floor) (s : Segment) → unblocked f (back s) ≡ unblocked f s
unfolding unblocked
unblocked-back f s = ap₂ ◌&&◌ (cells-back f s) (steps_back f s)

pub unblocked-self : (f : Floor) (x y : ℕ) → unblocked f (segment_of x y x y) ≡ true
unfolding unblocked no_step_shut
unblocked-self f x y =
    rw (
      none-entered f (segment_of x y x y) (upright-enters x y y),
      eq-eqb x x refl,
      eq-eqb y y refl,
      none_between f.high y (upright_open f x),
      none_between f.wide x (λ i. level_open f i y),
    )

pub unblocked-same : (f h : Floor) → f.wide ≡ h.wide → f.high ≡ h.high
    → ((i j : ℕ) → i < f.wide → j < f.high → f.cell i j ≡ h.cell i j) → (s : Segment)
    → unblocked f s ≡ unblocked h s
unfolding unblocked no_cell_entered no_step_shut upright_open level_open
unblocked-same f h p q e s = simp (p, q, blocked-same f h p q e)

-- ---- the laws of sight, pinches counted

spans-back : (a b p : ℕ) → spans a b p ≡ spans b a p
unfolding spans
spans-back a b p =
    let low : min a b ≡ min b a = omega arith in
    let high : max a b ≡ max b a = omega arith in
    rw (low, high)

passes-back : (s : Segment) (p q : ℕ) → passes (back s) p q ≡ passes s p q
unfolding passes
passes-back s p q =
    ap₂ ◌&&◌ (ap₂ ◌&&◌ (spans-back s.x1 s.x0 p) (spans-back s.y1 s.y0 q))
    (ap₂ (λ a b. not a && not b) (positive_back s p q) (negative_back s p q)
    ∙ and_comm (not (negative s p q)) (not (positive s p q)))

pub sees_back : (f : Floor) (s : Segment) → sees f (back s) ≡ sees f s
unfolding sees no_pinch_passed
sees_back f s =
    simp (unblocked-back f s, passes-back s, eqb-sym s.x1 s.x0, eqb-sym s.y1 s.y0)

pub sees-segment-back : (f : Floor) (w a b : ℕ) → sees f (segment w b a) ≡ sees f (segment w a b)
unfolding segment
sees-segment-back f w a b = sees_back f (segment_of (column w a) (row w a) (column w b) (row w b))

pub sees-self : (f : Floor) (x y : ℕ) → sees f (segment_of x y x y) ≡ true
unfolding sees
sees-self f x y = rw (unblocked-self f x y, eq-eqb x x refl, eq-eqb y y refl)

pub sees-segment-self : (f : Floor) (w a : ℕ) → sees f (segment w a a) ≡ true
unfolding segment
sees-segment-self f w a = sees-self f (column w a) (row w a)

pub sees-same : (f h : Floor) → f.wide ≡ h.wide → f.high ≡ h.high
    → ((i j : ℕ) → i < f.wide → j < f.high → f.cell i j ≡ h.cell i j) → (s : Segment) → sees f s ≡ sees h s
unfolding sees no_pinch_passed pinch
sees-same f h p q e s = simp (unblocked-same f h p q e s, p, q, blocked-same f h p q e)
