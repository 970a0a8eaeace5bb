-- Which cells a segment enters, counted from its first end: cell (c, r) is entered exactly when dy * c < dx * (r + 1)
-- and dx * r < dy * (c + 1), with dx and dy the spans of the segment. The corner p columns and q rows from the first
-- end is on one side where dy * p < dx * q, and on the other where dx * q < dy * p; of the four corners of a cell, (c,
-- r + 1) and (c + 1, r) are the outermost.
--
--   low, high           == the corner p columns and q rows from the first end is on the one side, dy * p < dx * q, or
--                          on the other, dx * q < dy * p
--   Sides s P Q a b     == a says whether the corner (P, Q) is positive, and b whether it is negative
--   Up a b d k z        == b = a + d and z = a + k; in `Down`, d and k are subtracted
--   crossed s i j       == corners of cell (i, j) are on both sides of s
--   enters_on           == `enters` of cell (c, r), counted from the first end, is `touches dx dy c r`
--   entered-..          == a cell that is entered lies between the ends
use Prim.Native.Nat.{ℕ, suc, ◌+◌, ◌*◌, ◌≤◌, ◌<◌}
use mathlib.Core.Path.{◌≡◌, refl, sym, ap, ap₂, ◌∙◌}
use mathlib.Core.Bool.{Bool, true, false, ◌&&◌, ◌||◌, or_assoc, or_comm}
use mathlib.Core.Logic.{⊎_elim}
use native.Mathlib.Omega.{arith}
use borrow.Author.Tests.{ltb-true, lt-ltb}
use lib.Dec.{ltb}
use Rattle.basics.proofs.Order.{le-or-lt}
use Rattle.basics.proofs.Bools.{and_left, and_right, and_comm, ltb-shift}
use Rattle.sight.specs.Sight.{Segment, segment_of, positive, negative, between, corner, enters}
use Rattle.sight.specs.Obstacle.{span, cell_on}
use Rattle.sight.specs.Travel.{touches}
use Rattle.sight.proofs.Cross.{less, more, positive-is, negative-is}
use Rattle.sight.proofs.Travel.{span-up, span-down, cell_on-up, cell_on-down, cell_on-between}

-- ---- the sides of a corner

-- In each of the four directions, `more` - `less` is dx * q - dy * p or dy * p - dx * q.
sums-up-up : (x y dx dy p q : ℕ)
    → less x y (x + dx) (y + dy) (x + p) (y + q) + dx * q ≡ more x y (x + dx) (y + dy) (x + p) (y + q) + dy * p
sums-up-up x y dx dy p q = omega arith

sums-up-down : (x y1 dx dy p q Q : ℕ) → y1 + dy ≡ Q + q
    → less x (Q + q) (x + dx) y1 (x + p) Q + dy * p ≡ more x (Q + q) (x + dx) y1 (x + p) Q + dx * q
sums-up-down x y1 dx dy p q Q e = omega (arith, ap (λ z. z * p) e)

sums-down-up : (x1 y dx dy p q P : ℕ) → x1 + dx ≡ P + p
    → less (P + p) y x1 (y + dy) P (y + q) + dy * p ≡ more (P + p) y x1 (y + dy) P (y + q) + dx * q
sums-down-up x1 y dx dy p q P e = omega (arith, ap (λ z. z * q) e)

sums-down-down : (x1 y1 dx dy p q P Q : ℕ) → x1 + dx ≡ P + p → y1 + dy ≡ Q + q
    → less (P + p) (Q + q) x1 y1 P Q + dx * q ≡ more (P + p) (Q + q) x1 y1 P Q + dy * p
sums-down-down x1 y1 dx dy p q P Q e f = omega (arith, ap (λ z. z * q) e, ap (λ z. z * p) f)

pub record Up (a b d k z : ℕ) : Type 0 where
  pub far : b ≡ a + d
  pub at : z ≡ a + k

pub record Down (a b d k z : ℕ) : Type 0 where
  pub far : b + d ≡ a
  pub at : a ≡ z + k

abbrev pub low : ℕ → ℕ → ℕ → ℕ → Bool
low dx dy p q = ltb (dy * p) (dx * q)

abbrev pub high : ℕ → ℕ → ℕ → ℕ → Bool
high dx dy p q = ltb (dx * q) (dy * p)

pub record Sides (s : Segment) (P Q : ℕ) (a b : Bool) : Type 0 where
  pub positives : positive s P Q ≡ a
  pub negatives : negative s P Q ≡ b

module _ (x0 y0 x1 y1 dx dy p q P Q : ℕ) where
  abbrev s : Segment
  s = segment_of x0 y0 x1 y1

  same_way : less x0 y0 x1 y1 P Q + dx * q ≡ more x0 y0 x1 y1 P Q + dy * p
      → Sides s P Q (low dx dy p q) (high dx dy p q)
  same_way e = record {
    positives =
        positive-is s P Q
        ∙ ltb-shift (less x0 y0 x1 y1 P Q) (more x0 y0 x1 y1 P Q) (dy * p) (dx * q) e;
    negatives =
        negative-is s P Q
        ∙ ltb-shift (more x0 y0 x1 y1 P Q) (less x0 y0 x1 y1 P Q) (dx * q) (dy * p) (sym e);
  }

  other_way : less x0 y0 x1 y1 P Q + dy * p ≡ more x0 y0 x1 y1 P Q + dx * q
      → Sides s P Q (high dx dy p q) (low dx dy p q)
  other_way e = record {
    positives =
        positive-is s P Q
        ∙ ltb-shift (less x0 y0 x1 y1 P Q) (more x0 y0 x1 y1 P Q) (dx * q) (dy * p) e;
    negatives =
        negative-is s P Q
        ∙ ltb-shift (more x0 y0 x1 y1 P Q) (less x0 y0 x1 y1 P Q) (dy * p) (dx * q) (sym e);
  }

  pub up_up : Up x0 x1 dx p P → Up y0 y1 dy q Q → Sides s P Q (low dx dy p q) (high dx dy p q)
  up_up h v = same_way (rw (h.far, h.at, v.far, v.at) (sums-up-up x0 y0 dx dy p q))

  pub up_down : Up x0 x1 dx p P → Down y0 y1 dy q Q → Sides s P Q (high dx dy p q) (low dx dy p q)
  up_down h v = other_way (rw (h.far, h.at, v.at) (sums-up-down x0 y1 dx dy p q Q (v.far ∙ v.at)))

  pub down_up : Down x0 x1 dx p P → Up y0 y1 dy q Q → Sides s P Q (high dx dy p q) (low dx dy p q)
  down_up h v = other_way (rw (h.at, v.far, v.at) (sums-down-up x1 y0 dx dy p q P (h.far ∙ h.at)))

  pub down-down : Down x0 x1 dx p P → Down y0 y1 dy q Q → Sides s P Q (low dx dy p q) (high dx dy p q)
  down-down h v = same_way (rw (h.at, v.at) (sums-down-down x1 y1 dx dy p q P Q (h.far ∙ h.at) (v.far ∙ v.at)))

-- ---- the four corners of a cell

swap-columns : (a b c d : Bool) → (a || b || c || d) ≡ (b || a || d || c)
swap-columns a b c d = or_assoc (a || b) c d ∙ ap₂ ◌||◌ (or_comm a b) (or_comm c d) ∙ sym (or_assoc (b || a) d c)

swap-rows : (a b c d : Bool) → (a || b || c || d) ≡ (c || d || a || b)
swap-rows a b c d = or_assoc (a || b) c d ∙ or_comm (a || b) (c || d) ∙ sym (or_assoc (c || d) a b)

-- A disjunction of four is the third of them, where each other implies it, and the second, where each other implies
-- that.
third_of : (a b c d : Bool) → (a ≡ true → c ≡ true) → (b ≡ true → c ≡ true) → (d ≡ true → c ≡ true)
    → (a || b || c || d) ≡ c
third_of true b c d f g h = sym (f refl)
third_of false true c d f g h = sym (g refl)
third_of false false true d f g h = refl
third_of false false false true f g h = sym (h refl)
third_of false false false false f g h = refl

second-of : (a b c d : Bool) → (a ≡ true → b ≡ true) → (c ≡ true → b ≡ true) → (d ≡ true → b ≡ true)
    → (a || b || c || d) ≡ b
second-of a b c d f g h = swap-columns a b c d ∙ swap-rows b a d c ∙ third_of d c b a h g f

module _ (dx dy c r : ℕ) where
  -- Whether one of the four corners passes a test, counted from the first end.
  abbrev any_of : (ℕ → ℕ → ℕ → ℕ → Bool) → Bool
  any_of t = t dx dy c r || t dx dy (suc c) r || t dx dy c (suc r) || t dx dy (suc c) (suc r)

  any-low : any_of low ≡ low dx dy c (suc r)
  any-low =
      third_of (low dx dy c r) (low dx dy (suc c) r) (low dx dy c (suc r)) (low dx dy (suc c) (suc r))
      (λ e. lt-ltb (dy * c) (dx * suc r) (omega (arith, ltb-true (dy * c) (dx * r) e)))
      (λ e. lt-ltb (dy * c) (dx * suc r) (omega (arith, ltb-true (dy * suc c) (dx * r) e)))
      (λ e. lt-ltb (dy * c) (dx * suc r) (omega (arith, ltb-true (dy * suc c) (dx * suc r) e)))

  any-high : any_of high ≡ high dx dy (suc c) r
  any-high =
      second-of (high dx dy c r) (high dx dy (suc c) r) (high dx dy c (suc r)) (high dx dy (suc c) (suc r))
      (λ e. lt-ltb (dx * r) (dy * suc c) (omega (arith, ltb-true (dx * r) (dy * c) e)))
      (λ e. lt-ltb (dx * r) (dy * suc c) (omega (arith, ltb-true (dx * suc r) (dy * c) e)))
      (λ e. lt-ltb (dx * r) (dy * suc c) (omega (arith, ltb-true (dx * suc r) (dy * suc c) e)))

  both-sides : (any_of low && any_of high) ≡ touches dx dy c r
  unfolding touches
  both-sides = ap₂ ◌&&◌ any-low any-high

  both-sides-back : (any_of high && any_of low) ≡ touches dx dy c r
  both-sides-back = and_comm (any_of high) (any_of low) ∙ both-sides

abbrev crossed : Segment → ℕ → ℕ → Bool
crossed s i j = corner (positive s) i j && corner (negative s) i j

module _ {s : Segment} {i j : ℕ} {a b c d k l m n : Bool} where
  gathered : Sides s i j a k → Sides s (suc i) j b l → Sides s i (suc j) c m → Sides s (suc i) (suc j) d n
      → crossed s i j ≡ ((a || b || c || d) && (k || l || m || n))
  unfolding corner
  gathered p q t u =
      ap₂ ◌&&◌ (ap₂ ◌||◌ (ap₂ ◌||◌ (ap₂ ◌||◌ p.positives q.positives) t.positives) u.positives)
      (ap₂ ◌||◌ (ap₂ ◌||◌ (ap₂ ◌||◌ p.negatives q.negatives) t.negatives) u.negatives)

module _ (x0 y0 x1 y1 dx dy c r i j : ℕ) where
  abbrev t : Segment
  t = segment_of x0 y0 x1 y1

  abbrev lo : ℕ → ℕ → Bool
  lo p q = low dx dy p q

  abbrev hi : ℕ → ℕ → Bool
  hi p q = high dx dy p q

  crossed-up-up : Up x0 x1 dx c i → Up y0 y1 dy r j → crossed t i j ≡ touches dx dy c r
  crossed-up-up h v =
      let h' : Up x0 x1 dx (suc c) (suc i) = record { far = h.far; at = omega (arith, h.at) } in
      let v' : Up y0 y1 dy (suc r) (suc j) = record { far = v.far; at = omega (arith, v.at) } in
      gathered (up_up x0 y0 x1 y1 dx dy c r i j h v) (up_up x0 y0 x1 y1 dx dy (suc c) r (suc i) j h' v)
      (up_up x0 y0 x1 y1 dx dy c (suc r) i (suc j) h v') (up_up x0 y0 x1 y1 dx dy (suc c) (suc r) (suc i) (suc j) h' v')
      ∙ both-sides dx dy c r

  crossed-up-down : Up x0 x1 dx c i → Down y0 y1 dy (suc r) j → crossed t i j ≡ touches dx dy c r
  crossed-up-down h v =
      let h' : Up x0 x1 dx (suc c) (suc i) = record { far = h.far; at = omega (arith, h.at) } in
      let v' : Down y0 y1 dy r (suc j) = record { far = v.far; at = omega (arith, v.at) } in
      gathered (up_down x0 y0 x1 y1 dx dy c (suc r) i j h v) (up_down x0 y0 x1 y1 dx dy (suc c) (suc r) (suc i) j h' v)
      (up_down x0 y0 x1 y1 dx dy c r i (suc j) h v') (up_down x0 y0 x1 y1 dx dy (suc c) r (suc i) (suc j) h' v')
      ∙ ap₂ ◌&&◌ (swap-rows (hi c (suc r)) (hi (suc c) (suc r)) (hi c r) (hi (suc c) r))
      (swap-rows (lo c (suc r)) (lo (suc c) (suc r)) (lo c r) (lo (suc c) r))
      ∙ both-sides-back dx dy c r

  crossed-down-up : Down x0 x1 dx (suc c) i → Up y0 y1 dy r j → crossed t i j ≡ touches dx dy c r
  crossed-down-up h v =
      let h' : Down x0 x1 dx c (suc i) = record { far = h.far; at = omega (arith, h.at) } in
      let v' : Up y0 y1 dy (suc r) (suc j) = record { far = v.far; at = omega (arith, v.at) } in
      gathered (down_up x0 y0 x1 y1 dx dy (suc c) r i j h v) (down_up x0 y0 x1 y1 dx dy c r (suc i) j h' v)
      (down_up x0 y0 x1 y1 dx dy (suc c) (suc r) i (suc j) h v')
      (down_up x0 y0 x1 y1 dx dy c (suc r) (suc i) (suc j) h' v')
      ∙ ap₂ ◌&&◌ (swap-columns (hi (suc c) r) (hi c r) (hi (suc c) (suc r)) (hi c (suc r)))
      (swap-columns (lo (suc c) r) (lo c r) (lo (suc c) (suc r)) (lo c (suc r)))
      ∙ both-sides-back dx dy c r

  swap-both : (t : ℕ → ℕ → Bool)
      → (t (suc c) (suc r) || t c (suc r) || t (suc c) r || t c r)
      ≡ (t c r || t (suc c) r || t c (suc r) || t (suc c) (suc r))
  swap-both t =
      swap-rows (t (suc c) (suc r)) (t c (suc r)) (t (suc c) r) (t c r)
      ∙ swap-columns (t (suc c) r) (t c r) (t (suc c) (suc r)) (t c (suc r))

  crossed-down-down : Down x0 x1 dx (suc c) i → Down y0 y1 dy (suc r) j → crossed t i j ≡ touches dx dy c r
  crossed-down-down h v =
      let h' : Down x0 x1 dx c (suc i) = record { far = h.far; at = omega (arith, h.at) } in
      let v' : Down y0 y1 dy r (suc j) = record { far = v.far; at = omega (arith, v.at) } in
      gathered (down-down x0 y0 x1 y1 dx dy (suc c) (suc r) i j h v)
      (down-down x0 y0 x1 y1 dx dy c (suc r) (suc i) j h' v)
      (down-down x0 y0 x1 y1 dx dy (suc c) r i (suc j) h v') (down-down x0 y0 x1 y1 dx dy c r (suc i) (suc j) h' v')
      ∙ ap₂ ◌&&◌ (swap-both lo) (swap-both hi)
      ∙ both-sides dx dy c r

-- ---- the cells entered, from the first end

goes-up : (a b k : ℕ) → a ≤ b → Up a b (span a b) k (cell_on a b k)
goes-up a b k h = record { far = sym (span-up a b h); at = cell_on-up a b k h }

goes_down : (a b k : ℕ) → b < a → k < span a b → Down a b (span a b) (suc k) (cell_on a b k)
goes_down a b k h l =
    let d = span-down a b (omega arith) in
    record { far = d; at = omega (arith, cell_on-down a b k h) }

module _ (x0 y0 x1 y1 c r : ℕ) (lc : c < span x0 x1) (lr : r < span y0 y1) where
  abbrev dx : ℕ
  dx = span x0 x1

  abbrev dy : ℕ
  dy = span y0 y1

  abbrev i : ℕ
  i = cell_on x0 x1 c

  abbrev j : ℕ
  j = cell_on y0 y1 r

  crossed-on : crossed (segment_of x0 y0 x1 y1) i j ≡ touches dx dy c r
  crossed-on =
      ⊎_elim
      (λ h. ⊎_elim (λ v. crossed-up-up x0 y0 x1 y1 dx dy c r i j (goes-up x0 x1 c h) (goes-up y0 y1 r v))
      (λ v. crossed-up-down x0 y0 x1 y1 dx dy c r i j (goes-up x0 x1 c h) (goes_down y0 y1 r v lr)) (le-or-lt y0 y1))
      (λ h. ⊎_elim (λ v. crossed-down-up x0 y0 x1 y1 dx dy c r i j (goes_down x0 x1 c h lc) (goes-up y0 y1 r v))
      (λ v. crossed-down-down x0 y0 x1 y1 dx dy c r i j (goes_down x0 x1 c h lc) (goes_down y0 y1 r v lr))
      (le-or-lt y0 y1)) (le-or-lt x0 x1)

  pub enters_on : enters (segment_of x0 y0 x1 y1) i j ≡ touches dx dy c r
  unfolding enters
  enters_on = rw (cell_on-between x0 x1 c lc, cell_on-between y0 y1 r lr) crossed-on

-- A cell that is entered lies between the ends, in columns and in rows.
module _ (s : Segment) (i j : ℕ) (e : enters s i j ≡ true) where
  entered-box : (between s.x0 s.x1 i && between s.y0 s.y1 j) ≡ true
  unfolding enters
  entered-box = and_left (between s.x0 s.x1 i && between s.y0 s.y1 j) (crossed s i j) e

  pub entered-column : between s.x0 s.x1 i ≡ true
  entered-column = and_left (between s.x0 s.x1 i) (between s.y0 s.y1 j) entered-box

  pub entered-row : between s.y0 s.y1 j ≡ true
  entered-row = and_right (between s.x0 s.x1 i) (between s.y0 s.y1 j) entered-box
