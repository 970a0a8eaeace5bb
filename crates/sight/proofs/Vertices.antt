-- The vertices that a segment passes, counted from its first end: with dx and dy its spans, the one c columns and r
-- rows from that end is passed exactly when dy * c = dx * r.
--
--   spans-..          == the lines from a to b, both included
--   point-.., away-.. == the line k lines from a towards b is from a to b, and each line p from a to b is `span a p`
--                        lines from a
--   passes_on         == the vertex c columns and r rows from the first end is passed exactly where dy * c ≡ dx * r
--   passed-column, passed-row == a vertex that is passed is between the ends, in columns and in rows
use Prim.Native.Nat.{ℕ, suc, ◌*◌, ◌≤◌, ◌<◌, min, max}
use mathlib.Core.Path.{◌≡◌, sym, ◌∙◌}
use mathlib.Core.Bool.{true, ◌&&◌, not}
use mathlib.Core.Logic.{⊎_elim}
use native.Mathlib.Omega.{arith}
use borrow.Author.Tests.{lt-ltb, le-ltb, leb-true, le-leb, eq-eqb, ne_eqb}
use lib.Dec.{leb, ltb, eqb}
use Rattle.basics.proofs.Order.{le-or-lt, eq-or-ne}
use Rattle.basics.proofs.Bools.{and_intro, and_left, and_right, and_comm}
use Rattle.sight.specs.Sight.{Segment, segment_of, positive, negative, spans, passes}
use Rattle.sight.specs.Obstacle.{span, start_on}
use Rattle.sight.proofs.Travel.{span-up, span-down, start_up, start-down}
use Rattle.sight.proofs.Enters.{Up, Down, Sides, low, high, up_up, up_down, down_up, down-down}

-- ---- lines counted from a

spans-of : (a b p : ℕ) → min a b ≤ p → p ≤ max a b → spans a b p ≡ true
unfolding spans
spans-of a b p h l = and_intro (leb (min a b) p) (leb p (max a b)) (le-leb (min a b) p h) (le-leb p (max a b) l)

spans-low : (a b p : ℕ) → spans a b p ≡ true → min a b ≤ p
unfolding spans
spans-low a b p e = leb-true (min a b) p (and_left (leb (min a b) p) (leb p (max a b)) e)

spans-high : (a b p : ℕ) → spans a b p ≡ true → p ≤ max a b
unfolding spans
spans-high a b p e = leb-true p (max a b) (and_right (leb (min a b) p) (leb p (max a b)) e)

point-spans : (a b k : ℕ) → k ≤ span a b → spans a b (start_on a b k) ≡ true
point-spans a b k l = ⊎_elim
    (λ h. spans-of a b (start_on a b k) (omega (arith, start_up a b k h))
    (omega (arith, start_up a b k h, span-up a b h)))
    (λ h. spans-of a b (start_on a b k) (omega (arith, start-down a b k h, span-down a b (omega arith)))
    (omega (arith, start-down a b k h))) (le-or-lt a b)

pub point-le : (a b k n : ℕ) → a ≤ n → b ≤ n → k ≤ span a b → start_on a b k ≤ n
point-le a b k n p q l = omega (arith, spans-high a b (start_on a b k) (point-spans a b k l))

-- The last point of an axis is its end.
pub point-last : (a b : ℕ) → start_on a b (span a b) ≡ b
point-last a b = ⊎_elim (λ h. omega (arith, start_up a b (span a b) h, span-up a b h))
    (λ h. omega (arith, start-down a b (span a b) h, span-down a b (omega arith))) (le-or-lt a b)

-- Line p is no further from a than b is.
pub away-le : (a b p : ℕ) → spans a b p ≡ true → span a p ≤ span a b
away-le a b p e =
    let low = spans-low a b p e in
    let high = spans-high a b p e in
    ⊎_elim (λ h. omega (arith, span-up a b h, span-up a p (omega arith)))
    (λ h. omega (arith, span-down a b (omega arith), span-down a p (omega arith))) (le-or-lt a b)

pub point-away : (a b p : ℕ) → spans a b p ≡ true → start_on a b (span a p) ≡ p
point-away a b p e =
    let low = spans-low a b p e in
    let high = spans-high a b p e in
    ⊎_elim (λ h. omega (arith, start_up a b (span a p) h, span-up a p (omega arith)))
    (λ h. omega (arith, start-down a b (span a p) h, span-down a p (omega arith))) (le-or-lt a b)

pub away-point : (a b k : ℕ) → k ≤ span a b → span a (start_on a b k) ≡ k
away-point a b k l =
    ⊎_elim
    (λ h.
    let e = start_up a b k h in
    omega (arith, span-up a (start_on a b k) (omega arith)))
    (λ h.
    let e = start-down a b k h in
    let d = span-down a b (omega arith) in
    omega (arith, span-down a (start_on a b k) (omega arith))) (le-or-lt a b)

rise : (a b k : ℕ) → a ≤ b → Up a b (span a b) k (start_on a b k)
rise a b k h = record { far = sym (span-up a b h); at = sym (start_up a b k h) }

fall : (a b k : ℕ) → b < a → k ≤ span a b → Down a b (span a b) k (start_on a b k)
fall a b k h l = record {
  far = span-down a b (omega arith);
  at = omega (arith, start-down a b k h, span-down a b (omega arith));
}

neither : (a b : ℕ) → (not (ltb a b) && not (ltb b a)) ≡ eqb a b
neither a b = ⊎_elim
    (λ e. sym (eq-eqb a b e ∙ sym (rw (le-ltb a b (omega arith), le-ltb b a (omega arith)))))
    (λ n. ⊎_elim (λ l. rw (lt-ltb a b l, ne_eqb a b n))
    (λ g. rw (le-ltb a b (omega arith), lt-ltb b a (omega (arith, n)), ne_eqb a b n)) (le-or-lt (suc a) b))
    (eq-or-ne a b)

module _ (x0 y0 x1 y1 c r : ℕ) (lc : c ≤ span x0 x1) (lr : r ≤ span y0 y1) where
  abbrev s : Segment
  s = segment_of x0 y0 x1 y1

  abbrev dx : ℕ
  dx = span x0 x1

  abbrev dy : ℕ
  dy = span y0 y1

  abbrev P : ℕ
  P = start_on x0 x1 c

  abbrev Q : ℕ
  Q = start_on y0 y1 r

  straight-on : Sides s P Q (low dx dy c r) (high dx dy c r)
      → (not (positive s P Q) && not (negative s P Q)) ≡ eqb (dy * c) (dx * r)
  straight-on t = rw (t.positives, t.negatives) (neither (dy * c) (dx * r))

  crossed-on : Sides s P Q (high dx dy c r) (low dx dy c r)
      → (not (positive s P Q) && not (negative s P Q)) ≡ eqb (dy * c) (dx * r)
  crossed-on t = rw (t.positives, t.negatives)
      (and_comm (not (high dx dy c r)) (not (low dx dy c r)) ∙ neither (dy * c) (dx * r))

  pub passes_on : passes s P Q ≡ eqb (dy * c) (dx * r)
  unfolding passes
  passes_on = rw (point-spans x0 x1 c lc, point-spans y0 y1 r lr) (⊎_elim
      (λ h. ⊎_elim (λ v. straight-on (up_up x0 y0 x1 y1 dx dy c r P Q (rise x0 x1 c h) (rise y0 y1 r v)))
      (λ v. crossed-on (up_down x0 y0 x1 y1 dx dy c r P Q (rise x0 x1 c h) (fall y0 y1 r v lr))) (le-or-lt y0 y1))
      (λ h. ⊎_elim (λ v. crossed-on (down_up x0 y0 x1 y1 dx dy c r P Q (fall x0 x1 c h lc) (rise y0 y1 r v)))
      (λ v. straight-on (down-down x0 y0 x1 y1 dx dy c r P Q (fall x0 x1 c h lc) (fall y0 y1 r v lr)))
      (le-or-lt y0 y1)) (le-or-lt x0 x1))

pub passed-column : (s : Segment) (p q : ℕ) → passes s p q ≡ true → spans s.x0 s.x1 p ≡ true
unfolding passes
passed-column s p q e = and_left (spans s.x0 s.x1 p) (spans s.y0 s.y1 q)
    (and_left (spans s.x0 s.x1 p && spans s.y0 s.y1 q) (not (positive s p q) && not (negative s p q)) e)

pub passed-row : (s : Segment) (p q : ℕ) → passes s p q ≡ true → spans s.y0 s.y1 q ≡ true
unfolding passes
passed-row s p q e = and_right (spans s.x0 s.x1 p) (spans s.y0 s.y1 q)
    (and_left (spans s.x0 s.x1 p && spans s.y0 s.y1 q) (not (positive s p q) && not (negative s p q)) e)
