-- The cross product multiplied out: the difference of two sums of products of natural numbers.
--
--   less, more   == the cross product is `more` - `less`: the sums of the products that are added, and of those that
--                   are subtracted
--   Minus z a b  == the whole number z is a - b
--   minus-..     == `Minus` of a difference of numbers, of a sum, of a product, and of equal differences
--   cross-minus  == `Minus (cross s p q)` of `more` and `less`; by positive-is and negative-is they decide its sign
use Prim.Native.Nat.{ℕ, zero, suc, ◌+◌, ◌-◌, ◌*◌}
use mathlib.Core.Path.{◌≡◌, refl, sym}
use mathlib.Core.Bool.{Bool, true, false, cond}
use native.Mathlib.Omega.{arith}
use borrow.Author.Tests.{ltb-true, ltb-false, le-ltb, lt-ltb}
use lib.Dec.{ltb}
use lib.IntN.{ℤ, pos, negsuc, neg_ℤ, sub_ℕ, ◌+ℤ◌, ◌-ℤ◌, ◌*ℤ◌}
use lib.Signed.{lt_z}
use Rattle.basics.proofs.Bools.{ltb-shift}
use Rattle.sight.specs.Sight.{Segment, cross, positive, negative}

abbrev pub less : ℕ → ℕ → ℕ → ℕ → ℕ → ℕ → ℕ
less x0 y0 x1 y1 p q = x1 * y0 + x0 * q + y1 * p

abbrev pub more : ℕ → ℕ → ℕ → ℕ → ℕ → ℕ → ℕ
more x0 y0 x1 y1 p q = x1 * q + x0 * y1 + y0 * p

-- ---- whole numbers as differences

abbrev Gap : ℤ → ℕ → ℕ → Type 0
Gap (pos n) a b = a ≡ b + n
Gap (negsuc n) a b = b ≡ a + suc n

pub record Minus (z : ℤ) (a b : ℕ) : Type 0 where
  pub gap : Gap z a b

minus-same : {z : ℤ} {a b c d : ℕ} → Minus z a b → a + d ≡ c + b → Minus z c d
minus-same {z = pos n} h e = record { gap = omega (arith, h.gap) }
minus-same {z = negsuc n} h e = record { gap = omega (arith, h.gap) }

minus-neg : {z : ℤ} {a b : ℕ} → Minus z a b → Minus (neg_ℤ z) b a
minus-neg {z = pos zero} h = record { gap = omega (arith, h.gap) }
minus-neg {z = pos (suc n)} h = record { gap = h.gap }
minus-neg {z = negsuc n} h = record { gap = h.gap }

minus-nat : (a b : ℕ) → Minus (sub_ℕ a b) a b
minus-nat a b = by (ltb a b) refl
  where
    by : (t : Bool) → ltb a b ≡ t → Minus (cond t (negsuc (b - suc a)) (pos (a - b))) a b
    by true e = record { gap = omega (arith, ltb-true a b e) }
    by false e = record { gap = omega (arith, ltb-false a b e) }

minus-add : (y z : ℤ) {a b c d : ℕ} → Minus y a b → Minus z c d → Minus (y +ℤ z) (a + c) (b + d)
minus-add (pos m) (pos n) h k = record { gap = omega (arith, h.gap, k.gap) }
minus-add (pos m) (negsuc n) h k = minus-same (minus-nat m (suc n)) (omega (arith, h.gap, k.gap))
minus-add (negsuc m) (pos n) h k = minus-same (minus-nat n (suc m)) (omega (arith, h.gap, k.gap))
minus-add (negsuc m) (negsuc n) h k = record { gap = omega (arith, h.gap, k.gap) }

minus-sub : (y z : ℤ) {a b c d : ℕ} → Minus y a b → Minus z c d → Minus (y -ℤ z) (a + d) (b + c)
minus-sub y z h k = minus-add y (neg_ℤ z) h (minus-neg k)

products : (a c m n : ℕ) → a * c + (a + m) * (c + n) ≡ a * (c + n) + (a + m) * c + m * n
products a c m n = omega arith

minus-mul : (y z : ℤ) {a b c d : ℕ} → Minus y a b → Minus z c d → Minus (y *ℤ z) (a * c + b * d) (a * d + b * c)
minus-mul (pos m) (pos n) {a} {b} {c} {d} h k = record {
  gap = rw (h.gap, k.gap) (omega (arith, products b d m n));
}
minus-mul (pos m) (negsuc n) {a} {b} {c} {d} h k = minus-neg {z = pos (m * suc n)} (record {
  gap = rw (h.gap, k.gap) (omega (arith, products b c m (suc n)));
})
minus-mul (negsuc m) (pos n) {a} {b} {c} {d} h k = minus-neg {z = pos (suc m * n)} (record {
  gap = rw (h.gap, k.gap) (omega (arith, products a d (suc m) n));
})
minus-mul (negsuc m) (negsuc n) {a} {b} {c} {d} h k = record {
  gap = rw (h.gap, k.gap) (omega (arith, products a c (suc m) (suc n)));
}

-- ---- the cross product

module _ (s : Segment) (p q : ℕ) where
  abbrev taken : ℕ
  taken = less s.x0 s.y0 s.x1 s.y1 p q

  abbrev added : ℕ
  added = more s.x0 s.y0 s.x1 s.y1 p q

  itself : (a : ℕ) → Minus (pos a) a 0
  itself a = record { gap = omega arith }

  difference : (a b : ℕ) → Minus (pos a -ℤ pos b) a b
  difference a b = minus-same (minus-sub (pos a) (pos b) (itself a) (itself b)) (omega arith)

  pub cross-minus : Minus (cross s p q) added taken
  unfolding cross
  cross-minus =
      minus-same
      (minus-sub _ _ (minus-mul _ _ (difference s.x1 s.x0) (difference q s.y0))
      (minus-mul _ _ (difference s.y1 s.y0) (difference p s.x0))) (omega arith)

  above : {z : ℤ} {a b : ℕ} → Minus z a b → lt_z (pos 0) z ≡ ltb b a
  above {z = pos n} {a} {b} h = ltb-shift 0 n b a (omega (arith, h.gap))
  above {z = negsuc n} {a} {b} h = sym (le-ltb b a (omega (arith, h.gap)))

  below : {z : ℤ} {a b : ℕ} → Minus z a b → lt_z z (pos 0) ≡ ltb a b
  below {z = pos n} {a} {b} h = ltb-shift n 0 a b (omega (arith, h.gap))
  below {z = negsuc n} {a} {b} h = sym (lt-ltb a b (omega (arith, h.gap)))

  pub positive-is : positive s p q ≡ ltb taken added
  unfolding positive
  positive-is = above cross-minus

  pub negative-is : negative s p q ≡ ltb added taken
  unfolding negative
  negative-is = below cross-minus
