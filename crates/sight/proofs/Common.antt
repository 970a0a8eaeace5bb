-- The greatest common divisor of two numbers.
--
--   divides-..     == what divides two numbers divides their sums, differences and multiples
--   Euclid a b n m == the invariant of Euclid's algorithm for a and b: what divides n and m divides a and b, and what
--                     divides r * a and r * b divides r * n and r * m
--   euclid-..      == `Euclid` after one turn of the loop, and at its end
--   common-one, one-common == 1 is the greatest common divisor of any number and 1
--   common-some, common-le == the greatest common divisor is not 0 where one of the numbers is not, and is at most
--                     their sum
use Prim.Native.Nat.{ℕ, ◌+◌, ◌-◌, ◌*◌, ◌/◌, ◌%◌, ◌≤◌, ◌<◌}
use mathlib.Core.Path.{◌≡◌, refl, sym, ap, ◌∙◌}
use mathlib.Core.Logic.{⊎_elim}
use native.Mathlib.Omega.{arith}
use native.Mathlib.Nat.{div-add-mod', mul-le-mul, mul-sub}
use Rattle.basics.proofs.Order.{le-or-lt, eq-or-ne}
use Rattle.sight.specs.Travel.{Divides, Common}

divides-self : (m : ℕ) → Divides m m
divides-self m = record { times = 1; is = omega arith }

divides-zero : (m : ℕ) → Divides m 0
divides-zero m = record { times = 0; is = omega arith }

pub divides-multiple : (m k : ℕ) → Divides m (m * k)
divides-multiple m k = record { times = k; is = refl }

-- m divides q * b + a where it divides a, and a where it divides q * b + a.
module _ {m b : ℕ} (q : ℕ) (d : Divides m b) where
  multiple : q * b ≡ m * (q * d.times)
  multiple = ap (λ x. q * x) d.is ∙ omega arith

  divides-sum : {a : ℕ} → Divides m a → Divides m (q * b + a)
  divides-sum e = record { times = q * d.times + e.times; is = omega (arith, multiple, e.is) }

  divides-rest : (a : ℕ) → Divides m (q * b + a) → Divides m a
  divides-rest a e = record {
    times = e.times - q * d.times;
    is = omega (arith, multiple, e.is, mul-sub m e.times (q * d.times));
  }

-- ---- Euclid's algorithm

pub record Euclid (a b n m : ℕ) : Type 0 where
  pub both : (k : ℕ) → Divides k n → Divides k m → Divides k a × Divides k b
  pub each : (k r : ℕ) → Divides k (a * r) → Divides k (b * r) → Divides k (n * r) × Divides k (m * r)

-- n is the sum of n / m times m and n % m.
module _ (n m : ℕ) where
  split : (r : ℕ) → n * r ≡ n / m * (m * r) + n % m * r
  split r = ap (λ x. x * r) (sym (div-add-mod' n m)) ∙ omega arith

pub euclid-turn : {a b n m : ℕ} → Euclid a b n m → Euclid a b m (n % m)
euclid-turn {a} {b} {n} {m} E = record {
  both = λ k d e. E.both k (rw (div-add-mod' n m) at (divides-sum (n / m) d e)) d;
  each = λ k r d e.
      let s = E.each k r d e in
      (s.1, divides-rest (n / m) s.1 (n % m * r) (rw (split n m r) at s.0));
}

pub euclid-end : {a b n m : ℕ} → Euclid a b n m → m ≡ 0 → Common a b n
euclid-end {a} {b} {n} {m} E z =
    let s = E.both n (divides-self n) (rw z (divides-zero n)) in
    record { first = s.0; second = s.1; greatest = λ k r d e. (E.each k r d e).0 }

-- ---- 1 and 0

pub common-one : (a : ℕ) → Common a 1 1
common-one a = record {
  first = record { times = a; is = omega arith };
  second = divides-self 1;
  greatest = λ m r d e. e;
}

pub one-common : (b : ℕ) → Common 1 b 1
one-common b = record {
  first = divides-self 1;
  second = record { times = b; is = omega arith };
  greatest = λ m r d e. d;
}

pub common-some : {a b n : ℕ} → Common a b n → 1 ≤ a + b → 1 ≤ n
common-some {a} {b} {n} C l =
    ⊎_elim
    (λ (z : n ≡ 0).
    let p : a ≡ 0 * C.first.times = C.first.is ∙ ap (λ k. k * C.first.times) z in
    let q : b ≡ 0 * C.second.times = C.second.is ∙ ap (λ k. k * C.second.times) z in
    absurd (omega arith))
    (λ (z : n ≡ 0 → ⊥). omega (arith, z)) (eq-or-ne n 0)

divisor-le : {n a : ℕ} → Divides n a → 1 ≤ a → n ≤ a
divisor-le {n} {a} d l =
    ⊎_elim
    (λ (z : d.times ≡ 0).
    let e : a ≡ n * 0 = d.is ∙ ap (λ k. n * k) z in
    absurd (omega arith))
    (λ (z : d.times ≡ 0 → ⊥).
    omega (arith, d.is, mul-le-mul {n₁ = n} {m₁ = 1} {n₂ = n} {m₂ = d.times} (omega arith) (omega (arith, z))))
    (eq-or-ne d.times 0)

pub common-le : {a b n : ℕ} → Common a b n → 1 ≤ a + b → n ≤ a + b
common-le {a} {b} {n} C l =
    ⊎_elim (λ (h : 1 ≤ a). omega (arith, divisor-le C.first h))
    (λ (h : a < 1). omega (arith, divisor-le C.second (omega arith))) (le-or-lt 1 a)

-- ---- parts

-- k of n equal parts of d are no more than d.
