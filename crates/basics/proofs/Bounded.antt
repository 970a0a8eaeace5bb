-- Laws of `pick`, `every`, `any` and `seek`.
--
--   pick_yes, pick_no == pick b x y is x where b holds, and y where it fails
--   every-all   == every n p where p k for each k < n
--   every-at    == p k where every n p and k < n
--   every-fails == every n p = false where p k fails for some k < n
--   every-cong  == every n p = every n q where p and q agree below n
--   every-rows  == to test every number below h * w is to test the w numbers of each of h rows
--   any-cases   == some k < n has p k where any n p
--   any-one     == any n p where k < n and p k
--   seek-cong   == seek f j p = seek f j q where p and q agree on the f numbers from j on
--   seek-here   == seek (f + 1) j p = j where p j
--   seek-past   == seek (f + 1) j p = seek f (j + 1) p where p j fails
--   seek-ge, seek-le == j <= seek f j p <= j + f
--   seek_found  == p (seek f j p) where seek f j p < j + f
--   seek-least  == seek f j p <= i where j <= i < j + f and p i
use Prim.Native.Nat.{ℕ, zero, suc, ◌+◌, ◌*◌, ◌≤◌, ◌<◌}
use mathlib.Core.Path.{◌≡◌, refl, sym, ap, ap₂, ◌∙◌}
use mathlib.Core.Logic.{◌⊎◌, inl, inr, ⊎_elim}
use mathlib.Core.Bool.{Bool, true, false, ◌&&◌, true≢false, and-true, and_assoc}
use native.Mathlib.Omega.{arith}
use native.Mathlib.Nat.{zero-mul, suc-mul}
use Rattle.basics.specs.Bounded.{pick, every, any, seek}
use Rattle.basics.proofs.Order.{le-or-lt, eq-or-ne}
use Rattle.basics.proofs.Bools.{and_intro, and_left, and_right, or_left, or_right, or_cases}

pub pick_yes : {A : Type 0} (b : Bool) (x y : A) → b ≡ true → pick b x y ≡ x
pick_yes true x y e = refl
pick_yes false x y e = absurd (true≢false (sym e))

pub pick_no : {A : Type 0} (b : Bool) (x y : A) → b ≡ false → pick b x y ≡ y
pick_no true x y e = absurd (true≢false e)
pick_no false x y e = refl

pub every-all : (n : ℕ) (p : ℕ → Bool) → ((k : ℕ) → k < n → p k ≡ true) → every n p ≡ true
unfolding every
every-all zero p h = refl
every-all (suc n) p h = and_intro (every n p) (p n) (every-all n p (λ k l. h k (omega arith))) (h n (omega arith))

pub every-at : (n : ℕ) (p : ℕ → Bool) → every n p ≡ true → (k : ℕ) → k < n → p k ≡ true
unfolding every
every-at zero p e k l = absurd (omega arith)
every-at (suc n) p e k l =
    ⊎_elim (λ lt. every-at n p (and_left (every n p) (p n) e) k lt)
    (λ ge. let q : k ≡ n = omega arith in rw q (and_right (every n p) (p n) e)) (le-or-lt (suc k) n)

pub every-fails : (n k : ℕ) (p : ℕ → Bool) → k < n → p k ≡ false → every n p ≡ false
every-fails n k p l e = cases (every n p) refl
  where
    cases : (t : Bool) → every n p ≡ t → t ≡ false
    cases true h = sym (every-at n p h k l) ∙ e
    cases false h = refl

pub every-cong : (n : ℕ) (p q : ℕ → Bool) → ((k : ℕ) → k < n → p k ≡ q k) → every n p ≡ every n q
unfolding every
every-cong zero p q h = refl
every-cong (suc n) p q h = ap₂ ◌&&◌ (every-cong n p q (λ k l. h k (omega arith))) (h n (omega arith))

-- To test every number below m + n is to test the first m and the next n.
every-sum : (m n : ℕ) (p : ℕ → Bool) → every (m + n) p ≡ (every m p && every n (λ k. p (m + k)))
unfolding every
every-sum m zero p = let e : m + 0 ≡ m = omega arith in ap (λ n. every n p) e ∙ sym (and-true (every m p))
every-sum m (suc n) p =
    let e : m + suc n ≡ suc (m + n) = omega arith in
    ap (λ n. every n p) e ∙ ap (λ b. b && p (m + n)) (every-sum m n p)
    ∙ and_assoc (every m p) (every n (λ k. p (m + k))) (p (m + n))

pub every-rows : (h w : ℕ) (p : ℕ → Bool) → every (h * w) p ≡ every h (λ y. every w (λ x. p (y * w + x)))
unfolding every
every-rows zero w p = ap (λ n. every n p) (zero-mul w)
every-rows (suc h) w p =
    ap (λ n. every n p) (suc-mul h w) ∙ every-sum (h * w) w p
    ∙ ap (λ b. b && every w (λ x. p (h * w + x))) (every-rows h w p)

pub any-cases : (n : ℕ) (p : ℕ → Bool) → any n p ≡ true → (k : ℕ) × (k < n) × (p k ≡ true)
unfolding any
any-cases zero p e = absurd (true≢false (sym e))
any-cases (suc n) p e =
    ⊎_elim (λ a. let r = any-cases n p a in (r.0, omega (arith, r.1), r.2)) (λ b. (n, omega arith, b))
    (or_cases (any n p) (p n) e)

pub any-one : (n k : ℕ) (p : ℕ → Bool) → k < n → p k ≡ true → any n p ≡ true
unfolding any
any-one zero k p l e = absurd (omega arith)
any-one (suc n) k p l e =
    ⊎_elim (λ lt. or_left (any n p) (p n) (any-one n k p lt e))
    (λ ge. let q : n ≡ k = omega arith in or_right (any n p) (p n) (rw q e)) (le-or-lt (suc k) n)

pub seek-cong : (f j : ℕ) (p q : ℕ → Bool) → ((k : ℕ) → j ≤ k → k < j + f → p k ≡ q k) → seek f j p ≡ seek f j q
unfolding seek
seek-cong zero j p q h = refl
seek-cong (suc f) j p q h =
    ap₂ (λ b x. elim b [ true ↦ j | false ↦ x ]) (h j (omega arith) (omega arith))
    (seek-cong f (suc j) p q (λ k a b. h k (omega arith) (omega arith)))

pub seek-here : (f j : ℕ) (p : ℕ → Bool) → p j ≡ true → seek (suc f) j p ≡ j
unfolding seek
seek-here f j p e = ap (λ b. elim b [ true ↦ j | false ↦ seek f (suc j) p ]) e

pub seek-past : (f j : ℕ) (p : ℕ → Bool) → p j ≡ false → seek (suc f) j p ≡ seek f (suc j) p
unfolding seek
seek-past f j p e = ap (λ b. elim b [ true ↦ j | false ↦ seek f (suc j) p ]) e

pub seek-le : (f j : ℕ) (p : ℕ → Bool) → seek f j p ≤ j + f
unfolding seek
seek-le zero j p = omega arith
seek-le (suc f) j p = cases (p j) (seek-le f (suc j) p)
  where
    cases : (b : Bool) → seek f (suc j) p ≤ suc j + f → elim b [ true ↦ j | false ↦ seek f (suc j) p ] ≤ j + suc f
    cases true h = omega arith
    cases false h = omega arith

pub seek-ge : (f j : ℕ) (p : ℕ → Bool) → j ≤ seek f j p
unfolding seek
seek-ge zero j p = omega arith
seek-ge (suc f) j p = cases (p j) (seek-ge f (suc j) p)
  where
    cases : (b : Bool) → suc j ≤ seek f (suc j) p → j ≤ elim b [ true ↦ j | false ↦ seek f (suc j) p ]
    cases true h = omega arith
    cases false h = omega arith

pub seek_found : (f j : ℕ) (p : ℕ → Bool) → seek f j p < j + f → p (seek f j p) ≡ true
unfolding seek
seek_found zero j p h = absurd (omega arith)
seek_found (suc f) j p h = cases (p j) refl (seek_found f (suc j) p) h
  where
    cases : (b : Bool) → p j ≡ b → (seek f (suc j) p < suc j + f → p (seek f (suc j) p) ≡ true)
        → elim b [ true ↦ j | false ↦ seek f (suc j) p ] < j + suc f
        → p (elim b [ true ↦ j | false ↦ seek f (suc j) p ]) ≡ true
    cases true e below h = e
    cases false e below h = below (omega arith)

pub seek-least : (f j i : ℕ) (p : ℕ → Bool) → j ≤ i → i < j + f → p i ≡ true → seek f j p ≤ i
unfolding seek
seek-least zero j i p a b e = absurd (omega arith)
seek-least (suc f) j i p a b e = cases (seek-least f (suc j) i p) (p j) refl (eq-or-ne i j)
  where
    cases : (suc j ≤ i → i < suc j + f → p i ≡ true → seek f (suc j) p ≤ i) → (b : Bool) → p j ≡ b
        → (i ≡ j) ⊎ (i ≡ j → ⊥)
        → elim b [ true ↦ j | false ↦ seek f (suc j) p ] ≤ i
    cases below true q c = a
    cases below false q (inl c) = let z : true ≡ false = cc in absurd (true≢false z)
    cases below false q (inr c) = below (omega arith) (omega arith) e
