-- Laws of `sum`.
--
--   sum-cong   == sum n F = sum n G where F and G agree below n
--   sum-le     == sum n F <= sum n G where F m <= G m for each m < n
--   sum_lt     == sum n F < sum n G where F m <= G m for each m < n, and F i < G i for some i < n
--   sum_ones   == a sum of n ones is n
--   sum-add    == a sum of F m + G m is sum n F + sum n G
--   sum-zero   == sum n F = 0 where F m = 0 for each m < n
--   sum-swap   == a double sum may be taken in either order
--   sum-mul    == sum n F * c is the sum of F m * c
--   sum_one    == sum n F = F i where i < n and F m = 0 for each other m < n
--   sum-pos    == 0 < F m for some m < n where 0 < sum n F
--   sum-next   == sum (k + 1) F = sum k F + F k
--   sum-prefix == sum k F <= sum n F where k <= n
use Prim.Native.Nat.{ℕ, zero, suc, ◌+◌, ◌*◌, ◌≤◌, ◌<◌}
use mathlib.Core.Path.{◌≡◌, refl, sym, ap, subst}
use mathlib.Core.Logic.{⊎_elim}
use native.Mathlib.Omega.{arith}
use native.Mathlib.Numerals.{add-one}
use Rattle.basics.specs.Bounded.{sum}
use Rattle.basics.proofs.Order.{le-or-lt}

pub sum-cong : (n : ℕ) (F G : ℕ → ℕ) → ((m : ℕ) → m < n → F m ≡ G m) → sum n F ≡ sum n G
unfolding sum
sum-cong zero F G h = refl
sum-cong (suc n) F G h = omega (arith, sum-cong n F G (λ m l. h m (omega arith)), h n (omega arith))

pub sum-le : (n : ℕ) (F G : ℕ → ℕ) → ((m : ℕ) → m < n → F m ≤ G m) → sum n F ≤ sum n G
unfolding sum
sum-le zero F G h = omega arith
sum-le (suc n) F G h = omega (arith, sum-le n F G (λ m l. h m (omega arith)), h n (omega arith))

pub sum_lt : (n i : ℕ) (F G : ℕ → ℕ) → ((m : ℕ) → m < n → F m ≤ G m) → i < n → F i < G i → sum n F < sum n G
unfolding sum
sum_lt zero i F G h l k = absurd (omega arith)
sum_lt (suc n) i F G h l k =
    ⊎_elim (λ lt. omega (arith, sum_lt n i F G (λ m q. h m (omega arith)) lt k, h n (omega arith)))
    (λ ge. let e : i ≡ n = omega arith in
    omega (arith, sum-le n F G (λ m q. h m (omega arith)), subst (λ x. F x < G x) e k)) (le-or-lt (suc i) n)

pub sum_ones : (n : ℕ) → sum n (λ x. 1) ≡ n
unfolding sum
sum_ones zero = refl
sum_ones (suc n) = omega (arith, sum_ones n)

pub sum-add : (n : ℕ) (F G : ℕ → ℕ) → sum n (λ m. F m + G m) ≡ sum n F + sum n G
unfolding sum
sum-add zero F G = refl
sum-add (suc n) F G = omega (arith, sum-add n F G)

pub sum-zero : (n : ℕ) (F : ℕ → ℕ) → ((m : ℕ) → m < n → F m ≡ 0) → sum n F ≡ 0
unfolding sum
sum-zero zero F h = refl
sum-zero (suc n) F h = omega (arith, sum-zero n F (λ m l. h m (omega arith)), h n (omega arith))

pub sum-swap : (n k : ℕ) (F : ℕ → ℕ → ℕ) → sum n (λ i. sum k (λ j. F i j)) ≡ sum k (λ j. sum n (λ i. F i j))
unfolding sum
sum-swap zero k F = sym (sum-zero k (λ j. 0) (λ m l. refl))
sum-swap (suc n) k F = omega (arith, sum-swap n k F, sum-add k (λ j. sum n (λ i. F i j)) (λ j. F n j))

pub sum-mul : (n c : ℕ) (F : ℕ → ℕ) → sum n F * c ≡ sum n (λ m. F m * c)
unfolding sum
sum-mul zero c F = omega arith
sum-mul (suc n) c F = omega (arith, sum-mul n c F)

pub sum_one : (n i : ℕ) (F : ℕ → ℕ) → i < n → ((m : ℕ) → m < n → (m ≡ i → ⊥) → F m ≡ 0) → sum n F ≡ F i
unfolding sum
sum_one zero i F l h = absurd (omega arith)
sum_one (suc n) i F l h =
    ⊎_elim (λ lt. omega (arith, sum_one n i F lt (λ m k. h m (omega arith)), h n (omega arith) (λ e. omega arith)))
    (λ ge. let e : n ≡ i = omega arith in
    omega (arith, sum-zero n F (λ m k. h m (omega arith) (λ q. omega arith)), ap F e))
    (le-or-lt (suc i) n)

pub sum-pos : (n : ℕ) (F : ℕ → ℕ) → 0 < sum n F → (m : ℕ) × (m < n) × (0 < F m)
unfolding sum
sum-pos zero F h = absurd (omega arith)
sum-pos (suc n) F h =
    ⊎_elim (λ p. (n, omega arith, p)) (λ z. let r = sum-pos n F (omega arith) in (r.0, omega (arith, r.1), r.2))
    (le-or-lt 1 (F n))

pub sum-next : (k : ℕ) (F : ℕ → ℕ) → sum (k + 1) F ≡ sum k F + F k
unfolding sum
sum-next k F = rw add-one

pub sum-prefix : (k n : ℕ) (F : ℕ → ℕ) → k ≤ n → sum k F ≤ sum n F
unfolding sum
sum-prefix k zero F h = let e : k ≡ 0 = omega arith in rw e (omega arith)
sum-prefix k (suc n) F h =
    ⊎_elim (λ (l : k ≤ n). omega (arith, sum-prefix k n F l))
    (λ (l : n < k). let e : k ≡ suc n = omega arith in rw e (omega arith))
    (le-or-lt k n)
