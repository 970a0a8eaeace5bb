-- Tests, sums and searches over the numbers below a bound. Each goes through the numbers in turn, so that a loop that
-- does the same has the definition as its invariant.
--
--   pick b x y   == x where b holds, else y
--   every n p    == p k holds for each k < n
--   any n p      == p k holds for some k < n
--   sum n F      == F 0 + F 1 + .. + F (n - 1)
--   count n p    == how many k < n have p k
--   seek f j p   == the least k with j <= k < j + f and p k; j + f where there is none
use Rattle.std.specs.Prelude.{ℕ, zero, suc, ◌+◌, Bool, true, false, ◌&&◌, ◌||◌}

abbrev pub pick : {A : Type 0} → Bool → A → A → A
pick true x y = x
pick false x y = y

unfoldable pub every : ℕ → (ℕ → Bool) → Bool
every zero p = true
every (suc n) p = every n p && p n

unfoldable pub any : ℕ → (ℕ → Bool) → Bool
any zero p = false
any (suc n) p = any n p || p n

unfoldable pub sum : ℕ → (ℕ → ℕ) → ℕ
sum zero F = 0
sum (suc n) F = sum n F + F n

abbrev pub count : ℕ → (ℕ → Bool) → ℕ
count n p = sum n (λ k. pick (p k) 1 0)

unfoldable pub seek : ℕ → ℕ → (ℕ → Bool) → ℕ
seek zero j p = j
seek (suc f) j p = elim (p j) [ true ↦ j | false ↦ seek f (suc j) p ]

-- On an `unfolding` line `bounded-opened` stands for `every any sum seek`; theorems that are computed use it.
unfoldable pub bounded-opened : ℕ
unfolding every any sum seek
bounded-opened = 0
