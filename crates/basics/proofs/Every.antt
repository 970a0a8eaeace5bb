-- What `all` answers over the places of a list, and over a range, as `every`.
--
--   every-first == every (suc n) p is p 0 and then p at the others
--   all-every   == `list_all` of a list is `every` over its places
--   all-front   == the same of the first n places
--   all-range   == the same of n numbers from a on
--   all-below   == the same of the numbers below n
--   all-pairs   == the same of a test of k and k + 1, for each k < n
use Prim.Native.Nat.{ℕ, zero, suc, ◌+◌, ◌≤◌}
use mathlib.Core.Path.{◌≡◌, refl, sym, ap, ◌∙◌}
use mathlib.Core.Bool.{Bool, ◌&&◌, and_assoc, and-true}
use mathlib.Core.List.{List, [], ◌∷◌}
use native.Mathlib.Omega.{arith}
use native.Mathlib.Nat.{zero-add}
use native.Mathlib.Numerals.{add-one}
use lib.ListN.{length, get_or, take}
use lib.Seq.{length-take-le, get_or-take}
use Rattle.std.specs.List.{list_all, range_with_len}
use Rattle.basics.specs.Bounded.{every}
use Rattle.basics.proofs.Bounded.{every-cong}

pub every-first : (n : ℕ) (p : ℕ → Bool) → every (suc n) p ≡ (p 0 && every n (λ k. p (suc k)))
unfolding every
every-first zero p = sym (and-true (p 0))
every-first (suc n) p =
    ap (λ b. b && p (suc n)) (every-first n p) ∙ and_assoc (p 0) (every n (λ k. p (suc k))) (p (suc n))

pub all-every : (t : ℕ → Bool) (l : List ℕ) → list_all t l ≡ every (length l) (λ k. t (get_or l k 0))
unfolding every
all-every t [] = refl
all-every t (x ∷ l) = ap (λ b. t x && b) (all-every t l) ∙ sym (every-first (length l) (λ k. t (get_or (x ∷ l) k 0)))

pub all-front : (t : ℕ → Bool) (n : ℕ) (l : List ℕ) → n ≤ length l
    → list_all t (take n l) ≡ every n (λ k. t (get_or l k 0))
all-front t n l a =
    let e = length-take-le n l a in
    all-every t (take n l) ∙ rw e (every-cong n _ _ (λ k b. ap t (get_or-take n l k 0 b)))

pub all-range : (t : ℕ → Bool) (a n : ℕ) → list_all t (range_with_len a n) ≡ every n (λ k. t (a + k))
unfolding every
all-range t a zero = refl
all-range t a (suc n) =
    let here : a + 0 ≡ a = omega arith in
    ap (λ b. t a && b)
    (all-range t (a + 1) n
    ∙ every-cong n _ _ (λ k b. let e : a + 1 + k ≡ a + suc k = omega arith in ap t e))
    ∙ sym (every-first n (λ k. t (a + k)) ∙ ap (λ m. t m && every n (λ k. t (a + suc k))) here)

pub all-pairs : (t : ℕ → ℕ → Bool) (n : ℕ) → list_all (λ k. t k (k + 1)) (range_with_len 0 n) ≡ every n (λ k. t k (suc k))
all-pairs t n =
    all-range (λ k. t k (k + 1)) 0 n
    ∙ every-cong n _ _ (λ k b. ap (λ m. t m (m + 1)) (zero-add k) ∙ ap (t k) (add-one k))

pub all-below : (t : ℕ → Bool) (n : ℕ) → list_all t (range_with_len 0 n) ≡ every n t
all-below t n = all-range t 0 n ∙ every-cong n _ _ (λ k b. ap t (zero-add k))
