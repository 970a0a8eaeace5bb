-- Cells counted along an axis from a towards b, whichever is higher.
--
--   span-..        == `span a b` is the difference of a and b
--   cell_on-..     == the k-th cell from a towards b
--   index_on a b i == the k for which cell i is the k-th from a towards b
--   between-..     == the cells between a and b
--   every-on       == a test of every cell between a and b, made in order from a towards b
--   start-..       == the line where a step begins, as the code computes it
use Prim.Native.Nat.{ℕ, suc, ◌+◌, ◌-◌, ◌≤◌, ◌<◌, min, max}
use mathlib.Core.Path.{◌≡◌, refl, sym}
use mathlib.Core.Bool.{Bool, true, false, ◌||◌, not}
use mathlib.Core.Logic.{◌≢◌, ⊎_elim}
use native.Mathlib.Omega.{arith}
use borrow.Author.Tests.{ltb-true, lt-ltb, le-ltb, leb-true, le-leb, lt-leb}
use lib.Dec.{leb, ltb}
use Rattle.basics.specs.Bounded.{every}
use Rattle.basics.proofs.Order.{le-or-lt}
use Rattle.basics.proofs.Bools.{iff-eq, and_intro, and_left, and_right}
use Rattle.basics.proofs.Bounded.{every-all, every-at}
use Rattle.sight.specs.Sight.{between}
use Rattle.sight.specs.Obstacle.{span, cell_on, start_on}

pub span-up : (a b : ℕ) → a ≤ b → a + span a b ≡ b
unfolding span
span-up a b h = omega arith

pub span-down : (a b : ℕ) → b ≤ a → b + span a b ≡ a
unfolding span
span-down a b h = omega arith

pub span-le : (a b n : ℕ) → a ≤ n → b ≤ n → span a b ≤ n
unfolding span
span-le a b n p q = omega arith

pub span-apart : (a b : ℕ) → a ≢ b → 1 ≤ span a b
unfolding span
span-apart a b n = omega (arith, n)

pub cell_on-up : (a b k : ℕ) → a ≤ b → cell_on a b k ≡ a + k
unfolding cell_on
cell_on-up a b k h = rw (le-leb a b h, cell_on)

pub cell_on-down : (a b k : ℕ) → b < a → cell_on a b k ≡ a - suc k
unfolding cell_on
cell_on-down a b k h = rw (lt-leb a b h, cell_on)

unfoldable pub index_on : ℕ → ℕ → ℕ → ℕ
index_on a b i = elim (leb a b) [ true ↦ i - a | false ↦ a - suc i ]

index_on-up : (a b i : ℕ) → a ≤ b → index_on a b i ≡ i - a
unfolding index_on
index_on-up a b i h = rw (le-leb a b h, index_on)

index_on-down : (a b i : ℕ) → b < a → index_on a b i ≡ a - suc i
unfolding index_on
index_on-down a b i h = rw (lt-leb a b h, index_on)

pub between-intro : (a b k : ℕ) → min a b ≤ k → k < max a b → between a b k ≡ true
unfolding between
between-intro a b k h l =
    and_intro (leb (min a b) k) (ltb k (max a b)) (le-leb (min a b) k h) (lt-ltb k (max a b) l)

pub between-low : (a b k : ℕ) → between a b k ≡ true → min a b ≤ k
unfolding between
between-low a b k e = leb-true (min a b) k (and_left (leb (min a b) k) (ltb k (max a b)) e)

pub between-high : (a b k : ℕ) → between a b k ≡ true → k < max a b
unfolding between
between-high a b k e = ltb-true k (max a b) (and_right (leb (min a b) k) (ltb k (max a b)) e)

-- No cell lies between a and a.
pub between_none : (a k : ℕ) → between a a k ≡ false
unfolding between
between_none a k =
    let low : min a a ≡ a = omega arith in
    let high : max a a ≡ a = omega arith in
    ⊎_elim (λ h. rw (high, low, le-leb a k h) (le-ltb k a h)) (λ h. rw (low, lt-leb a k h)) (le-or-lt a k)

pub between-back : (a b k : ℕ) → between a b k ≡ between b a k
unfolding between
between-back a b k =
    let low : min a b ≡ min b a = omega arith in
    let high : max a b ≡ max b a = omega arith in
    rw (low, high)

-- The k-th cell is between the ends, and below any bound of both.
pub cell_on-between : (a b k : ℕ) → k < span a b → between a b (cell_on a b k) ≡ true
cell_on-between a b k l =
    ⊎_elim
    (λ h.
    let c = cell_on-up a b k h in
    let d = span-up a b h in
    between-intro a b (cell_on a b k) (omega arith) (omega arith))
    (λ h.
    let c = cell_on-down a b k h in
    let d = span-down a b (omega arith) in
    between-intro a b (cell_on a b k) (omega arith) (omega arith)) (le-or-lt a b)

pub cell_on-lt : (a b k n : ℕ) → a ≤ n → b ≤ n → k < span a b → cell_on a b k < n
cell_on-lt a b k n i j l = omega (arith, between-high a b (cell_on a b k) (cell_on-between a b k l))

pub index_on-lt : (a b i : ℕ) → between a b i ≡ true → index_on a b i < span a b
index_on-lt a b i e =
    let low = between-low a b i e in
    let high = between-high a b i e in
    ⊎_elim (λ h. omega (arith, index_on-up a b i h, span-up a b h))
    (λ h. omega (arith, index_on-down a b i h, span-down a b (omega arith))) (le-or-lt a b)

pub cell_on-index_on : (a b i : ℕ) → between a b i ≡ true → cell_on a b (index_on a b i) ≡ i
cell_on-index_on a b i e =
    let low = between-low a b i e in
    let high = between-high a b i e in
    ⊎_elim (λ h. omega (arith, index_on-up a b i h, cell_on-up a b (index_on a b i) h))
    (λ h. omega (arith, index_on-down a b i h, cell_on-down a b (index_on a b i) h)) (le-or-lt a b)

module _ (n a b : ℕ) (p : ℕ → Bool) (la : a ≤ n) (lb : b ≤ n) where
  abbrev tested : ℕ → Bool
  tested k = not (between a b k) || p k

  abbrev travelled : ℕ → Bool
  travelled k = p (cell_on a b k)

  tested-of : ((m : ℕ) → m < span a b → travelled m ≡ true) → (k : ℕ) (t : Bool) → between a b k ≡ t
      → (not t || p k) ≡ true
  tested-of e k true m = rw (cell_on-index_on a b k m) at (e (index_on a b k) (index_on-lt a b k m))
  tested-of e k false m = refl

  pub every-on : every n tested ≡ every (span a b) travelled
  every-on =
      iff-eq (every n tested) (every (span a b) travelled)
      (λ e. every-all (span a b) travelled (λ k l.
      rw (cell_on-between a b k l) at (every-at n tested e (cell_on a b k) (cell_on-lt a b k n la lb l))))
      (λ e. every-all n tested (λ k l. tested-of (every-at (span a b) travelled e) k (between a b k) refl))

-- The line where a step begins, as the code computes it.
pub start_up : (a b k : ℕ) → a ≤ b → a + k ≡ start_on a b k
unfolding start_on
start_up a b k h = sym (rw (le-leb a b h, start_on))

pub start-down : (a b k : ℕ) → b < a → a - k ≡ start_on a b k
unfolding start_on
start-down a b k h = sym (rw (lt-leb a b h, start_on))

pub start_first : (a b : ℕ) → start_on a b 0 ≡ a
start_first a b =
    ⊎_elim (λ h. omega (arith, start_up a b 0 h)) (λ h. omega (arith, start-down a b 0 h)) (le-or-lt a b)
