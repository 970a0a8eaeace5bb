-- The decimal digits of a number: their recursion, their number, and that they are the right ones.
--
--   value l         == the number with the digits l
--   all_digits l    == each byte of l is a digit, 30 to 39 hex
--   decimal-value   == value (decimal n) = n
--   decimal-digits  == all_digits (decimal n)
--   decimal-leading == the first digit of `decimal n` is not 0 where 1 ≤ n
use Prim.Native.Nat.{ℕ, zero, suc, ◌+◌, ◌-◌, ◌*◌, ◌/◌, ◌%◌, ◌^◌, ◌≤◌, ◌<◌}
use mathlib.Core.Path.{◌≡◌, refl, sym, ap, ◌∙◌}
use mathlib.Core.Logic.{⊎_elim}
use mathlib.Core.Bool.{Bool, true, ◌&&◌}
use mathlib.Core.List.{List, [], ◌∷◌, ◌++◌}
use native.Mathlib.Omega.{arith}
use native.Mathlib.Nat.{pow-suc}
use borrow.Author.Tests.{lt-ltb, le-ltb, le-leb}
use lib.Dec.{leb}
use lib.ListN.{length, get_or, length-append, get_or-append}
use Rattle.basics.proofs.Order.{le-or-lt}
use Rattle.basics.proofs.Bools.{and_intro, and_left, and_right}
use Rattle.records.specs.Lines.{digits, decimal}

-- ---- one digit after the other

digits-small : (f n : ℕ) → n < 10 → digits f n ≡ (48 + n) ∷ []
unfolding digits
digits-small zero n l = refl
digits-small (suc f) n l = rw (lt-ltb n 10 l, digits)

digits-large : (f n : ℕ) → 10 ≤ n → digits (suc f) n ≡ digits f (n / 10) ++ ((48 + n % 10) ∷ [])
unfolding digits
digits-large f n l = rw (le-ltb n 10 l, digits)

-- Every bound on the steps from n on gives the same digits.
digits-enough : (f g n : ℕ) → n ≤ f → n ≤ g → digits f n ≡ digits g n
digits-enough zero g n a b = digits-small zero n (omega arith) ∙ sym (digits-small g n (omega arith))
digits-enough (suc f) zero n a b = digits-small (suc f) n (omega arith) ∙ sym (digits-small zero n (omega arith))
digits-enough (suc f) (suc g) n a b = ⊎_elim
    (λ (l : 10 ≤ n).
    digits-large f n l
    ∙ ap (λ (t : List ℕ). t ++ ((48 + n % 10) ∷ [])) (digits-enough f g (n / 10) (omega arith) (omega arith))
    ∙ sym (digits-large g n l))
    (λ (l : n < 10). digits-small (suc f) n l ∙ sym (digits-small (suc g) n l)) (le-or-lt 10 n)

pub decimal-small : (n : ℕ) → n < 10 → decimal n ≡ (48 + n) ∷ []
unfolding decimal
decimal-small n l = digits-small n n l

pub decimal-large : (n : ℕ) → 10 ≤ n → decimal n ≡ decimal (n / 10) ++ ((48 + n % 10) ∷ [])
unfolding decimal
decimal-large zero l = absurd (omega arith)
decimal-large (suc m) l =
    digits-large m (suc m) l
    ∙ ap (λ (t : List ℕ). t ++ ((48 + suc m % 10) ∷ []))
    (digits-enough m (suc m / 10) (suc m / 10) (omega arith) (omega arith))

-- P n for every n, where P holds of the numbers below 10, and of n where it holds of n / 10.
module _ (P : ℕ → Type 0) (small : (n : ℕ) → n < 10 → P n) (large : (n : ℕ) → 10 ≤ n → P (n / 10) → P n) where
  below : (f n : ℕ) → n ≤ f → P n
  below zero n a = small n (omega arith)
  below (suc f) n a =
      ⊎_elim (λ (l : 10 ≤ n). large n l (below f (n / 10) (omega arith))) (λ (l : n < 10). small n l) (le-or-lt 10 n)

  by-tenths : (n : ℕ) → P n
  by-tenths n = below n n (omega arith)

-- ---- how many

pub decimal-some : (n : ℕ) → 1 ≤ length (decimal n)
decimal-some = by-tenths (λ n. 1 ≤ length (decimal n)) (λ n l. rw (decimal-small n l) (omega arith))
    (λ n l h. rw (decimal-large n l, length-append) (omega arith))

pub decimal-longer : (n : ℕ) → 10 ≤ n → length (decimal n) ≡ length (decimal (n / 10)) + 1
decimal-longer n l = rw (decimal-large n l, length-append)

pub decimal-length : (k n : ℕ) → n < 10 ^ suc k → length (decimal n) ≤ suc k
decimal-length zero n l = rw (decimal-small n (omega arith)) (omega arith)
decimal-length (suc k) n l = ⊎_elim
    (λ (h : 10 ≤ n).
    let e : 10 ^ suc (suc k) ≡ 10 ^ suc k * 10 = pow-suc 10 (suc k) in
    let few = decimal-length k (n / 10) (omega arith) in
    rw (decimal-large n h, length-append) (omega arith))
    (λ (h : n < 10). rw (decimal-small n h) (omega arith)) (le-or-lt 10 n)

-- A 64-bit number has at most 20 digits, a 16-bit number 5.
pub decimal-u64 : (n : ℕ) → n < 2 ^ 64 → length (decimal n) ≤ 20
decimal-u64 n l = decimal-length 19 n (omega arith)

pub decimal-u16 : (n : ℕ) → n < 2 ^ 16 → length (decimal n) ≤ 5
decimal-u16 n l = decimal-length 4 n (omega arith)

-- ---- the right ones

abbrev pub value_from : ℕ → List ℕ → ℕ
value_from a [] = a
value_from a (d ∷ l) = value_from (a * 10 + (d - 48)) l

abbrev pub value : List ℕ → ℕ
value l = value_from 0 l

value-last : (a d : ℕ) (l : List ℕ) → value_from a (l ++ (d ∷ [])) ≡ value_from a l * 10 + (d - 48)
value-last a d [] = refl
value-last a d (x ∷ l) = value-last (a * 10 + (x - 48)) d l

pub decimal-value : (n : ℕ) → value (decimal n) ≡ n
decimal-value = by-tenths (λ n. value (decimal n) ≡ n) (λ n l. rw (decimal-small n l) (omega arith))
    (λ n l h. rw (decimal-large n l, value-last 0 (48 + n % 10) (decimal (n / 10)), h) (omega arith))

abbrev pub all_digits : List ℕ → Bool
all_digits [] = true
all_digits (d ∷ l) = leb 48 d && leb d 57 && all_digits l

one-digit : (d : ℕ) → d < 10 → all_digits ((48 + d) ∷ []) ≡ true
one-digit d l = rw (le-leb 48 (48 + d) (omega arith), le-leb (48 + d) 57 (omega arith))

digits_append : (k l : List ℕ) → all_digits k ≡ true → all_digits l ≡ true → all_digits (k ++ l) ≡ true
digits_append [] l p q = q
digits_append (d ∷ k) l p q =
    and_intro (leb 48 d && leb d 57) (all_digits (k ++ l)) (and_left (leb 48 d && leb d 57) (all_digits k) p)
    (digits_append k l (and_right (leb 48 d && leb d 57) (all_digits k) p) q)

pub decimal-digits : (n : ℕ) → all_digits (decimal n) ≡ true
decimal-digits = by-tenths (λ n. all_digits (decimal n) ≡ true) (λ n l. rw (decimal-small n l) (one-digit n l))
    (λ n l h.
    rw (decimal-large n l)
    (digits_append (decimal (n / 10)) ((48 + n % 10) ∷ []) h (one-digit (n % 10) (omega arith))))

pub decimal-leading : (n : ℕ) → 1 ≤ n → 49 ≤ get_or (decimal n) 0 0
decimal-leading = by-tenths (λ n. 1 ≤ n → 49 ≤ get_or (decimal n) 0 0) (λ n l p. rw (decimal-small n l) (omega arith))
    (λ n l h p.
    let same = get_or-append (decimal (n / 10)) ((48 + n % 10) ∷ []) 0 0 (decimal-some (n / 10)) in
    rw (decimal-large n l, same) (h (omega arith)))
