-- Bits of a number.
--
--   bit-or       == bit (n | m) k = (bit n k || bit m k)
--   bit-and      == bit (n & m) k = (bit n k && bit m k)
--   without-bit  == n ^ (n & 2^k) is n with bit k cleared
--   bit-zero     == bit 0 k = false
--   pow-bit      == bit (2^j) k = (j = k)
--   bit_high     == bit n (j + k) = bit (n / 2^j) k
--   pick-bit     == bit (2^j where t holds, else 0) k = (t && j = k)
--   bits_at      == bit (bits_of n p) k = (k < n && p k)
--   bits-cong    == bits_of n p = bits_of n q where p and q agree below n
--   byte-of-bits == bits_of 8 (bit x) = x where x < 256
use Prim.Native.Nat.{ℕ, zero, suc, ◌+◌, ◌/◌, ◌%◌, ◌^◌, ◌≤◌, ◌<◌}
use mathlib.Core.Path.{◌≡◌, refl, sym, ap, ap₂, ◌∙◌}
use mathlib.Core.Logic.{⊎_elim}
use mathlib.Core.Bool.{Bool, true, false, ◌&&◌, ◌||◌, not, and-true, and-false, or-false}
use native.Mathlib.Omega.{arith}
use native.Mathlib.Nat.{div-one, div-div-eq-div-mul, pow-suc, zero-div}
use borrow.Author.Tests.{eq-eqb, ne_eqb, eqb-true, lt-ltb, le-ltb}
use lib.Bits.{bit_or, bit_and, bit_xor, or_shr, or_mod, and_shr, and_mod, xor_shr, xor_mod}
use lib.Dec.{eqb, ltb}
use lib.Pow.{pow-add}
use Rattle.basics.specs.Bounded.{pick, every, bounded-opened}
use Rattle.basics.proofs.Order.{le-or-lt, eq-or-ne}
use Rattle.basics.proofs.Bounded.{every-at}
use Rattle.basics.specs.Bits.{bit, bits_of}

-- Binary digit k of n.
abbrev digit : ℕ → ℕ → ℕ
digit n k = n / 2 ^ k % 2

-- Digit k + 1 of n is digit k of n / 2.
half-digit : (n k : ℕ) → digit n (suc k) ≡ digit (n / 2) k
half-digit n k =
    ap (λ (x : ℕ). n / x % 2) (pow-suc 2 k ∙ omega arith) ∙ ap (λ (x : ℕ). x % 2) (sym (div-div-eq-div-mul n 2 (2 ^ k)))

low_digit : (n : ℕ) → digit n 0 ≡ n % 2
low_digit n = ap (λ (x : ℕ). x % 2) (div-one n)

-- What holds of any two of the digits 0 and 1.
two_digits : (P : ℕ → ℕ → Type 0) → P 0 0 → P 0 1 → P 1 0 → P 1 1 → (x y : ℕ) → x < 2 → y < 2 → P x y
two_digits P a b c d zero zero p q = a
two_digits P a b c d zero (suc zero) p q = b
two_digits P a b c d (suc zero) zero p q = c
two_digits P a b c d (suc zero) (suc zero) p q = d
two_digits P a b c d (suc (suc x)) y p q = absurd (omega arith)
two_digits P a b c d zero (suc (suc y)) p q = absurd (omega arith)
two_digits P a b c d (suc zero) (suc (suc y)) p q = absurd (omega arith)

or-small : (x y : ℕ) → x < 2 → y < 2 → eqb (bit_or x y) 1 ≡ (eqb x 1 || eqb y 1)
or-small = two_digits (λ x y. eqb (bit_or x y) 1 ≡ (eqb x 1 || eqb y 1)) refl refl refl refl

pub bit-or : (a b k : ℕ) → bit (bit_or a b) k ≡ (bit a k || bit b k)
bit-or a b k =
    ap (λ x. eqb x 1) (ap (λ (x : ℕ). x % 2) (or_shr a b k) ∙ or_mod (a / 2 ^ k) (b / 2 ^ k) 1)
    ∙ or-small (digit a k) (digit b k) (omega arith) (omega arith)

and-small : (x y : ℕ) → x < 2 → y < 2 → eqb (bit_and x y) 1 ≡ (eqb x 1 && eqb y 1)
and-small = two_digits (λ x y. eqb (bit_and x y) 1 ≡ (eqb x 1 && eqb y 1)) refl refl refl refl

pub bit-and : (a b k : ℕ) → bit (bit_and a b) k ≡ (bit a k && bit b k)
bit-and a b k =
    ap (λ x. eqb x 1) (ap (λ (x : ℕ). x % 2) (and_shr a b k) ∙ and_mod (a / 2 ^ k) (b / 2 ^ k) 1)
    ∙ and-small (digit a k) (digit b k) (omega arith) (omega arith)

-- Exclusive or.
abbrev differ : Bool → Bool → Bool
differ true b = not b
differ false b = b

xor-small : (x y : ℕ) → x < 2 → y < 2 → eqb (bit_xor x y) 1 ≡ differ (eqb x 1) (eqb y 1)
xor-small = two_digits (λ x y. eqb (bit_xor x y) 1 ≡ differ (eqb x 1) (eqb y 1)) refl refl refl refl

bit-xor : (a b k : ℕ) → bit (bit_xor a b) k ≡ differ (bit a k) (bit b k)
bit-xor a b k =
    ap (λ x. eqb x 1) (ap (λ (x : ℕ). x % 2) (xor_shr a b k) ∙ xor_mod (a / 2 ^ k) (b / 2 ^ k) 1)
    ∙ xor-small (digit a k) (digit b k) (omega arith) (omega arith)

half-bit : (n k : ℕ) → bit n (suc k) ≡ bit (n / 2) k
half-bit n k = ap (λ x. eqb x 1) (half-digit n k)

low_bit : (n : ℕ) → n % 2 ≡ 0 → bit n 0 ≡ false
low_bit n e = ap (λ x. eqb x 1) (low_digit n ∙ e)

pub bit-zero : (k : ℕ) → bit 0 k ≡ false
bit-zero k = ap (λ x. eqb (x % 2) 1) (zero-div (2 ^ k))

pub bit_high : (n j k : ℕ) → bit n (j + k) ≡ bit (n / 2 ^ j) k
bit_high n j k =
    ap (λ x. eqb (x % 2) 1) (ap (λ (x : ℕ). n / x) (pow-add 2 j k) ∙ sym (div-div-eq-div-mul n (2 ^ j) (2 ^ k)))

pow-half : (j : ℕ) → 2 ^ suc j / 2 ≡ 2 ^ j
pow-half j = omega (arith, pow-suc 2 j)

pow-set : (j : ℕ) → bit (2 ^ j) j ≡ true
pow-set zero = refl
pow-set (suc j) = half-bit (2 ^ suc j) j ∙ ap (λ x. bit x j) (pow-half j) ∙ pow-set j

pow-unset : (j k : ℕ) → (j ≡ k → ⊥) → bit (2 ^ j) k ≡ false
pow-unset zero zero ne = absurd (ne refl)
pow-unset zero (suc k) ne = half-bit 1 k ∙ bit-zero k
pow-unset (suc j) zero ne = low_bit (2 ^ suc j) (omega (arith, pow-suc 2 j))
pow-unset (suc j) (suc k) ne =
    half-bit (2 ^ suc j) k ∙ ap (λ x. bit x k) (pow-half j) ∙ pow-unset j k (λ e. ne (ap suc e))

pub pow-bit : (j k : ℕ) → bit (2 ^ j) k ≡ eqb j k
pow-bit j k =
    ⊎_elim (λ (e : j ≡ k). rw (← e) (pow-set j ∙ sym (eq-eqb j j refl)))
    (λ ne. pow-unset j k ne ∙ sym (ne_eqb j k ne)) (eq-or-ne j k)

pub without-bit : (n k j : ℕ) → bit (bit_xor n (bit_and n (2 ^ k))) j ≡ (bit n j && not (eqb k j))
without-bit n k j =
    bit-xor n (bit_and n (2 ^ k)) j ∙ ap (differ (bit n j)) (bit-and n (2 ^ k) j ∙ ap (λ b. bit n j && b) (pow-bit k j))
    ∙ rest (bit n j) (eqb k j)
  where
    rest : (a b : Bool) → differ a (a && b) ≡ (a && not b)
    rest true b = refl
    rest false b = refl

pub pick-bit : (t : Bool) (j k : ℕ) → bit (pick t (2 ^ j) 0) k ≡ (t && eqb j k)
pick-bit true j k = pow-bit j k
pick-bit false j k = bit-zero k

module _ (p : ℕ → Bool) where
  pub bits_at : (n k : ℕ) → bit (bits_of n p) k ≡ (ltb k n && p k)
  unfolding bits_of
  bits_at zero k = rw (bit-zero k, le-ltb k 0 (omega arith))
  bits_at (suc n) k =
      bit-or (bits_of n p) (pick (p n) (2 ^ n) 0) k ∙ ap₂ ◌||◌ (bits_at n k) (pick-bit (p n) n k)
      ∙ ⊎_elim
      (λ (l : suc k ≤ n).
      rw (lt-ltb k n l, lt-ltb k (suc n) (omega arith), ne_eqb n k (λ e. omega arith), and-false (p n), or-false (p k)))
      (λ (l : n < suc k). ⊎_elim
      (λ (m : suc n ≤ k).
      rw (le-ltb k n (omega arith), le-ltb k (suc n) (omega arith), ne_eqb n k (λ e. omega arith), and-false (p n)))
      (λ (m : k < suc n).
      let e : k ≡ n = omega arith in
      rw (e, le-ltb n n (omega arith), lt-ltb n (suc n) (omega arith), eq-eqb n n refl, and-true (p n)))
      (le-or-lt (suc n) k))
      (le-or-lt (suc k) n)

pub bits-cong : (n : ℕ) (p q : ℕ → Bool) → ((k : ℕ) → k < n → p k ≡ q k) → bits_of n p ≡ bits_of n q
unfolding bits_of
bits-cong zero p q h = refl
bits-cong (suc n) p q h = rw (bits-cong n p q (λ k l. h k (omega arith)), h n (omega arith))

all-bytes : every 256 (λ x. eqb x (bits_of 8 (bit x))) ≡ true
unfolding bounded-opened bits_of
all-bytes = refl

pub byte-of-bits : (x : ℕ) → x < 256 → x ≡ bits_of 8 (bit x)
byte-of-bits x h = eqb-true x (bits_of 8 (bit x)) (every-at 256 (λ x. eqb x (bits_of 8 (bit x))) all-bytes x h)
