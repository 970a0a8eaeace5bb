-- The bits of a list of bytes, and of a packed map.
--
--   Bytes l       == every number of the list l is below 256
--   past-bit      == bit_at l c = false where c >= 8 * length l
--   bytes-bit     == bit_at (bit_bytes m p) c = (c < 8 * m && p c)
--   bytes-cong    == bit_bytes m p = bit_bytes m q where p and q agree below 8 * m
--   bytes_same    == l = bit_bytes m p where l is m bytes whose bits are p
--   packed-bit    == bit_at (packed n p) c = (c < n && p c)
--   packed-clear  == unused_clear n (packed n p)
--   packed-cong   == packed n p = packed n q where p and q agree below n
--   unused-open   == bit_at l c = false where unused_clear n l and n <= c
--   packed-same   == l = packed n p where l is map_length n bytes, unused_clear n l, and bit c of l is p c for c < n
use Prim.Native.Nat.{ℕ, suc, ◌+◌, ◌*◌, ◌/◌, ◌%◌, ◌≤◌, ◌<◌}
use mathlib.Core.Path.{◌≡◌, refl, sym, ap, ◌∙◌}
use mathlib.Core.Logic.{⊎_elim}
use mathlib.Core.Bool.{Bool, true, false, ◌&&◌, ◌||◌, not, and-false}
use mathlib.Core.List.{List}
use native.Mathlib.Omega.{arith}
use native.Mathlib.Nat.{div-add-mod'}
use borrow.Author.Tests.{lt-ltb, le-ltb, not-true}
use lib.Dec.{ltb}
use lib.ListN.{length, get_or, get_or-eq_default}
use Rattle.basics.specs.Bits.{bit, bits_of}
use Rattle.basics.proofs.Order.{le-or-lt}
use Rattle.basics.proofs.Bounded.{every-all, every-at}
use Rattle.basics.proofs.Lists.{length-tabulate, get_d_tabulate, tabulate-of, tabulate-cong}
use Rattle.basics.proofs.Bits.{bit-zero, bits_at, bits-cong, byte-of-bits}
use Rattle.floor.specs.Floor.{bit_at, bit_bytes, map_length, packed}
use Rattle.floor.specs.Refusals.{unused_clear}

abbrev pub Bytes : List ℕ → Type 0
Bytes l = (k : ℕ) → get_or l k 0 < 256

pub past-bit : (l : List ℕ) (c : ℕ) → 8 * length l ≤ c → bit_at l c ≡ false
past-bit l c h = ap (λ x. bit x (c % 8)) (get_or-eq_default l 0 {n = c / 8} (omega arith)) ∙ bit-zero (c % 8)

module _ (m : ℕ) (p : ℕ → Bool) where
  abbrev byte : ℕ → ℕ
  byte k = bits_of 8 (λ b. p (8 * k + b))

  pub bytes-length : length (bit_bytes m p) ≡ m
  unfolding bit_bytes
  bytes-length = length-tabulate m byte

  bytes-at : (k : ℕ) → k < m → get_or (bit_bytes m p) k 0 ≡ byte k
  unfolding bit_bytes
  bytes-at k i = get_d_tabulate m k byte i

  pub bytes-bit : (c : ℕ) → bit_at (bit_bytes m p) c ≡ (ltb c (8 * m) && p c)
  bytes-bit c = ⊎_elim
      (λ (h : suc (c / 8) ≤ m).
      let e : 8 * (c / 8) + c % 8 ≡ c = omega (arith, div-add-mod' c 8) in
      ap (λ x. bit x (c % 8)) (bytes-at (c / 8) h)
      ∙ bits_at (λ b. p (8 * (c / 8) + b)) 8 (c % 8)
      ∙ rw (lt-ltb (c % 8) 8 (omega arith), lt-ltb c (8 * m) (omega arith)) (ap p e))
      (λ (h : m < suc (c / 8)).
      past-bit (bit_bytes m p) c (omega (arith, bytes-length)) ∙ sym (rw (le-ltb c (8 * m) (omega arith))))
      (le-or-lt (suc (c / 8)) m)

  pub bytes_same : (l : List ℕ) → Bytes l → length l ≡ m → ((c : ℕ) → c < 8 * m → bit_at l c ≡ p c)
      → l ≡ bit_bytes m p
  unfolding bit_bytes
  bytes_same l small e same =
      tabulate-of m l byte e (λ k i.
      byte-of-bits (get_or l k 0) (small k)
      ∙ bits-cong 8 (bit (get_or l k 0)) (λ b. p (8 * k + b)) (λ b j.
      let d : (8 * k + b) / 8 ≡ k = omega arith in
      let r : (8 * k + b) % 8 ≡ b = omega arith in
      rw (d, r) at (same (8 * k + b) (omega arith))))

  pub bytes-cong : (q : ℕ → Bool) → ((c : ℕ) → c < 8 * m → p c ≡ q c) → bit_bytes m p ≡ bit_bytes m q
  unfolding bit_bytes
  bytes-cong q h = tabulate-cong m byte _ (λ k i. bits-cong 8 _ _ (λ b j. h (8 * k + b) (omega arith)))

-- Each of n cells has a bit in map_length n bytes, so a test of c < n includes that of c < 8 * map_length n.
within : (n c : ℕ) (b : Bool) → (ltb c (8 * map_length n) && (ltb c n && b)) ≡ (ltb c n && b)
within n c b = ⊎_elim
    (λ (h : suc c ≤ n). rw (lt-ltb c (8 * map_length n) (omega arith)))
    (λ (h : n < suc c). rw (le-ltb c n (omega arith)) (and-false (ltb c (8 * map_length n))))
    (le-or-lt (suc c) n)

pub unused-open : (n : ℕ) (l : List ℕ) → unused_clear n l ≡ true → (c : ℕ) → c < 8 * length l → n ≤ c
    → bit_at l c ≡ false
unfolding unused_clear
unused-open n l clear c i h =
    not-true (bit_at l c)
    (rw (le-ltb c n h) at (every-at (8 * length l) (λ c. ltb c n || not (bit_at l c)) clear c i))

module _ (n : ℕ) (p : ℕ → Bool) where
  pub packed-bit : (c : ℕ) → bit_at (packed n p) c ≡ (ltb c n && p c)
  packed-bit c = bytes-bit (map_length n) (λ c. ltb c n && p c) c ∙ within n c (p c)

  pub packed-length : length (packed n p) ≡ map_length n
  packed-length = bytes-length (map_length n) (λ c. ltb c n && p c)

  pub packed-clear : unused_clear n (packed n p) ≡ true
  unfolding unused_clear
  packed-clear = every-all _ _ (λ c i. ap (λ b. ltb c n || not b) (packed-bit c) ∙ clear (ltb c n) (p c))
    where
      clear : (a b : Bool) → (a || not (a && b)) ≡ true
      clear true b = refl
      clear false b = refl

  pub packed-cong : (q : ℕ → Bool) → ((c : ℕ) → c < n → p c ≡ q c) → packed n p ≡ packed n q
  packed-cong q h = bytes-cong (map_length n) (λ c. ltb c n && p c) (λ c. ltb c n && q c) (λ c i. ⊎_elim
      (λ (l : suc c ≤ n). ap (λ b. ltb c n && b) (h c l))
      (λ (l : n < suc c). rw (le-ltb c n (omega arith)))
      (le-or-lt (suc c) n))

  pub packed-same : (l : List ℕ) → Bytes l → length l ≡ map_length n → unused_clear n l ≡ true
      → ((c : ℕ) → c < n → bit_at l c ≡ p c) → l ≡ packed n p
  packed-same l small e clear same =
      bytes_same (map_length n) (λ c. ltb c n && p c) l small e (λ c i. ⊎_elim
      (λ (k : suc c ≤ n). same c k ∙ sym (rw (lt-ltb c n k)))
      (λ (k : n < suc c).
      unused-open n l clear c (omega arith) (omega arith) ∙ sym (rw (le-ltb c n (omega arith))))
      (le-or-lt (suc c) n))
