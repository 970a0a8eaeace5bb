-- Cells blocked on a map, one after the other.
--
--   in_span a n c        == cell c is one of the n cells from number a on
--   blocked-bit          == bit_at (blocked_from a n l) c = (bit_at l c || in_span a n c)
--   block_one            == to set the bit of a cell in its byte is to block that cell
--   Blocking a n l e c s == a loop over the n cells from number a on, to its end e, is at cell c: s is the map l with
--                           the cells from a to c - 1 blocked
use Prim.Native.Nat.{ℕ, ◌+◌, ◌-◌, ◌*◌, ◌/◌, ◌%◌, ◌^◌, ◌≤◌, ◌<◌}
use mathlib.Core.Path.{◌≡◌, refl, sym, ap, ◌∙◌}
use mathlib.Core.Logic.{⊎_elim}
use mathlib.Core.Bool.{Bool, true, false, ◌&&◌, ◌||◌, and-false, or-false, or_assoc}
use mathlib.Core.List.{List}
use native.Mathlib.Omega.{arith}
use native.Mathlib.Nat.{div-add-mod', mod-lt}
use borrow.Author.Tests.{le-leb, lt-leb, lt-ltb, le-ltb, eqb-true, eq-eqb, ne_eqb}
use lib.Bits.{bit_or, or_lt}
use lib.Dec.{leb, ltb, eqb}
use lib.ListN.{length, get_or, set, length-set}
use lib.Seq.{get_or-set_same, get_or-set_other}
use Rattle.basics.specs.Bounded.{every, bounded-opened}
use Rattle.basics.specs.Bits.{bit}
use Rattle.basics.proofs.Order.{le-or-lt, eq-or-ne}
use Rattle.basics.proofs.Bounded.{every-at}
use Rattle.basics.proofs.Bits.{bit-or, pow-bit}
use Rattle.floor.specs.Floor.{bit_at, bit_bytes}
use Rattle.floor.specs.Known.{blocked_from}
use Rattle.floor.proofs.Packed.{Bytes, bytes-length, bytes-bit, bytes_same, bytes-cong}

abbrev pub in_span : ℕ → ℕ → ℕ → Bool
in_span a n c = leb a c && ltb c (a + n)

pub span_none : (a c : ℕ) → in_span a 0 c ≡ false
span_none a c = ⊎_elim
    (λ (h : a ≤ c). rw (le-ltb c (a + 0) (omega arith)) (and-false (leb a c)))
    (λ (h : c < a). rw (lt-leb a c h))
    (le-or-lt a c)

pub span-one : (a c : ℕ) → in_span a 1 c ≡ eqb c a
span-one a c = ⊎_elim
    (λ (h : a ≤ c). ⊎_elim
    (λ (k : a + 1 ≤ c). rw (le-ltb c (a + 1) k, ne_eqb c a (λ e. omega arith)) (and-false (leb a c)))
    (λ (k : c < a + 1). rw (le-leb a c h, lt-ltb c (a + 1) k, eq-eqb c a (omega arith)))
    (le-or-lt (a + 1) c))
    (λ (h : c < a). rw (lt-leb a c h, ne_eqb c a (λ e. omega arith)))
    (le-or-lt a c)

-- The cells from a to c - 1, and cell c, are those from a to c.
span_more : (a c k : ℕ) → a ≤ c → (in_span a (c - a) k || in_span c 1 k) ≡ in_span a (c + 1 - a) k
span_more a c k h =
    ap (λ b. in_span a (c - a) k || b) (span-one c k) ∙ ⊎_elim
    (λ (p : a ≤ k). rw (le-leb a k p) (⊎_elim
    (λ (q : c + 1 ≤ k).
    rw (le-ltb k (a + (c - a)) (omega arith), le-ltb k (a + (c + 1 - a)) (omega arith), ne_eqb k c (λ e. omega arith)))
    (λ (q : k < c + 1). rw (lt-ltb k (a + (c + 1 - a)) (omega arith)) (below p q))
    (le-or-lt (c + 1) k)))
    (λ (p : k < a). rw (lt-leb a k p, ne_eqb k c (λ e. omega arith)))
    (le-or-lt a k)
  where
    below : a ≤ k → k < c + 1 → (ltb k (a + (c - a)) || eqb k c) ≡ true
    below p q = ⊎_elim
        (λ (e : k ≡ c). rw (le-ltb k (a + (c - a)) (omega arith)) (eq-eqb k c e))
        (λ (e : k ≡ c → ⊥). rw (lt-ltb k (a + (c - a)) (omega arith)))
        (eq-or-ne k c)

module _ (a n : ℕ) (l : List ℕ) where
  pub blocked-size : length (blocked_from a n l) ≡ length l
  unfolding blocked_from
  blocked-size = bytes-length (length l) (λ c. bit_at l c || in_span a n c)

  pub blocked-bit : (c : ℕ) → c < 8 * length l → bit_at (blocked_from a n l) c ≡ (bit_at l c || in_span a n c)
  unfolding blocked_from
  blocked-bit c i =
      bytes-bit (length l) (λ c. bit_at l c || in_span a n c) c ∙ rw (lt-ltb c (8 * length l) i)

block_none : (a : ℕ) (l : List ℕ) → Bytes l → l ≡ blocked_from a 0 l
unfolding blocked_from
block_none a l small =
    bytes_same (length l) (λ c. bit_at l c || in_span a 0 c) l small refl (λ c i.
    sym (ap (λ b. bit_at l c || b) (span_none a c) ∙ or-false (bit_at l c)))

block-next : (a c : ℕ) (l : List ℕ) → a ≤ c → blocked_from c 1 (blocked_from a (c - a) l) ≡ blocked_from a (c + 1 - a) l
unfolding blocked_from
block-next a c l h =
    let s = blocked_from a (c - a) l in
    ap (λ m. bit_bytes m (λ k. bit_at s k || in_span c 1 k)) (blocked-size a (c - a) l)
    ∙ bytes-cong (length l) (λ k. bit_at s k || in_span c 1 k) (λ k. bit_at l k || in_span a (c + 1 - a) k) (λ k i.
    ap (λ b. b || in_span c 1 k) (blocked-bit a (c - a) l k i)
    ∙ or_assoc (bit_at l k) (in_span a (c - a) k) (in_span c 1 k)
    ∙ ap (λ b. bit_at l k || b) (span_more a c k h))

-- ---- a bit set in its byte

all-shifts : every 8 (λ k. eqb (1 * 2 ^ k % 256) (2 ^ k)) ≡ true
unfolding bounded-opened
all-shifts = refl

-- 1 shifted by less than eight places, as a byte.
byte-shift : (k : ℕ) → k < 8 → 1 * 2 ^ k % 256 ≡ 2 ^ k
byte-shift k h = eqb-true (1 * 2 ^ k % 256) (2 ^ k) (every-at 8 (λ k. eqb (1 * 2 ^ k % 256) (2 ^ k)) all-shifts k h)

module _ (l : List ℕ) (c : ℕ) (i : c < 8 * length l) where
  abbrev byte : ℕ
  byte = bit_or (get_or l (c / 8) 0) (1 * 2 ^ (c % 8) % 256)

  set-bit : (k : ℕ) → bit_at (set l (c / 8) byte) k ≡ (bit_at l k || eqb k c)
  set-bit k = ⊎_elim
      (λ (e : k / 8 ≡ c / 8).
      rw (e, get_or-set_same l (c / 8) byte 0 (omega arith))
      (bit-or (get_or l (c / 8) 0) (1 * 2 ^ (c % 8) % 256) (k % 8)
      ∙ ap (λ t. bit (get_or l (c / 8) 0) (k % 8) || t)
      (ap (λ x. bit x (k % 8)) (byte-shift (c % 8) (omega arith)) ∙ pow-bit (c % 8) (k % 8) ∙ same_bit e)))
      (λ (n : k / 8 ≡ c / 8 → ⊥).
      rw (get_or-set_other l (c / 8) (k / 8) byte 0 n, ne_eqb k c (λ q. n (ap (λ x. x / 8) q)))
      (sym (or-false (bit_at l k))))
      (eq-or-ne (k / 8) (c / 8))
    where
      same_bit : k / 8 ≡ c / 8 → eqb (c % 8) (k % 8) ≡ eqb k c
      same_bit e = ⊎_elim
          (λ (q : c % 8 ≡ k % 8).
          eq-eqb (c % 8) (k % 8) q ∙ sym (eq-eqb k c (omega (arith, div-add-mod' k 8, div-add-mod' c 8))))
          (λ (q : c % 8 ≡ k % 8 → ⊥).
          ne_eqb (c % 8) (k % 8) q ∙ sym (ne_eqb k c (λ d. q (ap (λ x. x % 8) (sym d)))))
          (eq-or-ne (c % 8) (k % 8))

  set-small : Bytes l → Bytes (set l (c / 8) byte)
  set-small small k = ⊎_elim
      (λ (e : k ≡ c / 8).
      rw (e, get_or-set_same l (c / 8) byte 0 (omega arith))
      (or_lt 8 (get_or l (c / 8) 0) (1 * 2 ^ (c % 8) % 256) (small (c / 8)) (mod-lt (1 * 2 ^ (c % 8)) (omega arith))))
      (λ (n : k ≡ c / 8 → ⊥). rw (get_or-set_other l (c / 8) k byte 0 n) (small k))
      (eq-or-ne k (c / 8))

  pub block_one : Bytes l → set l (c / 8) byte ≡ blocked_from c 1 l
  unfolding blocked_from
  block_one small =
      bytes_same (length l) (λ k. bit_at l k || in_span c 1 k) (set l (c / 8) byte) (set-small small)
      (length-set l (c / 8) byte)
      (λ k j. set-bit k ∙ ap (λ b. bit_at l k || b) (sym (span-one c k)))

-- ---- the loop

pub record Blocking (a n : ℕ) (l : List ℕ) (e c : ℕ) (s : List ℕ) : Type 0 where
  pub end : e ≡ a + n
  pub from : a ≤ c
  pub within : c ≤ a + n
  pub at : s ≡ blocked_from a (c - a) l

pub blocking-length : {a n e c : ℕ} {l s : List ℕ} → Blocking a n l e c s → length s ≡ length l
blocking-length {a} {n} {e} {c} {l} {s} h = ap length h.at ∙ blocked-size a (c - a) l

pub blocking-none : (a n e : ℕ) (l : List ℕ) → Bytes l → e ≡ a + n → Blocking a n l e a l
blocking-none a n e l small q =
    let z : a - a ≡ 0 = omega arith in
    record {
      end = q;
      from = omega arith;
      within = omega arith;
      at = block_none a l small ∙ ap (λ k. blocked_from a k l) (sym z);
    }

pub blocking-more : {a n e c : ℕ} {l s : List ℕ} (t : List ℕ) → Blocking a n l e c s → c < e → t ≡ blocked_from c 1 s
    → Blocking a n l e (c + 1) t
blocking-more {a} {n} {e} {c} {l} {s} t h i q = record {
  end = h.end;
  from = omega (arith, h.from);
  within = omega (arith, h.end);
  at = q ∙ ap (blocked_from c 1) h.at ∙ block-next a c l h.from;
}

pub blocking-done : {a n e c : ℕ} {l s : List ℕ} → Blocking a n l e c s → e ≤ c → s ≡ blocked_from a n l
blocking-done {a} {n} {e} {c} {l} {s} h i =
    let z : c - a ≡ n = omega (arith, h.end, h.within) in
    h.at ∙ ap (λ k. blocked_from a k l) z
