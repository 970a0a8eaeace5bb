-- The unused bits of a map are all in its last byte.
use Prim.Native.Nat.{ℕ, suc, ◌+◌, ◌-◌, ◌*◌, ◌/◌, ◌%◌, ◌^◌, ◌≤◌, ◌<◌}
use mathlib.Core.Path.{◌≡◌, sym, ap, ◌∙◌}
use mathlib.Core.Logic.{⊎_elim}
use mathlib.Core.Bool.{Bool, true, false, ◌||◌, not}
use mathlib.Core.List.{List}
use native.Mathlib.Omega.{arith}
use native.Mathlib.Nat.{div-le_self}
use borrow.Author.Tests.{eqb-true, eq-eqb, lt-ltb, le-ltb}
use lib.Dec.{eqb, ltb}
use lib.ListN.{length, get_or}
use Rattle.basics.specs.Bits.{bit, bits_of}
use Rattle.basics.proofs.Order.{le-or-lt}
use Rattle.basics.proofs.Bools.{iff-eq}
use Rattle.basics.proofs.Bounded.{every-all}
use Rattle.basics.proofs.Bits.{bit-zero, bit_high, bits_at, bits-cong, byte-of-bits}
use Rattle.floor.specs.Floor.{bit_at, map_length}
use Rattle.floor.specs.Refusals.{unused_clear}
use Rattle.floor.proofs.Packed.{Bytes, unused-open}

-- Past its eight bits a byte has none set.
past-byte : (x k : ℕ) → x < 256 → 8 ≤ k → bit x k ≡ false
past-byte x k s h = ap (λ y. bit y k) (byte-of-bits x s) ∙ bits_at (bit x) 8 k ∙ rw (le-ltb k 8 h)

-- A byte with no bit set is 0.
no_bits : (x : ℕ) → x < 256 → ((k : ℕ) → bit x k ≡ false) → x ≡ 0
unfolding bits_of
no_bits x s h = byte-of-bits x s ∙ bits-cong 8 (bit x) (λ k. false) (λ k i. h k)

module _ (n : ℕ) (l : List ℕ) (e : length l ≡ map_length n) where
  abbrev used : ℕ → Bool
  used c = ltb c n || not (bit_at l c)

  -- Where 8 divides n, every bit is a cell.
  pub all-used : n % 8 ≡ 0 → true ≡ unused_clear n l
  unfolding unused_clear
  all-used z = sym (every-all (8 * length l) used (λ c i. rw (lt-ltb c n (omega arith))))

  module _ (small : Bytes l) (some : n % 8 ≡ 0 → ⊥) where
    abbrev last : ℕ
    last = get_or l (n / 8) 0

    -- The bits of the last byte from n % 8 on are 0.
    last-clear : unused_clear n l ≡ true → last / 2 ^ (n % 8) ≡ 0
    last-clear t =
        no_bits (last / 2 ^ (n % 8)) (omega (arith, small (n / 8), div-le_self last (2 ^ (n % 8)))) (λ k.
        sym (bit_high last (n % 8) k) ∙ ⊎_elim
        (λ (h : 8 ≤ n % 8 + k). past-byte last (n % 8 + k) (small (n / 8)) h)
        (λ (h : n % 8 + k < 8). clear k h)
        (le-or-lt 8 (n % 8 + k)))
      where
        clear : (k : ℕ) → n % 8 + k < 8 → bit last (n % 8 + k) ≡ false
        clear k h =
            let c = n + k in
            let d : c / 8 ≡ n / 8 = omega arith in
            let r : c % 8 ≡ n % 8 + k = omega arith in
            rw (d, r) at (unused-open n l t c (omega (arith, e)) (omega arith))

    clear-last : last / 2 ^ (n % 8) ≡ 0 → unused_clear n l ≡ true
    unfolding unused_clear
    clear-last z =
        every-all (8 * length l) used (λ c i. ⊎_elim
        (λ (h : suc c ≤ n). rw (lt-ltb c n h))
        (λ (h : n < suc c). rw (le-ltb c n (omega arith)) (ap not (clear c i (omega arith))))
        (le-or-lt (suc c) n))
      where
        clear : (c : ℕ) → c < 8 * length l → n ≤ c → bit_at l c ≡ false
        clear c i h =
            let d : c / 8 ≡ n / 8 = omega (arith, e) in
            let r : c % 8 ≡ n % 8 + (c % 8 - n % 8) = omega (arith, e) in
            rw (d, r) (bit_high last (n % 8) (c % 8 - n % 8) ∙ ap (λ x. bit x (c % 8 - n % 8)) z
            ∙ bit-zero (c % 8 - n % 8))

    pub last-tells : eqb (last / 2 ^ (n % 8)) 0 ≡ unused_clear n l
    last-tells =
        iff-eq (eqb (last / 2 ^ (n % 8)) 0) (unused_clear n l)
        (λ t. clear-last (eqb-true (last / 2 ^ (n % 8)) 0 t))
        (λ t. eq-eqb (last / 2 ^ (n % 8)) 0 (last-clear t))
