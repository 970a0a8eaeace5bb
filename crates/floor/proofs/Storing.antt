-- The cells given by bytes, stored one after the other.
--
--   Storing l e c s == a loop over the e cells given by the bytes l is at cell c: s is the map with the cells below c
--                      stored and every other cell open
use Prim.Native.Nat.{ℕ, ◌+◌, ◌/◌, ◌%◌, ◌≤◌, ◌<◌}
use mathlib.Core.Path.{◌≡◌, refl, sym, ap, ◌∙◌}
use mathlib.Core.Logic.{⊎_elim}
use mathlib.Core.Bool.{Bool, true, false, ◌&&◌, ◌||◌, and-true, and-false, or-false}
use mathlib.Core.List.{List}
use native.Mathlib.Omega.{arith}
use borrow.Author.Tests.{lt-ltb, le-ltb, eqb-true, eq-eqb, ne_eqb}
use lib.Dec.{eqb, ltb}
use lib.ListN.{length, get_or, length-replicate}
use Rattle.basics.specs.Bounded.{pick}
use Rattle.basics.specs.Lists.{zeros}
use Rattle.basics.specs.Bits.{bit}
use Rattle.basics.proofs.Order.{le-or-lt, eq-or-ne}
use Rattle.basics.proofs.Lists.{get_or-zeros}
use Rattle.basics.proofs.Bits.{bit-zero}
use Rattle.floor.specs.Floor.{bit_at, bit_bytes, map_length, packed, byte_blocked, stored_cells}
use Rattle.floor.specs.Known.{blocked_from}
use Rattle.floor.proofs.Packed.{bytes_same, bytes-cong, packed-bit, packed-length, packed-cong}
use Rattle.floor.proofs.Blocking.{in_span, span-one}

-- Cell k is blocked and below number c.
abbrev below : List ℕ → ℕ → ℕ → Bool
below l c k = ltb k c && byte_blocked l k

pub record Storing (l : List ℕ) (e c : ℕ) (s : List ℕ) : Type 0 where
  pub end : e ≡ length l
  pub within : c ≤ length l
  pub at : s ≡ packed (length l) (below l c)

pub storing-length : {e c : ℕ} {l s : List ℕ} → Storing l e c s → length s ≡ map_length (length l)
storing-length {e} {c} {l} {s} h = ap length h.at ∙ packed-length (length l) (below l c)

pub storing-none : (l s : List ℕ) (m : ℕ) → m ≡ map_length (length l) → s ≡ zeros m → Storing l (length l) 0 s
storing-none l s m e q =
    let n = length l in
    let z = zeros (map_length n) in
    record {
      end = refl;
      within = omega arith;
      at =
          q ∙ ap zeros e
          ∙ bytes_same (map_length n) (λ c. ltb c n && below l 0 c) z
          (λ k. rw (get_or-zeros (map_length n) k) (omega arith)) (length-replicate (map_length n) 0)
          (λ c i.
          ap (λ x. bit x (c % 8)) (get_or-zeros (map_length n) (c / 8)) ∙ bit-zero (c % 8)
          ∙ sym (rw (le-ltb c 0 (omega arith)) (and-false (ltb c n))));
    }

module _ (l : List ℕ) (c : ℕ) (i : c < length l) where
  abbrev n : ℕ
  n = length l

  -- The blocked cells below c + 1 are those below c, and c itself where it is blocked.
  more : (k : ℕ) → below l (c + 1) k ≡ (below l c k || (eqb k c && byte_blocked l c))
  more k = ⊎_elim
      (λ (e : k ≡ c). rw (e, lt-ltb c (c + 1) (omega arith), le-ltb c c (omega arith), eq-eqb c c refl))
      (λ (e : k ≡ c → ⊥). rw (ne_eqb k c e) (ap (λ b. b && byte_blocked l k) (other e) ∙ sym (or-false (below l c k))))
      (eq-or-ne k c)
    where
      other : (k ≡ c → ⊥) → ltb k (c + 1) ≡ ltb k c
      other e = ⊎_elim
          (λ (h : c ≤ k). le-ltb k (c + 1) (omega arith) ∙ sym (le-ltb k c h))
          (λ (h : k < c). lt-ltb k (c + 1) (omega arith) ∙ sym (lt-ltb k c h))
          (le-or-lt c k)

  open_more : eqb (get_or l c 0) 0 ≡ true → packed n (below l c) ≡ packed n (below l (c + 1))
  open_more e =
      packed-cong n (below l c) (below l (c + 1)) (λ k j.
      sym (more k ∙ rw e (ap (λ b. below l c k || b) (and-false (eqb k c)) ∙ or-false (below l c k))))

  blocked-more : eqb (get_or l c 0) 0 ≡ false → blocked_from c 1 (packed n (below l c)) ≡ packed n (below l (c + 1))
  unfolding blocked_from
  blocked-more e =
      let s = packed n (below l c) in
      ap (λ m. bit_bytes m (λ k. bit_at s k || in_span c 1 k)) (packed-length n (below l c))
      ∙ bytes-cong (map_length n) (λ k. bit_at s k || in_span c 1 k) (λ k. ltb k n && below l (c + 1) k) (λ k j.
      ap (λ b. b || in_span c 1 k) (packed-bit n (below l c) k)
      ∙ ap (λ b. (ltb k n && below l c k) || b) (span-one c k)
      ∙ join k (ltb k n) (below l c k) (eqb k c) (within k)
      ∙ ap (λ b. ltb k n && b) (sym (more k ∙ rw e (ap (λ b. below l c k || b) (and-true (eqb k c))))))
    where
      within : (k : ℕ) → eqb k c ≡ true → ltb k n ≡ true
      within k t = lt-ltb k n (omega (arith, eqb-true k c t))

      join : (k : ℕ) (a b d : Bool) → (d ≡ true → a ≡ true) → ((a && b) || d) ≡ (a && (b || d))
      join k true b d f = refl
      join k false b true f = sym (f refl)
      join k false b false f = refl

  pub storing-more : {e : ℕ} {s : List ℕ} (t : List ℕ) → Storing l e c s
      → t ≡ pick (eqb (get_or l c 0) 0) s (blocked_from c 1 s) → Storing l e (c + 1) t
  storing-more {e} {s} t h q = record {
    end = h.end;
    within = omega arith;
    at = q ∙ ap (λ s. pick (eqb (get_or l c 0) 0) s (blocked_from c 1 s)) h.at ∙ cases (eqb (get_or l c 0) 0) refl;
  }
    where
      cases : (b : Bool) → eqb (get_or l c 0) 0 ≡ b
          → pick b (packed n (below l c)) (blocked_from c 1 (packed n (below l c))) ≡ packed n (below l (c + 1))
      cases true e = open_more e
      cases false e = blocked-more e

pub storing-done : {e c : ℕ} {l s : List ℕ} → Storing l e c s → e ≤ c → s ≡ stored_cells l
unfolding stored_cells
storing-done {e} {c} {l} {s} h i =
    h.at ∙ packed-cong (length l) (below l c) (byte_blocked l) (λ k j.
    ap (λ b. b && byte_blocked l k) (lt-ltb k c (omega (arith, h.end))))
