-- A loop that records positions, from 0 to the last, each found from the one before by the rule `next`: i is the last
-- position recorded, and m the number recorded.
--
--   later_chain next n c i     == `chain next n c i` without its first position
--   chain_more, chain-end     == `chain` from a position before n - 1, and from n - 1
--   Recording next n k m i l  == of the k places of l, the first m have the first m positions of the chain from 0, and
--                                the others 0; i is the last one recorded
--   recording-first, recording-more == `Recording` before the loop, and with one position more
--   recording-count, recording-done == after the last position, m is the length of the chain, and l has the whole chain
use Prim.Native.Nat.{ℕ, suc, ◌+◌, ◌-◌, ◌≤◌, ◌<◌}
use mathlib.Core.Path.{◌≡◌, refl, sym, ap, ◌∙◌}
use mathlib.Core.List.{List, [], ◌∷◌, ◌++◌, append-nil, append_assoc}
use native.Mathlib.Omega.{arith}
use native.Mathlib.Numerals.{add-one}
use borrow.Author.Tests.{lt-ltb, le-ltb}
use lib.Dec.{ltb}
use lib.ListN.{length, set, length-append, length-replicate, length-set}
use Rattle.basics.specs.Bounded.{pick}
use Rattle.basics.specs.Lists.{padded, zeros}
use Rattle.basics.proofs.Bounded.{pick_yes, pick_no}
use Rattle.basics.proofs.Lists.{padded-more}
use Rattle.thinning.specs.Known.{chain}

module _ (next : ℕ → ℕ) (n : ℕ) where
  abbrev later_chain : ℕ → ℕ → List ℕ
  later_chain c i = pick (ltb (suc i) n) (chain next n c (next i)) []

  chain-later : (c i : ℕ) → chain next n (suc c) i ≡ i ∷ later_chain c i
  unfolding chain
  chain-later c i = refl

  later_more : (c i : ℕ) → suc i < n → later_chain c i ≡ chain next n c (next i)
  later_more c i a = pick_yes (ltb (suc i) n) _ [] (lt-ltb (suc i) n a)

  later-none : (c i : ℕ) → n ≤ suc i → later_chain c i ≡ []
  later-none c i a = pick_no (ltb (suc i) n) _ [] (le-ltb (suc i) n a)

  pub chain_more : (c i : ℕ) → suc i < n → chain next n (suc c) i ≡ i ∷ chain next n c (next i)
  chain_more c i a = chain-later c i ∙ ap (λ q. i ∷ q) (later_more c i a)

  pub chain-end : (c i : ℕ) → n ≤ suc i → chain next n (suc c) i ≡ i ∷ []
  chain-end c i a = chain-later c i ∙ ap (λ q. i ∷ q) (later-none c i a)

  pub record Recording (k m i : ℕ) (l : List ℕ) : Type 0 where
    pub inside : i < n
    pub counted : m ≤ suc i
    pub fits : n ≤ k
    pub size : length l ≡ k
    pub positions : List ℕ
    pub many : length positions ≡ m
    pub at : l ≡ padded k positions
    pub rest : positions ++ later_chain (n - m) i ≡ chain next n n 0

  pub recording-first : (k : ℕ) → 1 ≤ n → n ≤ k → Recording k 1 0 (zeros k)
  unfolding padded
  recording-first k a b =
      let d : k ≡ suc (k - 1) = omega arith in
      let e : n ≡ suc (n - 1) = omega arith in
      record {
        inside = a;
        counted = omega arith;
        fits = b;
        size = length-replicate k 0;
        positions = 0 ∷ [];
        many = refl;
        at = ap zeros d;
        rest = sym (ap (λ c. chain next n c 0) e ∙ chain-later (n - 1) 0);
      }

  module _ {k m i : ℕ} {l : List ℕ} (h : Recording k m i l) where
    pub recording-more : suc i < n → (j : ℕ) → i < j → j < n → j ≡ next i → Recording k (m + 1) j (set l m j)
    recording-more a j b within e =
        let ps = h.positions in
        let d : n - m ≡ suc (n - suc m) = omega (arith, h.counted) in
        let step : later_chain (n - m) i ≡ j ∷ later_chain (n - suc m) j =
        later_more (n - m) i a ∙ rw (← e, d) (chain-later (n - suc m) j) in
        rw add-one record {
          inside = within;
          counted = omega (arith, h.counted);
          fits = h.fits;
          size = length-set l m j ∙ h.size;
          positions = ps ++ j ∷ [];
          many = omega (arith, length-append ps (j ∷ []), h.many);
          at = rw (h.at, ← h.many) (padded-more k j ps (omega (arith, h.many, h.counted, h.fits)));
          rest = append_assoc ps (j ∷ []) _ ∙ ap (λ q. ps ++ q) (sym step) ∙ h.rest;
        }

    recording-whole : n ≤ suc i → h.positions ≡ chain next n n 0
    recording-whole a =
        sym (append-nil h.positions) ∙ ap (λ q. h.positions ++ q) (sym (later-none (n - m) i a)) ∙ h.rest

    pub recording-count : n ≤ suc i → m ≡ length (chain next n n 0)
    recording-count a = sym h.many ∙ ap length (recording-whole a)

    pub recording-done : n ≤ suc i → l ≡ padded k (chain next n n 0)
    recording-done a = h.at ∙ ap (padded k) (recording-whole a)
