-- The checker's tests: what each definition comes to.
--
--   zero-all    == the test that a slice has 0 from a place on
--   numbers-..  == the test of all numbers, from the last position on
--   kept-legs   == the test of the kept positions, past the quick ones
--   KeptParts s n l c == what the first c of l have that pass it
--   choice-numbers == the test of a whole proposal, past the quick ones
use Prim.Native.Nat.{ℕ, zero, suc, pred, ◌≤◌, ◌<◌}
use mathlib.Core.Path.{◌≡◌, sym, ap, ◌∙◌}
use mathlib.Core.Logic.{⊎_elim}
use mathlib.Core.Bool.{Bool, true, false, ◌&&◌, ◌||◌}
use mathlib.Core.List.{List, [], ◌∷◌}
use native.Mathlib.Omega.{arith}
use borrow.Author.Tests.{leb-true, eqb-true, eq-eqb, ne_eqb, lt-ltb, le-ltb, le-leb}
use lib.Dec.{leb, ltb, eqb}
use lib.ListN.{length, get_or, drop}
use Rattle.std.specs.List.{list_all}
use Rattle.basics.specs.Bounded.{every}
use Rattle.basics.proofs.Order.{le-or-lt, eq-or-ne}
use Rattle.basics.proofs.Bools.{and_both}
use Rattle.basics.proofs.Bounded.{every-all, every-fails, every-cong}
use Rattle.basics.proofs.Every.{every-first, all-every}
use Rattle.legs.specs.Choices.{is_leg, fewest_legs}
use Rattle.legs.specs.Answer.{kept_right, numbers_right, zero_from, true_choice}
use Rattle.legs.specs.Known.{RightFrom}

-- ---- zeros

abbrev pub zero_at : ℕ → List ℕ → ℕ → Bool
zero_at k l i = ltb i k || eqb (get_or l i 0) 0

ltb-suc : (i k : ℕ) → ltb (suc i) (suc k) ≡ ltb i k
ltb-suc i k = ⊎_elim
    (λ (a : suc i ≤ k). lt-ltb (suc i) (suc k) (omega arith) ∙ sym (lt-ltb i k a))
    (λ (a : k < suc i). le-ltb (suc i) (suc k) (omega arith) ∙ sym (le-ltb i k (omega arith)))
    (le-or-lt (suc i) k)

-- What `all` answers over the places from k on.
pub zero-all : (k : ℕ) (l : List ℕ) → list_all (λ x. eqb x 0) (drop k l) ≡ zero_from k l
unfolding zero_from
zero-all zero l =
    all-every (λ x. eqb x 0) l
    ∙ every-cong (length l) _ _ (λ i b. ap (λ t. t || eqb (get_or l i 0) 0) (sym (le-ltb i 0 (omega arith))))
zero-all (suc k) [] = sym (every-all 0 _ (λ i b. absurd (omega arith)))
zero-all (suc k) (x ∷ l) =
    zero-all k l
    ∙ every-cong (length l) _ _ (λ i b. ap (λ t. t || eqb (get_or l i 0) 0) (sym (ltb-suc i k)))
    ∙ sym (every-first (length l) (λ i. ltb i (suc k) || eqb (get_or (x ∷ l) i 0) 0)
    ∙ ap (λ t. (t || eqb x 0) && every (length l) (λ i. ltb (suc i) (suc k) || eqb (get_or l i 0) 0))
    (lt-ltb 0 (suc k) (omega arith)))

-- ---- the numbers

module _ (s : ℕ → ℕ → Bool) (n : ℕ) (l : List ℕ) where
  pub numbers_more : (i : ℕ) → RightFrom s n l (suc i) → get_or l i 0 ≡ fewest_legs s n i → RightFrom s n l i
  numbers_more i r e k a b = ⊎_elim (λ (q : k ≡ i). rw q e) (λ ne. r k (omega arith) b) (eq-or-ne k i)

  pub numbers-stop : (i : ℕ) → i < n → (get_or l i 0 ≡ fewest_legs s n i → ⊥) → false ≡ numbers_right s n l
  unfolding numbers_right
  numbers-stop i a ne =
      sym (every-fails n i (λ i. eqb (get_or l i 0) (fewest_legs s n i)) a (ne_eqb (get_or l i 0) (fewest_legs s n i) ne))

  pub numbers-all : RightFrom s n l 0 → true ≡ numbers_right s n l
  unfolding numbers_right
  numbers-all r = sym (every-all n _ (λ k b. eq-eqb (get_or l k 0) (fewest_legs s n k) (r k (omega arith) b)))

-- ---- the kept positions

module _ (s : ℕ → ℕ → Bool) (n : ℕ) (l : List ℕ) (c : ℕ) where
  pub kept-legs : 1 ≤ c → c ≤ length l → get_or l 0 0 ≡ 0 → suc (get_or l (pred c) 0) ≡ n
      → every (pred c) (λ k. is_leg s n (get_or l k 0) (get_or l (suc k) 0)) ≡ kept_right s n l c
  unfolding kept_right
  kept-legs a b z e =
      rw (le-leb 1 c a, le-leb c (length l) b, eq-eqb (get_or l 0 0) 0 z, eq-eqb (suc (get_or l (pred c) 0)) n e)

  pub record KeptParts : Type 0 where
    pub some : 1 ≤ c
    pub within : c ≤ length l
    pub starts : get_or l 0 0 ≡ 0
    pub ends : suc (get_or l (pred c) 0) ≡ n
    pub legs : every (pred c) (λ k. is_leg s n (get_or l k 0) (get_or l (suc k) 0)) ≡ true

  pub kept-parts : kept_right s n l c ≡ true → KeptParts
  unfolding kept_right
  kept-parts e =
      let p = and_both (leb 1 c) _ e in
      let q = and_both (leb c (length l)) _ p.1 in
      let r = and_both (eqb (get_or l 0 0) 0) _ q.1 in
      let t = and_both (eqb (suc (get_or l (pred c) 0)) n) _ r.1 in
      record {
        some = leb-true 1 c p.0;
        within = leb-true c (length l) q.0;
        starts = eqb-true (get_or l 0 0) 0 r.0;
        ends = eqb-true (suc (get_or l (pred c) 0)) n t.0;
        legs = t.1;
      }

  pub kept_whole : KeptParts → kept_right s n l c ≡ true
  kept_whole k = sym (kept-legs k.some k.within k.starts k.ends) ∙ k.legs

-- ---- the whole proposal

module _ (s : ℕ → ℕ → Bool) (n : ℕ) (kept : List ℕ) (c : ℕ) (legs : List ℕ) where
  pub choice-numbers : kept_right s n kept c ≡ true → c ≡ suc (get_or legs 0 0) → zero_from c kept ≡ true
      → zero_from n legs ≡ true → numbers_right s n legs ≡ true_choice s n kept c legs
  unfolding true_choice
  choice-numbers k e z y = rw (k, eq-eqb c (suc (get_or legs 0 0)) e, z, y)
