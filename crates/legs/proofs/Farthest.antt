-- The proposer's next position, and what it proposes.
--
--   last_found      == the greatest number that passes a test, where one does
--   Far s n i j     == of the positions to which i has a leg, j is the farthest with the fewest legs left, which are
--                      one fewer than i has
--   farthest-is     == `farthest_next` is that position
--   proposed-chain  == the proposed positions are those that `farthest_next` names one after the other
--   goes-..         == the test of a leg that leaves one leg fewer
--   Seeking s n i k == the search for that position, from the last down, has passed those from k on and not met it
use Prim.Native.Nat.{ℕ, zero, suc, ◌≤◌, ◌<◌}
use mathlib.Core.Path.{◌≡◌, refl, sym, ap, ◌∙◌}
use mathlib.Core.Logic.{⊎_elim}
use mathlib.Core.Bool.{Bool, true, false, ◌&&◌, and-true}
use mathlib.Core.List.{List, ◌∷◌, []}
use native.Mathlib.Omega.{arith}
use borrow.Author.Tests.{eqb-true, eq-eqb}
use lib.Dec.{eqb, ltb}
use lib.ListN.{get_or}
use Rattle.basics.specs.Bounded.{pick}
use Rattle.basics.proofs.Order.{le-or-lt, eq-or-ne}
use Rattle.basics.proofs.Bools.{and_intro, and_both, not-both}
use Rattle.thinning.specs.Known.{chain}
use Rattle.legs.specs.Choices.{Leg, is_leg, fewest_legs}
use Rattle.legs.specs.Answer.{last_below, farthest_next, proposed_from}
use Rattle.legs.specs.Known.{RightFrom}
use Rattle.legs.proofs.Fewest.{leg-cases, leg-at, fewest-leg, fewest-witness}
use Rattle.legs.proofs.Least.{leg-seen}

last_found : (n k : ℕ) (p : ℕ → Bool) → k < n → p k ≡ true
    → (last_below n p < n) × (p (last_below n p) ≡ true) × (k ≤ last_below n p)
unfolding last_below
last_found zero k p l e = absurd (omega arith)
last_found (suc n) k p l e = cases (p n) refl (last_below n p) (λ b. last_found n k p b e)
  where
    cases : (b : Bool) → p n ≡ b → (m : ℕ) → (k < n → (m < n) × (p m ≡ true) × (k ≤ m))
        → (pick b n m < suc n) × (p (pick b n m) ≡ true) × (k ≤ pick b n m)
    cases true q m r = (omega arith, q, omega arith)
    cases false q m r =
        ⊎_elim (λ (lt : suc k ≤ n). let f = r lt in (omega (arith, f.0), f.1, f.2))
        (λ (ge : n < suc k). let z : k ≡ n = omega arith in not-both (p n) (rw (← z) e) q) (le-or-lt (suc k) n)

module _ (s : ℕ → ℕ → Bool) (n : ℕ) where
  pub record Far (i j : ℕ) : Type 0 where
    pub leg : Leg s n i j
    pub fewer : fewest_legs s n i ≡ suc (fewest_legs s n j)
    pub fewest : (k : ℕ) → Leg s n i k → fewest_legs s n j ≤ fewest_legs s n k
    pub farthest : (k : ℕ) → Leg s n i k → fewest_legs s n k ≡ fewest_legs s n j → k ≤ j

  pub farthest-is : ((k : ℕ) → suc k < n → s k (suc k) ≡ true) → (i : ℕ) → suc i < n → Far i (farthest_next s n i)
  unfolding farthest_next
  farthest-is steady i l =
      let F = fewest_legs s n in
      let p : ℕ → Bool = λ j. is_leg s n i j && eqb (F i) (suc (F j)) in
      let there : (k : ℕ) → Leg s n i k → F i ≡ suc (F k) → p k ≡ true =
      (λ k h e. and_intro (is_leg s n i k) _ (leg-at s n i k h) (eq-eqb (F i) (suc (F k)) e)) in
      let w = fewest-witness s n steady i l in
      let r = last_found n w.0 p w.1.within (there w.0 w.1 w.2) in
      let q = and_both (is_leg s n i (last_below n p)) _ r.1 in
      let fewer = eqb-true (F i) (suc (F (last_below n p))) q.1 in
      record {
        leg = leg-cases s n i (last_below n p) q.0;
        fewer = fewer;
        fewest = λ k h. omega (arith, fewest-leg s n steady i k h);
        farthest = λ k h e. (last_found n k p h.within (there k h (fewer ∙ ap suc (sym e)))).2;
      }

  pub proposed-chain : (c i : ℕ) → chain (farthest_next s n) n c i ≡ proposed_from s n c i
  unfolding chain proposed_from
  proposed-chain zero i = refl
  proposed-chain (suc c) i = ap (λ q. i ∷ pick (ltb (suc i) n) q []) (proposed-chain c (farthest_next s n i))

  module _ (l : List ℕ) (i j : ℕ) where
    pub goes-seen : {r : Bool} → i < j → j < n → get_or l i 0 ≡ suc (get_or l j 0) → r ≡ s i j
        → r ≡ (is_leg s n i j && eqb (get_or l i 0) (suc (get_or l j 0)))
    goes-seen a b q e =
        e ∙ sym (rw (leg-seen s n i j a b, eq-eqb (get_or l i 0) (suc (get_or l j 0)) q, and-true (s i j)))

  pub record Seeking (i k : ℕ) : Type 0 where
    pub inside : k ≤ n
    pub reach : farthest_next s n i < k
    pub far : Far i (farthest_next s n i)

  pub seeking-first : ((k : ℕ) → suc k < n → s k (suc k) ≡ true) → (i : ℕ) → suc i < n → Seeking i n
  seeking-first steady i l =
      let f = farthest-is steady i l in record { inside = omega arith; reach = f.leg.within; far = f }

  module _ (l : List ℕ) (right : RightFrom s n l 0) (i j : ℕ) {k : ℕ} (h : Seeking i k) (d : suc j ≡ k) {r : Bool}
      (e : r ≡ (is_leg s n i j && eqb (get_or l i 0) (suc (get_or l j 0)))) where
    pub seeking-found : i < n → r ≡ true → j ≡ farthest_next s n i
    seeking-found b t =
        let p = and_both (is_leg s n i j) _ (sym e ∙ t) in
        let q = eqb-true (get_or l i 0) (suc (get_or l j 0)) p.1 in
        let f = h.far.farthest j (leg-cases s n i j p.0)
        (omega (arith, right i (omega arith) b, right j (omega arith) (omega (arith, h.inside)), h.far.fewer)) in
        omega (arith, h.reach)

    pub seeking-more : i < n → r ≡ false → Seeking i j
    seeking-more b t =
        let f = h.far in
        let here : farthest_next s n i ≡ j → (is_leg s n i j && eqb (get_or l i 0) (suc (get_or l j 0))) ≡ true =
        (λ z. and_intro (is_leg s n i j) _ (leg-at s n i j (rw z at f.leg))
        (eq-eqb (get_or l i 0) (suc (get_or l j 0))
        (right i (omega arith) b ∙ (rw z at f.fewer)
        ∙ ap suc (sym (right j (omega arith) (omega (arith, h.inside))))))) in
        ⊎_elim (λ z. not-both _ (here z) (sym e ∙ t))
        (λ ne. record { inside = omega (arith, h.inside); reach = omega (arith, h.reach, ne); far = f })
        (eq-or-ne (farthest_next s n i) j)
