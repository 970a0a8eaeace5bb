-- The fewest legs are the minimum over all rising clear choices, and the equations that they meet.
--
--   leg-cases, leg-at           == the test of a leg, and a leg
--   choice-leads, leads-choice  == `leads_in` says that there is a choice with so many legs
--   fewest-legs                 == `fewest_legs` is the least number of legs of any choice
--   fewest-one                  == no other number is
--   fewest-short                == the fewest legs from a position are fewer than there are positions
--   fewest-last                 == the fewest legs from the last position are 0
--   fewest-leg                  == where there is a leg from i to j, fewest_legs s n i ≤ suc (fewest_legs s n j)
--   fewest-witness              == from a position i before the last there is a leg to some j with fewest_legs s n i ≡
--                                  suc (fewest_legs s n j)
--
-- The last five are of a list of which each position sees the next.
use Prim.Native.Nat.{ℕ, zero, suc, ◌+◌, ◌-◌, ◌≤◌, ◌<◌}
use mathlib.Core.Path.{◌≡◌, refl, ap}
use mathlib.Core.Logic.{⊎_elim}
use mathlib.Core.Bool.{Bool, true, ◌&&◌}
use mathlib.Core.List.{List, [], ◌∷◌}
use native.Mathlib.Omega.{arith}
use borrow.Author.Tests.{eqb-true, eq-eqb, ltb-true, lt-ltb}
use lib.Dec.{ltb}
use lib.ListN.{length}
use Rattle.basics.specs.Bounded.{seek}
use Rattle.basics.proofs.Order.{le-or-lt}
use Rattle.basics.proofs.Bools.{and_intro, and_both}
use Rattle.basics.proofs.Bounded.{any-cases, any-one, seek_found, seek-least}
use Rattle.legs.specs.Choices.{Leg, Choice, last, leg, Fewest, is_leg, leads_in, fewest_legs}

module _ (s : ℕ → ℕ → Bool) (n : ℕ) where
  pub leg-cases : (i j : ℕ) → is_leg s n i j ≡ true → Leg s n i j
  unfolding is_leg
  leg-cases i j e =
      let p = and_both (ltb i j) _ e in
      let q = and_both (ltb j n) _ p.1 in
      record { later = ltb-true i j p.0; within = ltb-true j n q.0; sees = q.1 }

  pub leg-at : (i j : ℕ) → Leg s n i j → is_leg s n i j ≡ true
  unfolding is_leg
  leg-at i j l =
      and_intro (ltb i j) _ (lt-ltb i j l.later) (and_intro (ltb j n) _ (lt-ltb j n l.within) l.sees)

  -- ---- choices of so many legs

  leads-last : (i : ℕ) → suc i ≡ n → leads_in s n 0 i ≡ true
  unfolding leads_in
  leads-last i e = eq-eqb (suc i) n e

  last-leads : (i : ℕ) → leads_in s n 0 i ≡ true → suc i ≡ n
  unfolding leads_in
  last-leads i e = eqb-true (suc i) n e

  leads-step : (k i j : ℕ) → Leg s n i j → leads_in s n k j ≡ true → leads_in s n (suc k) i ≡ true
  unfolding leads_in
  leads-step k i j l e = any-one n j _ l.within (and_intro (is_leg s n i j) _ (leg-at i j l) e)

  leads-first : (k i : ℕ) → leads_in s n (suc k) i ≡ true → (j : ℕ) × Leg s n i j × (leads_in s n k j ≡ true)
  unfolding leads_in
  leads-first k i e =
      let p = any-cases n (λ j. is_leg s n i j && leads_in s n k j) e in
      let q = and_both (is_leg s n i p.0) _ p.2 in
      (p.0, leg-cases i p.0 q.0, q.1)

  pub choice-leads : {i : ℕ} {l : List ℕ} → Choice s n i l → (k : ℕ) × (length l ≡ suc k) × (leads_in s n k i ≡ true)
  choice-leads (last e) = (0, refl, leads-last _ e)
  choice-leads (leg {i} {j} {l} h c) =
      let r = choice-leads c in (suc r.0, ap suc r.1, leads-step r.0 i j h r.2)

  pub leads-choice : (k i : ℕ) → leads_in s n k i ≡ true → (l : List ℕ) × Choice s n i l × (length l ≡ suc k)
  leads-choice zero i e = (i ∷ [], last (last-leads i e), refl)
  leads-choice (suc k) i e =
      let p = leads-first k i e in
      let r = leads-choice k p.0 p.2 in
      (i ∷ r.0, leg p.1 r.1, ap suc r.2)

  pub fewest-one : (i k m : ℕ) → Fewest s n i k → Fewest s n i m → k ≡ m
  fewest-one i k m f g =
      let a = g.least f.some.0 f.some.1 in
      let b = f.least g.some.0 g.some.1 in
      omega (arith, f.some.2, g.some.2)

  -- ---- where each position sees the next

  module _ (steady : (i : ℕ) → suc i < n → s i (suc i) ≡ true) where
    pub next-leg : (i : ℕ) → suc i < n → Leg s n i (suc i)
    next-leg i l = record { later = omega arith; within = l; sees = steady i l }

    -- The choice of all positions.
    leads-all : (k i : ℕ) → suc (i + k) ≡ n → leads_in s n k i ≡ true
    leads-all zero i e = leads-last i (omega arith)
    leads-all (suc k) i e =
        leads-step k i (suc i) (next-leg i (omega arith)) (leads-all k (suc i) (omega arith))

    pub fewest-short : (i : ℕ) → i < n → fewest_legs s n i < n
    unfolding fewest_legs
    fewest-short i l =
        let m = seek-least n 0 (n - suc i) (λ k. leads_in s n k i) (omega arith) (omega arith)
        (leads-all (n - suc i) i (omega arith)) in
        omega arith

    fewest-leads : (i : ℕ) → i < n → leads_in s n (fewest_legs s n i) i ≡ true
    unfolding fewest_legs
    fewest-leads i l =
        let b : seek n 0 (λ k. leads_in s n k i) < n = fewest-short i l in
        seek_found n 0 (λ k. leads_in s n k i) (omega arith)

    fewest-le : (i k : ℕ) → i < n → leads_in s n k i ≡ true → fewest_legs s n i ≤ k
    unfolding fewest_legs
    fewest-le i k l e =
        ⊎_elim
        (λ (ge : n ≤ k). let b : seek n 0 (λ k. leads_in s n k i) < n = fewest-short i l in omega arith)
        (λ (lt : k < n). seek-least n 0 k (λ k. leads_in s n k i) (omega arith) (omega arith) e) (le-or-lt n k)

    pub fewest-legs : (i : ℕ) → i < n → Fewest s n i (fewest_legs s n i)
    fewest-legs i h = record {
      some = leads-choice (fewest_legs s n i) i (fewest-leads i h);
      least = λ l c. let r = choice-leads c in omega (arith, r.1, fewest-le i r.0 h r.2);
    }

    pub fewest-last : (i : ℕ) → suc i ≡ n → fewest_legs s n i ≡ 0
    fewest-last i e = omega (arith, fewest-le i 0 (omega arith) (leads-last i e))

    pub fewest-leg : (i j : ℕ) → Leg s n i j → fewest_legs s n i ≤ suc (fewest_legs s n j)
    fewest-leg i j l =
        fewest-le i (suc (fewest_legs s n j)) (omega (arith, l.later, l.within))
        (leads-step (fewest_legs s n j) i j l (fewest-leads j l.within))

    pub fewest-witness : (i : ℕ) → suc i < n → (j : ℕ) × Leg s n i j × (fewest_legs s n i ≡ suc (fewest_legs s n j))
    fewest-witness i l = from (fewest_legs s n i) refl
      where
        from : (k : ℕ) → fewest_legs s n i ≡ k → (j : ℕ) × Leg s n i j × (fewest_legs s n i ≡ suc (fewest_legs s n j))
        from zero e = let z = last-leads i (rw e at (fewest-leads i (omega arith))) in absurd (omega arith)
        from (suc k) e =
            let p = leads-first k i (rw e at (fewest-leads i (omega arith))) in
            let q = fewest-le p.0 k p.1.within p.2 in
            let r = fewest-leg i p.0 p.1 in
            (p.0, p.1, omega arith)
