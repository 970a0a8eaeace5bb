-- What the checker accepts, in the request's own words.
--
--   Points s n i l       == the positions l, by their places: they start with i, end with n - 1, and from each to the
--                           next is a leg
--   points-choice, choice-points == `Points` are the rising clear choices, `Choice`
--   choice-short         == a choice from i has at most n - i positions
--   TrueChoice s n kept c legs == the first c positions of `kept` are a rising clear choice from 0 to the last, with as
--                           many legs as the number at position 0; the first n numbers of `legs` are the fewest legs
--                           over all choices; the other places of both slices have 0
--   true-exact           == `true_choice` says just that
--   accepted-exact       == the checker accepts exactly where nothing is refused and the choice is such
use Prim.Native.Nat.{ℕ, zero, suc, pred, ◌+◌, ◌≤◌, ◌<◌}
use mathlib.Core.Path.{◌≡◌, refl, sym, ap, ◌∙◌}
use mathlib.Core.Logic.{⊎_elim, ◌↔◌}
use mathlib.Core.Bool.{Bool, true}
use mathlib.Core.List.{List, [], ◌∷◌}
use native.Mathlib.Omega.{arith}
use borrow.Author.Tests.{eqb-true, eq-eqb, ltb-true, lt-ltb}
use lib.Dec.{ltb, eqb}
use lib.ListN.{length, get_or, take}
use lib.Seq.{length-take-le, get_or-take}
use Rattle.std.proofs.Common.{Ok, Err}
use Rattle.basics.specs.Bounded.{pick}
use Rattle.basics.proofs.Order.{le-or-lt}
use Rattle.basics.proofs.Bools.{and_both, or_left, or_right, or_cases}
use Rattle.basics.proofs.Bounded.{every-all, every-at}
use Rattle.floor.specs.declared.Refusal.TheVariants.{FalseChoice}
use Rattle.floor.proofs.Shapes.{good-first, good-second, good-pick}
use Rattle.legs.specs.Choices.{Leg, Choice, last, leg, Fewest, is_leg, fewest_legs}
use Rattle.legs.specs.Answer.{legs_shape, kept_right, numbers_right, zero_from, true_choice, check_answer}
use Rattle.legs.specs.Known.{sight_on}
use Rattle.legs.proofs.Fewest.{leg-cases, leg-at, fewest-legs, fewest-one}
use Rattle.legs.proofs.Tests.{zero_at, KeptParts, kept-parts, kept_whole, choice-numbers}
use Rattle.legs.proofs.Shapes.{good-legs, joined-on}
use Rattle.legs.proofs.Answered.{check-true}

module _ (s : ℕ → ℕ → Bool) (n : ℕ) where
  -- ---- choices by their places

  pub record Points (i : ℕ) (l : List ℕ) : Type 0 where
    pub some : 1 ≤ length l
    pub starts : get_or l 0 0 ≡ i
    pub ends : suc (get_or l (pred (length l)) 0) ≡ n
    pub legs : (k : ℕ) → suc k < length l → Leg s n (get_or l k 0) (get_or l (suc k) 0)

  pub points-choice : (l : List ℕ) (i : ℕ) → Points i l → Choice s n i l
  points-choice [] i p = absurd (omega (arith, p.some))
  points-choice (x ∷ []) i p = rw (← p.starts) (last p.ends)
  points-choice (x ∷ y ∷ l) i p =
      rw (← p.starts)
      (leg (p.legs 0 (omega arith)) (points-choice (y ∷ l) y record {
        some = omega arith;
        starts = refl;
        ends = p.ends;
        legs = λ k b. p.legs (suc k) (omega arith);
      }))

  pub choice-points : {i : ℕ} {l : List ℕ} → Choice s n i l → Points i l
  choice-points (last e) =
      record { some = omega arith; starts = refl; ends = e; legs = λ k b. absurd (omega arith) }
  choice-points (leg {i} {j} {l} h c) = more l h (choice-points c)
    where
      more : (l : List ℕ) → Leg s n i j → Points j l → Points i (i ∷ l)
      more [] h p = absurd (omega (arith, p.some))
      more (x ∷ l) h p = record { some = omega arith; starts = refl; ends = p.ends; legs = later }
        where
          later : (k : ℕ) → suc k < length (i ∷ x ∷ l) → Leg s n (get_or (i ∷ x ∷ l) k 0) (get_or (i ∷ x ∷ l) (suc k) 0)
          later zero b = rw p.starts h
          later (suc k) b = p.legs k (omega arith)

  pub choice-short : {i : ℕ} {l : List ℕ} → Choice s n i l → i + length l ≤ n
  choice-short (last e) = omega arith
  choice-short (leg h c) = omega (arith, h.later, choice-short c)

  -- The kept positions of a slice.
  kept-points : (l : List ℕ) (c : ℕ) → KeptParts s n l c → Points 0 (take c l)
  kept-points l c k =
      let e = length-take-le c l k.within in
      record {
        some = omega (arith, k.some);
        starts = get_or-take c l 0 0 k.some ∙ k.starts;
        ends = rw e (ap suc (get_or-take c l (pred c) 0 (omega (arith, k.some))) ∙ k.ends);
        legs = λ m b.
            rw (get_or-take c l m 0 (omega arith), get_or-take c l (suc m) 0 (omega arith))
            (leg-cases s n (get_or l m 0) (get_or l (suc m) 0)
            (every-at (pred c) (λ k. is_leg s n (get_or l k 0) (get_or l (suc k) 0)) k.legs m (omega arith)));
      }

  points_kept : (l : List ℕ) (c : ℕ) → c ≤ length l → Points 0 (take c l) → KeptParts s n l c
  points_kept l c a p =
      let e = length-take-le c l a in
      let some : 1 ≤ c = omega (arith, p.some) in
      record {
        some = some;
        within = a;
        starts = sym (get_or-take c l 0 0 some) ∙ p.starts;
        ends = ap suc (sym (get_or-take c l (pred c) 0 (omega arith))) ∙ (rw e at p.ends);
        legs = every-all (pred c) _ (λ m b. leg-at s n (get_or l m 0) (get_or l (suc m) 0)
            (rw (get_or-take c l m 0 (omega arith), get_or-take c l (suc m) 0 (omega arith)) at (p.legs m (omega arith))));
      }

  -- ---- what is accepted

  pub record TrueChoice (kept : List ℕ) (c : ℕ) (legs : List ℕ) : Type 0 where
    pub within : c ≤ length kept
    pub choice : Choice s n 0 (take c kept)
    pub as_many : c ≡ suc (get_or legs 0 0)
    pub fewest : (i : ℕ) → i < n → Fewest s n i (get_or legs i 0)
    pub kept_rest : (k : ℕ) → c ≤ k → k < length kept → get_or kept k 0 ≡ 0
    pub legs_rest : (k : ℕ) → n ≤ k → k < length legs → get_or legs k 0 ≡ 0

  zero-at : (k : ℕ) (l : List ℕ) → zero_from k l ≡ true → (i : ℕ) → k ≤ i → i < length l → get_or l i 0 ≡ 0
  unfolding zero_from
  zero-at k l e i a b =
      ⊎_elim (λ t. absurd (omega (arith, ltb-true i k t))) (λ t. eqb-true (get_or l i 0) 0 t)
      (or_cases (ltb i k) _ (every-at (length l) (zero_at k l) e i b))

  zero-all : (k : ℕ) (l : List ℕ) → ((i : ℕ) → k ≤ i → i < length l → get_or l i 0 ≡ 0) → zero_from k l ≡ true
  unfolding zero_from
  zero-all k l z = every-all (length l) (zero_at k l) (λ i b.
      ⊎_elim (λ (a : k ≤ i). or_right (ltb i k) _ (eq-eqb (get_or l i 0) 0 (z i a b)))
      (λ (a : i < k). or_left (ltb i k) _ (lt-ltb i k a)) (le-or-lt k i))

  module _ (steady : (i : ℕ) → suc i < n → s i (suc i) ≡ true) where
    numbers-fewest : (l : List ℕ) → numbers_right s n l ≡ true → (i : ℕ) → i < n → Fewest s n i (get_or l i 0)
    unfolding numbers_right
    numbers-fewest l e i b =
        let q = eqb-true (get_or l i 0) (fewest_legs s n i)
        (every-at n (λ i. eqb (get_or l i 0) (fewest_legs s n i)) e i b) in
        rw q (fewest-legs s n steady i b)

    fewest-numbers : (l : List ℕ) → ((i : ℕ) → i < n → Fewest s n i (get_or l i 0)) → numbers_right s n l ≡ true
    unfolding numbers_right
    fewest-numbers l f =
        every-all n _ (λ i b. eq-eqb (get_or l i 0) (fewest_legs s n i)
        (fewest-one s n i (get_or l i 0) (fewest_legs s n i) (f i b) (fewest-legs s n steady i b)))

    true-parts : (kept : List ℕ) (c : ℕ) (legs : List ℕ) → true_choice s n kept c legs ≡ true → TrueChoice kept c legs
    unfolding true_choice
    true-parts kept c legs e =
        let p = and_both (kept_right s n kept c) _ e in
        let q = and_both (eqb c (suc (get_or legs 0 0))) _ p.1 in
        let r = and_both (zero_from c kept) _ q.1 in
        let t = and_both (zero_from n legs) (numbers_right s n legs) r.1 in
        let k = kept-parts s n kept c p.0 in
        record {
          within = k.within;
          choice = points-choice (take c kept) 0 (kept-points kept c k);
          as_many = eqb-true c (suc (get_or legs 0 0)) q.0;
          fewest = numbers-fewest legs t.1;
          kept_rest = zero-at c kept r.0;
          legs_rest = zero-at n legs t.0;
        }

    true-whole : (kept : List ℕ) (c : ℕ) (legs : List ℕ) → TrueChoice kept c legs → true_choice s n kept c legs ≡ true
    true-whole kept c legs t =
        sym (choice-numbers s n kept c legs
        (kept_whole s n kept c (points_kept kept c t.within (choice-points t.choice))) t.as_many
        (zero-all c kept t.kept_rest) (zero-all n legs t.legs_rest))
        ∙ fewest-numbers legs t.fewest

    pub true-exact : (kept : List ℕ) (c : ℕ) (legs : List ℕ)
        → (true_choice s n kept c legs ≡ true) ↔ TrueChoice kept c legs
    true-exact kept c legs = (true-parts kept c legs, true-whole kept c legs)

module _ (w h : ℕ) (map list : List ℕ) (n : ℕ) (kept : List ℕ) (c : ℕ) (legs : List ℕ) where
  accepted-parts : check_answer w h map list n kept c legs ≡ Ok tt
      → (legs_shape w h map list (length kept) (length legs) n ≡ Ok tt) × TrueChoice (sight_on w h map list) n kept c legs
  unfolding check_answer
  accepted-parts e =
      let shape = legs_shape w h map list (length kept) (length legs) n in
      let test = true_choice (sight_on w h map list) n kept c legs in
      let x = good-first shape (pick test (Ok tt) (Err FalseChoice)) e in
      let y = good-second shape (pick test (Ok tt) (Err FalseChoice)) e in
      let g = good-legs w h map list (length kept) (length legs) n x in
      let j = joined-on w h map list (length kept) (length legs) n g in
      (x, true-parts (sight_on w h map list) n j.sees kept c legs (good-pick FalseChoice test y))

  accepted-whole : (legs_shape w h map list (length kept) (length legs) n ≡ Ok tt)
      × TrueChoice (sight_on w h map list) n kept c legs
      → check_answer w h map list n kept c legs ≡ Ok tt
  accepted-whole p =
      let g = good-legs w h map list (length kept) (length legs) n p.0 in
      let j = joined-on w h map list (length kept) (length legs) n g in
      let t = true-whole (sight_on w h map list) n j.sees kept c legs p.1 in
      sym (check-true w h map list n kept c legs p.0 t)

  pub accepted-exact : (check_answer w h map list n kept c legs ≡ Ok tt)
      ↔ ((legs_shape w h map list (length kept) (length legs) n ≡ Ok tt)
      × TrueChoice (sight_on w h map list) n kept c legs)
  accepted-exact = (accepted-parts, accepted-whole)
