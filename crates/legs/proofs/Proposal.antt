-- Every choice with the fewest legs is accepted, and so is our own proposal.
--
--   fewest-true        == a choice from 0 with the fewest legs, and the true numbers, are a true choice
--   choice-accepted    == the checker accepts them, in slices that are not refused
--   proposed-choice    == the proposed positions are a choice with the fewest legs
--   proposal-accepted  == where the proposer answers that c positions are kept, the checker accepts its two slices with
--                         c
--   refused-alike      == where the proposer refuses, the checker refuses the slices that it was lent, by the same
--                         refusal
use Prim.Native.Nat.{ℕ, zero, suc, ◌+◌, ◌≤◌, ◌<◌}
use mathlib.Core.Path.{◌≡◌, refl, sym, ap, ◌∙◌}
use mathlib.Core.Logic.{⊎_elim}
use mathlib.Core.Bool.{Bool, true}
use mathlib.Core.List.{List}
use native.Mathlib.Omega.{arith}
use lib.ListN.{length, get_or, take}
use lib.Seq.{take-append_seam}
use Rattle.std.proofs.Common.{Ok, Err}
use Rattle.basics.specs.Lists.{tabulate, padded}
use Rattle.basics.proofs.Order.{le-or-lt}
use Rattle.basics.proofs.Lists.{length-padded, get_or-padded, get_or-padded-past, length-tabulate, get_d_tabulate}
use Rattle.floor.specs.Refusals.{Shape, left_by}
use Rattle.floor.specs.declared.Refusal.{Refusal}
use Rattle.thinning.specs.Answer.{shape_answer}
use Rattle.thinning.specs.Known.{chain}
use Rattle.thinning.proofs.Recording.{chain_more, chain-end}
use Rattle.legs.specs.Choices.{Choice, last, leg, fewest_legs}
use Rattle.legs.specs.Answer.{legs_shape, check_answer, farthest_next, proposed_from, proposed}
use Rattle.legs.specs.Answer.{propose_answer, kept_left, legs_left}
use Rattle.legs.specs.Known.{sight_on}
use Rattle.legs.proofs.Fewest.{fewest-legs, fewest-last}
use Rattle.legs.proofs.Farthest.{farthest-is, proposed-chain}
use Rattle.legs.proofs.Shapes.{good-legs, joined-on}
use Rattle.legs.proofs.Answered.{check-refused}
use Rattle.legs.proofs.Accepted.{TrueChoice, choice-short, accepted-exact}

take-padded : (k : ℕ) (l : List ℕ) → take (length l) (padded k l) ≡ l
unfolding padded
take-padded k l = take-append_seam l _

module _ (s : ℕ → ℕ → Bool) (n : ℕ) (steady : (i : ℕ) → suc i < n → s i (suc i) ≡ true) where
  true-numbers : (k i : ℕ) → i < n → get_or (padded k (tabulate n (fewest_legs s n))) i 0 ≡ fewest_legs s n i
  true-numbers k i b =
      get_or-padded k i (tabulate n (fewest_legs s n)) (omega (arith, length-tabulate n (fewest_legs s n)))
      ∙ get_d_tabulate n i (fewest_legs s n) b

  pub fewest-true : (k m : ℕ) (l : List ℕ) → n ≤ k → 1 ≤ n → Choice s n 0 l → length l ≡ suc (fewest_legs s n 0)
      → TrueChoice s n (padded k l) (length l) (padded m (tabulate n (fewest_legs s n)))
  fewest-true k m l a b c e =
      let short : length l ≤ k = omega (arith, choice-short s n c) in
      record {
        within = omega (arith, length-padded k l short);
        choice = rw (take-padded k l) c;
        as_many = rw (true-numbers m 0 b) e;
        fewest = λ i h. rw (true-numbers m i h) (fewest-legs s n steady i h);
        kept_rest = λ i h _. get_or-padded-past k i l h;
        legs_rest = λ i h _. get_or-padded-past m i (tabulate n (fewest_legs s n))
            (omega (arith, length-tabulate n (fewest_legs s n)));
      }

  chain-choice : (c i : ℕ) → i < n → n ≤ i + c → (let l = chain (farthest_next s n) n c i in
      Choice s n i l × (length l ≡ suc (fewest_legs s n i)))
  chain-choice zero i a b = absurd (omega arith)
  chain-choice (suc c) i a b =
      ⊎_elim
      (λ (more : suc (suc i) ≤ n).
      let f = farthest-is s n steady i more in
      let r = chain-choice c (farthest_next s n i) f.leg.within (omega (arith, f.leg.later)) in
      rw (chain_more (farthest_next s n) n c i more) (leg f.leg r.0, ap suc (r.1 ∙ sym f.fewer)))
      (λ (end : n < suc (suc i)).
      let e : suc i ≡ n = omega arith in
      rw (chain-end (farthest_next s n) n c i (omega arith)) (last e, ap suc (sym (fewest-last s n steady i e))))
      (le-or-lt (suc (suc i)) n)

  pub proposed-choice : (c i : ℕ) → i < n → n ≤ i + c
      → Choice s n i (proposed_from s n c i) × (length (proposed_from s n c i) ≡ suc (fewest_legs s n i))
  proposed-choice c i a b = rw (← (proposed-chain s n c i)) (chain-choice c i a b)

module _ (w h : ℕ) (map list : List ℕ) (k m n : ℕ) where
  pub choice-accepted : legs_shape w h map list k m n ≡ Ok tt → (l : List ℕ) → Choice (sight_on w h map list) n 0 l
      → length l ≡ suc (fewest_legs (sight_on w h map list) n 0)
      → check_answer w h map list n (padded k l) (length l)
      (padded m (tabulate n (fewest_legs (sight_on w h map list) n))) ≡ Ok tt
  choice-accepted good l c e =
      let s = sight_on w h map list in
      let g = good-legs w h map list k m n good in
      let j = joined-on w h map list k m n g in
      let room : n ≤ length list = j.listed.within in
      let short : length l ≤ k = omega (arith, choice-short s n c, g.kept_same) in
      let size = length-padded k l short in
      let N = tabulate n (fewest_legs s n) in
      let numbers = length-padded m N (omega (arith, length-tabulate n (fewest_legs s n), g.legs-same)) in
      (accepted-exact w h map list n (padded k l) (length l) (padded m N)).1
      (rw (size, numbers) good, fewest-true s n j.sees k m l (omega (arith, g.kept_same)) j.some c e)

module _ (w h : ℕ) (map list kept legs : List ℕ) (n : ℕ) where
  pub proposal-accepted : (c : ℕ) → propose_answer w h map list kept legs n ≡ Ok c
      → check_answer w h map list n (kept_left w h map list kept legs n) c (legs_left w h map list kept legs n) ≡ Ok tt
  unfolding propose_answer kept_left legs_left proposed
  proposal-accepted c e = cases (legs_shape w h map list (length kept) (length legs) n) refl e
    where
      s : ℕ → ℕ → Bool
      s = sight_on w h map list

      cases : (t : Shape) → legs_shape w h map list (length kept) (length legs) n ≡ t
          → shape_answer t (length (proposed s n)) ≡ Ok c
          → check_answer w h map list n (left_by t (padded (length kept) (proposed s n)) kept) c
          (left_by t (padded (length legs) (tabulate n (fewest_legs s n))) legs) ≡ Ok tt
      cases (Ok z) q x =
          let g = good-legs w h map list (length kept) (length legs) n q in
          let j = joined-on w h map list (length kept) (length legs) n g in
          let p = proposed-choice s n j.sees n 0 j.some (omega arith) in
          let z : length (proposed_from s n n 0) ≡ c = cc in
          rw z at (choice-accepted w h map list (length kept) (length legs) n q (proposed s n) p.0 p.1)
      cases (Err r) q x = cc

  pub refused-alike : (r : Refusal) (c : ℕ) → propose_answer w h map list kept legs n ≡ Err r
      → check_answer w h map list n kept c legs ≡ Err r
  unfolding propose_answer
  refused-alike r c e = cases (legs_shape w h map list (length kept) (length legs) n) refl e
    where
      cases : (t : Shape) → legs_shape w h map list (length kept) (length legs) n ≡ t
          → shape_answer t (length (proposed (sight_on w h map list) n)) ≡ Err r
          → check_answer w h map list n kept c legs ≡ Err r
      cases (Ok z) q x = cc
      cases (Err p) q x =
          let same : p ≡ r = cc in sym (check-refused w h map list n kept c legs q) ∙ ap Err same
