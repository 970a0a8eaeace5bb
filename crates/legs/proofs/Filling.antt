-- The loop that fills the numbers of legs from the last position on.
--
--   Filling s n k i l == of the k places of l those from i to n - 1 have the fewest legs, and those past n have 0
--   filled-right      == what a slice has that is filled
--   cleared-length    == the length of a slice that is cleared
use Prim.Native.Nat.{ℕ, suc, ◌≤◌, ◌<◌}
use mathlib.Core.Path.{◌≡◌, refl, sym, ap, ◌∙◌}
use mathlib.Core.Logic.{⊎_elim}
use mathlib.Core.Bool.{Bool, true}
use mathlib.Core.List.{List}
use native.Mathlib.Omega.{arith}
use lib.ListN.{length, get_or, set, length-set, length-replicate}
use lib.Seq.{get_or-set_same, get_or-set_other}
use Rattle.basics.specs.Lists.{tabulate, padded, zeros}
use Rattle.basics.proofs.Order.{eq-or-ne}
use Rattle.basics.proofs.Lists.{get_or-zeros, padded-of, get_or-padded}
use Rattle.basics.proofs.Lists.{length-tabulate, get_d_tabulate}
use Rattle.legs.specs.Choices.{fewest_legs}
use Rattle.legs.specs.Known.{RightFrom, Filled}
use Rattle.legs.proofs.Fewest.{fewest-last}

cleared-length : (k : ℕ) (l : List ℕ) → l ≡ zeros k → length l ≡ k
cleared-length k l e = ap length e ∙ length-replicate k 0

pub record Filling (s : ℕ → ℕ → Bool) (n k i : ℕ) (l : List ℕ) : Type 0 where
  pub size : length l ≡ k
  pub fits : n ≤ k
  pub inside : i < n
  pub right : RightFrom s n l i
  pub past : (j : ℕ) → n ≤ j → get_or l j 0 ≡ 0

module _ (s : ℕ → ℕ → Bool) (n k : ℕ) where
  pub filling-first : ((j : ℕ) → suc j < n → s j (suc j) ≡ true) → (l : List ℕ) → l ≡ zeros k → n ≤ k → (i : ℕ)
      → suc i ≡ n
      → Filling s n (length l) i l
  filling-first steady l e a i d = record {
    size = refl;
    fits = omega (arith, cleared-length k l e);
    inside = omega arith;
    right = λ j b c. rw e (get_or-zeros k j ∙ sym (fewest-last s n steady j (omega arith)));
    past = λ j b. rw e (get_or-zeros k j);
  }

  pub filling-more : (i m x : ℕ) (l : List ℕ) → Filling s n k i l → suc m ≡ i → x ≡ fewest_legs s n m
      → Filling s n k m (set l m x)
  filling-more i m x l h e q = record {
    size = length-set l m x ∙ h.size;
    fits = h.fits;
    inside = omega (arith, h.inside);
    right = λ j a b. ⊎_elim
        (λ (z : j ≡ m). rw z (get_or-set_same l m x 0 (omega (arith, h.size, h.fits, h.inside)) ∙ q))
        (λ ne. get_or-set_other l m j x 0 ne ∙ h.right j (omega arith) b) (eq-or-ne j m);
    past = λ j a. get_or-set_other l m j x 0 (λ z. omega (arith, h.inside)) ∙ h.past j a;
  }

  pub filling-done : (i : ℕ) (l : List ℕ) → Filling s n k i l → i ≤ 0 → l ≡ padded k (tabulate n (fewest_legs s n))
  filling-done i l h z =
      let t = length-tabulate n (fewest_legs s n) in
      padded-of k l (tabulate n (fewest_legs s n)) h.size (omega (arith, h.fits))
      (λ j b. h.right j (omega arith) (omega arith) ∙ sym (get_d_tabulate n j (fewest_legs s n) (omega arith)))
      (λ j b _. h.past j (omega arith))

pub filled-right : {s : ℕ → ℕ → Bool} {n : ℕ} {l l' : List ℕ} → Filled s n l l' → n ≤ length l → RightFrom s n l' 0
filled-right {s} {n} {l} f a k _ b =
    let N = fewest_legs s n in
    rw f.output
    (get_or-padded (length l) k (tabulate n N) (omega (arith, length-tabulate n N)) ∙ get_d_tabulate n k N b)
