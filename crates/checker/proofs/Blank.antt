-- Places of a list that are 0.
--
--   all-push    == `list_all` of a list with one element more
--   zeros-range == `list_all` says of places i to j - 1 of a list whether they are 0
use Prim.Native.Nat.{ℕ, ◌+◌, ◌-◌, ◌≤◌}
use mathlib.Core.Path.{◌≡◌, sym, ap, ◌∙◌}
use mathlib.Core.Logic.{◌↔◌}
use mathlib.Core.Bool.{Bool, true, ◌&&◌, and-true}
use mathlib.Core.List.{List, [], ◌∷◌, ◌++◌}
use native.Mathlib.Omega.{arith}
use borrow.Author.Tests.{eqb-true, eq-eqb}
use lib.Dec.{eqb}
use lib.ListN.{length, get_or, take, drop}
use Rattle.std.specs.List.{list_all}
use Rattle.std.proofs.lemmas.List.{get_or-drop, length-drop}
use Rattle.std.proofs.lemmas.List.Folds.{list_all-append}
use Rattle.basics.specs.Bounded.{every}
use Rattle.basics.proofs.Bounded.{every-all, every-at}
use Rattle.basics.proofs.Every.{all-front}
use Rattle.checker.specs.Tests.{Zeros}

pub all-push : (t : ℕ → Bool) (l : List ℕ) (x : ℕ) → list_all t (l ++ (x ∷ [])) ≡ (list_all t l && t x)
all-push t l x = list_all-append t l (x ∷ []) ∙ ap (λ b. list_all t l && b) (and-true (t x))

pub zeros-range : (l : List ℕ) (i j : ℕ) → i ≤ j → j ≤ length l
    → (list_all (λ x. eqb x 0) (take (j - i) (drop i l)) ≡ true) ↔ Zeros l i j
zeros-range l i j p q = (
  λ t. record {
    at = λ k ge lt.
        let e : i + (k - i) ≡ k = omega arith in
        let z = eqb-true (get_or (drop i l) (k - i) 0) 0 (every-at (j - i) here (sym said ∙ t) (k - i) (omega arith)) in
        rw e at (sym (get_or-drop i l (k - i) 0) ∙ z);
  },
  λ z. said ∙ every-all (j - i) here (λ k b.
      eq-eqb (get_or (drop i l) k 0) 0 (get_or-drop i l k 0 ∙ z.at (i + k) (omega arith) (omega arith))),
)
  where
    here : ℕ → Bool
    here k = eqb (get_or (drop i l) k 0) 0

    said : list_all (λ x. eqb x 0) (take (j - i) (drop i l)) ≡ every (j - i) here
    said = all-front (λ x. eqb x 0) (j - i) (drop i l) (omega (arith, length-drop i l))
