-- The test of one count by the sum over the neighbours, where the vertex is on the way and not the source: a sum that
-- does not fit 64 bits is no number of the slice.
use Prim.Native.Nat.{ℕ, ◌^◌, ◌<◌}
use mathlib.Core.Path.{◌≡◌, sym}
use mathlib.Core.Logic.{⊎_elim}
use mathlib.Core.Bool.{Bool, true}
use native.Mathlib.Omega.{arith}
use borrow.Author.Tests.{eq-eqb, ne_eqb, eqb-true}
use lib.Dec.{eqb}
use Rattle.std.specs.Option.{option_eq}
use Rattle.std.specs.Prelude.{Some}
use Rattle.basics.proofs.Bools.{iff-eq}
use Rattle.basics.proofs.Order.{le-or-lt}
use Rattle.paths.specs.Graph.{Graph}
use Rattle.paths.specs.Local.{inflow, count_at}
use Rattle.paths.proofs.CountTest.{count_at-other}
use Rattle.neighbours.specs.Reading.{sum_of}
use Rattle.neighbours.proofs.Sums.{sum_of-fits, sum_of-over}

module _ (g : Graph) (a : ℕ) (on : Bool) (D F : ℕ → ℕ) (v : ℕ) (e : on ≡ true) (ne : v ≡ a → ⊥)
    (fits : F v < 2 ^ 64) where
  abbrev x : ℕ
  x = inflow g D F v

  turned : eqb x (F v) ≡ eqb (F v) x
  turned = iff-eq (eqb x (F v)) (eqb (F v) x) (λ t. eq-eqb (F v) x (sym (eqb-true x (F v) t)))
      (λ t. eq-eqb x (F v) (sym (eqb-true (F v) x t)))

  pub count-found : option_eq eqb (sum_of x) (Some (F v)) ≡ eqb (F v) (count_at g a (λ u. on) D F v)
  count-found = rw (count_at-other g a (λ u. on) D F v e ne) (⊎_elim
      (λ over. rw (sym (sum_of-over x over)) (sym (ne_eqb (F v) x (λ z. omega arith))))
      (λ low. rw (sym (sum_of-fits x low)) turned) (le-or-lt (2 ^ 64) x))
