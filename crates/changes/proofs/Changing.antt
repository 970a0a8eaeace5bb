-- The loop over the vertices: how each cost changed.
--
--   change-equal, change-from, change-to == the value of `change_of` where the costs are equal, and else where the first
--                              or the second is M
--   Writing c c' n end v l  == a loop over the places of l, n = end of them, is at v: the first v hold their changes
--   writing-none, writing_more, writing-done == `Writing` before the loop, after one vertex more, and at the end
--   filled-report           == the costs on both floors and their changes are what the report leaves
use Prim.Native.Nat.{ℕ, suc, ◌+◌, ◌≤◌, ◌<◌}
use mathlib.Core.Path.{◌≡◌, refl, ap, ap₂, ◌∙◌}
use mathlib.Core.Logic.{⊎_elim}
use mathlib.Core.List.{List}
use native.Mathlib.Omega.{arith}
use borrow.Author.Tests.{eq-eqb, ne_eqb}
use lib.ListN.{length, get_or, set, length-set}
use lib.Seq.{get_or-set_same, get_or-set_other}
use Rattle.basics.specs.Lists.{tabulate}
use Rattle.basics.proofs.Order.{le-or-lt}
use Rattle.basics.proofs.Lists.{get_d_tabulate, tabulate-of, tabulate-cong}
use Rattle.paths.specs.Graph.{Graph}
use Rattle.paths.specs.Distance.{unreachable, distance}
use Rattle.distances.specs.Costs.{FilledCosts}
use Rattle.changes.specs.Changes.{change_of, report_slices_of, costs_on}
use Rattle.changes.specs.Known.{change_at}

-- ---- one cost

module _ (x y : ℕ) where
  pub change-equal : x ≡ y → 0 ≡ change_of x y
  unfolding change_of
  change-equal e = rw (eq-eqb x y e)

  module _ (other : x ≡ y → ⊥) where
    pub change-from : x ≡ unreachable → 3 ≡ change_of x y
    unfolding change_of
    change-from e = rw (ne_eqb x y other, eq-eqb x unreachable e)

    module _ (from : x ≡ unreachable → ⊥) where
      pub change-to : y ≡ unreachable → 4 ≡ change_of x y
      unfolding change_of
      change-to e = rw (ne_eqb x y other, ne_eqb x unreachable from, eq-eqb y unreachable e)

-- ---- all vertices

pub record Writing (c c' : List ℕ) (n end v : ℕ) (l : List ℕ) : Type 0 where
  pub ends : end ≡ n
  pub first_len : length c ≡ n
  pub second_len : length c' ≡ n
  pub len : length l ≡ n
  pub within : v ≤ n
  pub at : (i : ℕ) → i < v → get_or l i 0 ≡ change_at c c' i

pub writing-none : {c c' : List ℕ} {n : ℕ} (l : List ℕ) → length c ≡ n → length c' ≡ n → length l ≡ n
    → Writing c c' n n 0 l
writing-none l e e' k = record {
  ends = refl;
  first_len = e;
  second_len = e';
  len = k;
  within = omega arith;
  at = λ i h. absurd (omega arith);
}

module _ {c c' : List ℕ} {n end v : ℕ} {l : List ℕ} (W : Writing c c' n end v l) where
  pub writing_more : {b : ℕ} → v < end → b ≡ change_at c c' v → Writing c c' n end (v + 1) (set l v b)
  writing_more {b} h e = record {
    ends = W.ends;
    first_len = W.first_len;
    second_len = W.second_len;
    len = simp length-set W.len;
    within = omega (arith, W.ends);
    at = λ i k. ⊎_elim
        (λ (lt : suc i ≤ v). get_or-set_other l v i b 0 (λ q. absurd (omega arith)) ∙ W.at i lt)
        (λ (ge : v < suc i).
        let q : i ≡ v = omega arith in
        rw q (get_or-set_same l v b 0 (omega (arith, W.len, W.ends)) ∙ e))
        (le-or-lt (suc i) v);
  }

  pub writing-done : end ≤ v → l ≡ tabulate n (change_at c c')
  writing-done h = tabulate-of n l (change_at c c') W.len (λ i k. W.at i (omega (arith, W.ends)))

-- ---- both floors

pub filled-report : {g g' : Graph} {a : ℕ} {c c' l k k' : List ℕ} → g'.size ≡ g.size → FilledCosts g a c k
    → FilledCosts g' a c' k' → l ≡ tabulate g.size (change_at c c') → report_slices_of c c' l k' ≡ costs_on g g' a
unfolding costs_on
filled-report {g} {g'} {a} {c} {c'} {l} e F F' w =
    let d = distance g a in
    let d' = distance g' a in
    let change : l ≡ tabulate g.size (λ v. change_of (d v) (d' v)) =
    w ∙ tabulate-cong g.size (change_at c c') (λ v. change_of (d v) (d' v)) (λ v i.
    ap₂ change_of (ap (λ s. get_or s v 0) F.costs ∙ get_d_tabulate g.size v d i)
    (ap (λ s. get_or s v 0) F'.costs ∙ get_d_tabulate g'.size v d' (omega arith))) in
    rw (F.costs, F'.costs, change, F'.clear, e)
