-- A loop over the moves of a vertex that sums the counts of its neighbours.
--
--   SumScan g D F v k s   == s is what the first k moves from v add to `inflow`, and fits 64 bits
use Prim.Native.Nat.{ℕ, ◌+◌, ◌^◌, ◌≤◌, ◌<◌}
use mathlib.Core.Path.{◌≡◌, refl, ap, ◌∙◌}
use mathlib.Core.Logic.{⊎_elim}
use mathlib.Core.Option.{none, some}
use native.Mathlib.Omega.{arith}
use Rattle.std.specs.Prelude.{Some, None}
use borrow.Author.Tests.{lt-ltb, le-ltb}
use Rattle.basics.specs.Bounded.{sum}
use Rattle.basics.proofs.Order.{le-or-lt}
use Rattle.basics.proofs.Sums.{sum-next, sum-prefix}
use Rattle.paths.specs.Graph.{Graph}
use Rattle.paths.specs.Local.{given, inflow}
use Rattle.paths.proofs.Neighbours.{when-yes, when-no}
use Rattle.neighbours.specs.Reading.{inflow_by, sum_of}

pub sum_of-fits : (x : ℕ) → x < 2 ^ 64 → Some x ≡ sum_of x
unfolding sum_of
sum_of-fits x l = rw (lt-ltb x (2 ^ 64) l)

pub sum_of-over : (x : ℕ) → 2 ^ 64 ≤ x → None ≡ sum_of x
unfolding sum_of
sum_of-over x l = rw (le-ltb x (2 ^ 64) l)

-- A sum that the code answers is the sum itself, and fits 64 bits.
pub sum_of-is : (x s : ℕ) → sum_of x ≡ Some s → x ≡ s
sum_of-is x s e = ⊎_elim (λ over. let z = sum_of-over x over in cc)
    (λ fits. let z = sum_of-fits x fits in cc) (le-or-lt (2 ^ 64) x)

pub sum_of-passes : (x : ℕ) → sum_of x ≡ None → 2 ^ 64 ≤ x
sum_of-passes x e = ⊎_elim (λ over. over)
    (λ fits. let z = sum_of-fits x fits in cc) (le-or-lt (2 ^ 64) x)

pub record SumScan (g : Graph) (D F : ℕ → ℕ) (v k s : ℕ) : Type 0 where
  pub within : k ≤ g.moves
  pub is : s ≡ sum k (inflow_by g D F v)
  pub fits : s < 2 ^ 64

module _ {g : Graph} {D F : ℕ → ℕ} {v : ℕ} where
  pub sum-start : SumScan g D F v 0 0
  unfolding sum
  sum-start = record { within = omega arith; is = refl; fits = omega arith }

  more : {k s : ℕ} (x : ℕ) → SumScan g D F v k s → k < g.moves → inflow_by g D F v k ≡ x → s + x < 2 ^ 64
      → SumScan g D F v (k + 1) (s + x)
  more {k} {s} x h l e fits = record {
    within = omega arith;
    is = omega (arith, sum-next k (inflow_by g D F v), h.is);
    fits = fits;
  }

  nothing : {k s : ℕ} → SumScan g D F v k s → k < g.moves → inflow_by g D F v k ≡ 0 → SumScan g D F v (k + 1) s
  nothing {k} {s} h l e = let q : s + 0 ≡ s = omega arith in rw q at (more 0 h l e (omega (arith, h.fits)))

  pub sum-off : {k s : ℕ} → SumScan g D F v k s → k < g.moves → g.step k v ≡ none → SumScan g D F v (k + 1) s
  unfolding inflow_by given
  sum-off h l e = nothing h l (rw (e, inflow_by))

  module _ {k s : ℕ} (w : ℕ) (h : SumScan g D F v k s) (l : k < g.moves) (goes : g.step k v ≡ some w) where
    pub sum-slack : (D w + g.cost k ≡ D v → ⊥) → SumScan g D F v (k + 1) s
    unfolding inflow_by given
    sum-slack ne = nothing h l (rw (goes, inflow_by) (when-no (D w + g.cost k) (D v) (F w) ne))

    module _ (adds_up : D w + g.cost k ≡ D v) where
      adds : inflow_by g D F v k ≡ F w
      unfolding inflow_by given
      adds = rw (goes, inflow_by) (when-yes (D w + g.cost k) (D v) (F w) adds_up)

      pub sum-tight : s + F w < 2 ^ 64 → SumScan g D F v (k + 1) (s + F w)
      sum-tight fits = more (F w) h l adds fits

      pub sum-passes : 2 ^ 64 ≤ s + F w → None ≡ sum_of (inflow g D F v)
      unfolding inflow inflow_by
      sum-passes over =
          sum_of-over (inflow g D F v)
          (omega (
            arith,
            adds,
            h.is,
            sum-next k (inflow_by g D F v),
            sum-prefix (k + 1) g.moves (inflow_by g D F v) (omega arith),
          ))

  pub sum-end : {k s : ℕ} → SumScan g D F v k s → g.moves ≤ k → Some s ≡ sum_of (inflow g D F v)
  unfolding inflow inflow_by
  sum-end {k} {s} h l =
      let e : k ≡ g.moves = omega (arith, h.within) in
      let q : s ≡ inflow g D F v = h.is ∙ ap (λ (n : ℕ). sum n (inflow_by g D F v)) e in
      rw q (sum_of-fits (inflow g D F v) (omega (arith, h.fits)))
