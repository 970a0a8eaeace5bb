-- A test or a number that reads the moves of one vertex v alone is the same on two graphs that agree at v.
--
--   Agrees g h v   == the graphs have the same moves at the same costs, and each leads from v to the same vertex
--   leads-cong     == where `candidate` is the same on two graphs at v, `Leads` on the first is `Leads` on the second
use Prim.Native.Nat.{ℕ, zero, suc, ◌+◌, ◌<◌}
use mathlib.Core.Path.{◌≡◌, refl, sym, ap, ap₂, ◌∙◌}
use mathlib.Core.Bool.{Bool, true, false, ◌&&◌, ◌||◌}
use mathlib.Core.Option.{Option, none, some}
use native.Mathlib.Omega.{arith}
use lib.Dec.{eqb}
use Rattle.basics.specs.Bounded.{every, any, sum}
use Rattle.basics.proofs.Bounded.{every-cong}
use Rattle.basics.proofs.Sums.{sum-cong}
use Rattle.paths.specs.Graph.{Graph}
use Rattle.paths.specs.Route.{candidate, better, best, next_vertex}
use Rattle.paths.specs.Onward.{Leads}
use Rattle.paths.specs.Local.{tight, inflow, count_at}
use Rattle.neighbours.specs.Reading.{tight_by, inflow_by}
use Rattle.neighbours.specs.Least.{relaxed_by, relaxed_in, right_cost_in}

pub record Agrees (g h : Graph) (v : ℕ) : Type 0 where
  pub moves : g.moves ≡ h.moves
  pub cost : (m : ℕ) → m < g.moves → g.cost m ≡ h.cost m
  pub step : (m : ℕ) → m < g.moves → g.step m v ≡ h.step m v

pub any-cong : (n : ℕ) (p q : ℕ → Bool) → ((k : ℕ) → k < n → p k ≡ q k) → any n p ≡ any n q
unfolding any
any-cong zero p q h = refl
any-cong (suc n) p q h = ap₂ ◌||◌ (any-cong n p q (λ k l. h k (omega arith))) (h n (omega arith))

pub best-cong : (T : ℕ → ℕ) (n : ℕ) (c e : ℕ → Option ℕ) → ((k : ℕ) → k < n → c k ≡ e k) → best T c n ≡ best T e n
unfolding best
best-cong T zero c e h = refl
best-cong T (suc n) c e h = ap₂ (better T) (best-cong T n c e (λ k l. h k (omega arith))) (h n (omega arith))

pub leads-cong : {g h : Graph} {on : ℕ → Bool} {D T : ℕ → ℕ} {b v : ℕ} → g.moves ≡ h.moves
    → ((m : ℕ) → m < g.moves → candidate g on D v m ≡ candidate h on D v m) → Leads g on D T b v → Leads h on D T b v
leads-cong moves same k = record {
  onward = λ o ne.
      let r = k.onward o ne in
      record {
        move = r.move;
        to = r.to;
        below = omega (arith, r.below);
        leads = sym (same r.move r.below) ∙ r.leads;
        counted = r.counted;
      };
}

-- `candidate` by the far end and the cost of the move.
abbrev chosen : (ℕ → Bool) → (ℕ → ℕ) → ℕ → Option ℕ → ℕ → Option ℕ
chosen on D v o c = elim o [
  | none ↦ none
  | some w ↦ elim
      (on w && eqb (D w) (D v + c)) [ true ↦ some w | false ↦ none ]
]

module _ {g h : Graph} {v : ℕ} (s : Agrees g h v) (D : ℕ → ℕ) where
  pub relaxed_in-agrees : relaxed_in g D v ≡ relaxed_in h D v
  unfolding relaxed_in relaxed_by
  relaxed_in-agrees =
      every-cong g.moves (relaxed_by g D v) (relaxed_by h D v) (λ m l. rw (s.step m l, s.cost m l))
      ∙ ap (λ (n : ℕ). every n (relaxed_by h D v)) s.moves

  pub tight-agrees : tight g D v ≡ tight h D v
  unfolding tight tight_by
  tight-agrees =
      any-cong g.moves (tight_by g D v) (tight_by h D v) (λ m l. rw (s.step m l, s.cost m l))
      ∙ ap (λ (n : ℕ). any n (tight_by h D v)) s.moves

  pub right_cost_in-agrees : (a : ℕ) → right_cost_in g a D v ≡ right_cost_in h a D v
  unfolding right_cost_in
  right_cost_in-agrees a = rw (relaxed_in-agrees, tight-agrees)

  pub inflow-agrees : (F : ℕ → ℕ) → inflow g D F v ≡ inflow h D F v
  unfolding inflow inflow_by
  inflow-agrees F =
      sum-cong g.moves (inflow_by g D F v) (inflow_by h D F v) (λ m l. rw (s.step m l, s.cost m l))
      ∙ ap (λ (n : ℕ). sum n (inflow_by h D F v)) s.moves

  pub count_at-agrees : (a : ℕ) (on : ℕ → Bool) (F : ℕ → ℕ) → count_at g a on D F v ≡ count_at h a on D F v
  unfolding count_at
  count_at-agrees a on F = rw (inflow-agrees F)

  candidate-agrees : (on : ℕ → Bool) (m : ℕ) → m < g.moves → candidate g on D v m ≡ candidate h on D v m
  unfolding candidate
  candidate-agrees on m l = ap₂ (chosen on D v) (s.step m l) (s.cost m l)

  pub next_vertex-agrees : (on : ℕ → Bool) (T : ℕ → ℕ) → next_vertex g on D T v ≡ next_vertex h on D T v
  unfolding next_vertex
  next_vertex-agrees on T =
      best-cong T g.moves (candidate g on D v) (candidate h on D v) (candidate-agrees on)
      ∙ ap (best T (candidate h on D v)) s.moves

  pub leads-agrees : {on : ℕ → Bool} {T : ℕ → ℕ} {b : ℕ} → Leads h on D T b v → Leads g on D T b v
  leads-agrees {on} = leads-cong (sym s.moves) (λ m l. sym (candidate-agrees on m (omega (arith, s.moves))))
