-- A graph h has the moves of g, and others that lead to dead ends only: vertices that no move leaves. The tests of
-- costs and counts over all vertices then say the same on both.
--
--   HalfOf P g h a         == h has the moves of g, and others only to vertices w with P w, which no move of h leaves;
--                             P a is false
--   right-small            == a cost that passes the test is at most `unreachable`
--   far-of, half-far       == where every cost passes the test on g, or on h, the vertices w with P w are unreached
--   half-costs             == the test of every cost is the same on g and on h
--   counts-half, next-half == `count_at` and `next_vertex` are the same on g and on h, where the vertices w with P w
--                             are unreached
--   leads-half             == `Leads` on g is `Leads` on h, where the vertices w with P w are unreached
use Prim.Native.Nat.{ℕ, zero, suc, ◌+◌, ◌≤◌, ◌<◌}
use mathlib.Core.Path.{◌≡◌, refl, sym, ap, ◌∙◌}
use mathlib.Core.Bool.{Bool, true, false, ◌&&◌, ◌||◌}
use mathlib.Core.Logic.{◌⊎◌, ⊎_elim}
use mathlib.Core.Option.{Option, none, some}
use native.Mathlib.Omega.{arith}
use borrow.Author.Tests.{leb-true, le-leb, eqb-true, ne_eqb}
use lib.Dec.{leb, eqb}
use Rattle.basics.specs.Bounded.{every, any, sum}
use Rattle.basics.proofs.Bools.{iff-eq, and_left, and_right, or_cases, true-or-false, not-both}
use Rattle.basics.proofs.Bounded.{every-all, every-at, every-cong}
use Rattle.basics.proofs.Sums.{sum-cong}
use Rattle.paths.specs.Graph.{Graph}
use Rattle.paths.specs.Distance.{unreachable}
use Rattle.paths.specs.Route.{candidate, best, next_vertex}
use Rattle.paths.specs.Onward.{Leads}
use Rattle.paths.specs.Local.{given, if-there, is-there, when-eq, tight, inflow, count_at}
use Rattle.paths.proofs.Neighbours.{when-no}
use Rattle.neighbours.specs.Reading.{tight_by, inflow_by}
use Rattle.neighbours.proofs.Agree.{any-cong, best-cong, leads-cong}
use Rattle.neighbours.specs.Least.{relaxed_by, relaxed_in, right_cost_in}

pub record HalfOf (P : ℕ → Bool) (g h : Graph) (a : ℕ) : Type 0 where
  pub size : h.size ≡ g.size
  pub moves : h.moves ≡ g.moves
  pub cost : (m : ℕ) → m < g.moves → h.cost m ≡ g.cost m
  pub low : (m : ℕ) → m < g.moves → 1 ≤ g.cost m
  pub inside : (m v w : ℕ) → m < g.moves → v < g.size → h.step m v ≡ some w → w < g.size
  -- where h has no step, g has none; a step of h is one of g, or leads to a vertex that has P
  pub shut : (m v : ℕ) → m < g.moves → v < g.size → h.step m v ≡ none → g.step m v ≡ none
  pub leads : (m v w : ℕ) → m < g.moves → v < g.size → h.step m v ≡ some w
      → (g.step m v ≡ some w) ⊎ ((g.step m v ≡ none) × (P w ≡ true))
  pub none_from : (m w : ℕ) → m < g.moves → w < g.size → P w ≡ true → h.step m w ≡ none
  pub source : P a ≡ false

any_none : (n : ℕ) (p : ℕ → Bool) → ((k : ℕ) → k < n → p k ≡ false) → any n p ≡ false
unfolding any
any_none zero p e = refl
any_none (suc n) p e = rw (any_none n p (λ k l. e k (omega arith)), e n (omega arith))

pub right-small : (g : Graph) (a : ℕ) (D : ℕ → ℕ) (v : ℕ) → right_cost_in g a D v ≡ true → D v ≤ unreachable
unfolding right_cost_in
right-small g a D v t = leb-true (D v) unreachable (and_left (leb (D v) unreachable) _ t)

module _ {P : ℕ → Bool} {g h : Graph} {a : ℕ} (H : HalfOf P g h a) (D : ℕ → ℕ) where
  -- A vertex other than the source, from which no move leads and whose cost passes the test, is unreached.
  dead-far : (k : Graph) (w : ℕ) → ((m : ℕ) → m < k.moves → k.step m w ≡ none) → (w ≡ a → ⊥)
      → right_cost_in k a D w ≡ true → D w ≡ unreachable
  unfolding right_cost_in tight is-there
  dead-far k w none_from ne t =
      let low = leb (D w) unreachable in
      let far = eqb (D w) unreachable in
      let rest = far || (eqb w a || tight k D w) in
      let no : tight k D w ≡ false =
      any_none k.moves _ (λ m l. ap (λ o. is-there o (λ u. eqb (D u + k.cost m) (D w))) (none_from m l)) in
      let last : rest ≡ true = and_right (relaxed_in k D w) rest (and_right low (relaxed_in k D w && rest) t) in
      let one : (far || (false || false)) ≡ true = rw (ne_eqb w a ne, no) at last in
      eqb-true (D w) unreachable (⊎_elim (λ e. e) (λ e. not-both false e refl) (or_cases far (false || false) one))

  not-source : (w : ℕ) → P w ≡ true → w ≡ a → ⊥
  not-source w p e = not-both (P w) p (ap P e ∙ H.source)

  -- The vertices w with P w are unreached.
  abbrev pub Far : Type 0
  Far = (w : ℕ) → w < g.size → P w ≡ true → D w ≡ unreachable

  pub far-of : ((v : ℕ) → v < g.size → right_cost_in g a D v ≡ true) → Far
  far-of t w i p = dead-far g w (λ m l. H.shut m w l i (H.none_from m w l i p)) (not-source w p) (t w i)

  pub half-far : ((v : ℕ) → v < g.size → right_cost_in h a D v ≡ true) → Far
  half-far t w i p =
      dead-far h w (λ m l. H.none_from m w (omega (arith, H.moves)) i p) (not-source w p) (t w i)

  module _ (far : Far) (v : ℕ) (i : v < g.size) (small : D v ≤ unreachable) where
    -- A test of a step is the same on both, where it is the same of an unreached far end as of none.
    step_same : {A : Type 0} (T : ℕ → Option ℕ → A) (m : ℕ) → m < g.moves
        → ((w : ℕ) → D w ≡ unreachable → T (g.cost m) (some w) ≡ T (g.cost m) none)
        → T (g.cost m) (g.step m v) ≡ T (h.cost m) (h.step m v)
    step_same T m l nothing = cases (h.step m v) refl
      where
        cases : (o : Option ℕ) → h.step m v ≡ o → T (g.cost m) (g.step m v) ≡ T (h.cost m) (h.step m v)
        cases none e = ap (T (g.cost m)) (H.shut m v l i e ∙ sym e) ∙ ap (λ c. T c (h.step m v)) (sym (H.cost m l))
        cases (some w) e = ⊎_elim
            (λ q. ap (T (g.cost m)) (q ∙ sym e) ∙ ap (λ c. T c (h.step m v)) (sym (H.cost m l)))
            (λ q. ap (T (g.cost m)) q.0 ∙ sym (nothing w (far w (H.inside m v w l i e) q.1))
            ∙ ap (T (g.cost m)) (sym e) ∙ ap (λ c. T c (h.step m v)) (sym (H.cost m l))) (H.leads m v w l i e)

    relaxed-half : relaxed_in g D v ≡ relaxed_in h D v
    unfolding relaxed_in relaxed_by if-there
    relaxed-half =
        every-cong g.moves (relaxed_by g D v) (relaxed_by h D v) (λ m l.
        step_same (λ c o. if-there o (λ w. leb (D v) (D w + c))) m l
        (λ w e. le-leb (D v) (D w + g.cost m) (omega arith)))
        ∙ ap (λ (n : ℕ). every n (relaxed_by h D v)) (sym H.moves)

    tight-half : tight g D v ≡ tight h D v
    unfolding tight tight_by is-there
    tight-half =
        any-cong g.moves (tight_by g D v) (tight_by h D v) (λ m l.
        step_same (λ c o. is-there o (λ w. eqb (D w + c) (D v))) m l
        (λ w e. ne_eqb (D w + g.cost m) (D v) (λ q. omega (arith, H.low m l))))
        ∙ ap (λ (n : ℕ). any n (tight_by h D v)) (sym H.moves)

    inflow-half : (F : ℕ → ℕ) → inflow g D F v ≡ inflow h D F v
    unfolding inflow inflow_by given
    inflow-half F =
        sum-cong g.moves (inflow_by g D F v) (inflow_by h D F v) (λ m l.
        step_same (λ c o. given o (λ w. when-eq (D w + c) (D v) (F w))) m l
        (λ w e. when-no (D w + g.cost m) (D v) (F w) (λ q. omega (arith, H.low m l))))
        ∙ ap (λ (n : ℕ). sum n (inflow_by h D F v)) (sym H.moves)

    pub counts-half : (c : ℕ) (on : ℕ → Bool) (F : ℕ → ℕ) → count_at g c on D F v ≡ count_at h c on D F v
    unfolding count_at
    counts-half c on F = rw (inflow-half F)

    -- The next vertex, where no unreached vertex is on the way.
    module _ (on : ℕ → Bool) (off : (w : ℕ) → D w ≡ unreachable → on w ≡ false) where
      candidate-half : (m : ℕ) → m < g.moves → candidate g on D v m ≡ candidate h on D v m
      unfolding candidate
      candidate-half m l =
          step_same (λ c o. elim o [
            | none ↦ none
            | some w ↦ elim (on w && eqb (D w) (D v + c)) [ true ↦ some w | false ↦ none ]
          ]) m l (λ w e. rw (off w e))

      pub next-half : (T : ℕ → ℕ) → next_vertex g on D T v ≡ next_vertex h on D T v
      unfolding next_vertex
      next-half T =
          best-cong T g.moves (candidate g on D v) (candidate h on D v) candidate-half
          ∙ ap (best T (candidate h on D v)) (sym H.moves)

      pub leads-half : {T : ℕ → ℕ} {b : ℕ} → Leads g on D T b v → Leads h on D T b v
      leads-half = leads-cong (sym H.moves) candidate-half

    right-half : right_cost_in g a D v ≡ right_cost_in h a D v
    unfolding right_cost_in
    right-half = rw (relaxed-half, tight-half)

  pub at-half : Far → (v : ℕ) → v < g.size → right_cost_in g a D v ≡ right_cost_in h a D v
  unfolding right_cost_in
  at-half far v i = ⊎_elim
      (λ e. right-half far v i (leb-true (D v) unreachable e))
      (λ e. rw e) (true-or-false (leb (D v) unreachable))

  pub half-costs : every g.size (right_cost_in g a D) ≡ every g.size (right_cost_in h a D)
  half-costs = iff-eq (every g.size (right_cost_in g a D)) (every g.size (right_cost_in h a D))
      (λ t. every-all g.size (right_cost_in h a D) (λ v i.
      sym (at-half (far-of (every-at g.size (right_cost_in g a D) t)) v i)
      ∙ every-at g.size (right_cost_in g a D) t v i))
      (λ t. every-all g.size (right_cost_in g a D) (λ v i.
      at-half (half-far (every-at g.size (right_cost_in h a D) t)) v i ∙ every-at g.size (right_cost_in h a D) t v i))
