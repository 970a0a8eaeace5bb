-- The test `right_costs` of a list of costs passes on the true costs, and on nothing else.
--
--   costs-true        == costs that pass are the distances from a
--   true-costs        == the distances from a pass
--   right_costs-exact == `right_costs g a D` holds exactly where D v = distance g a v for every vertex v
--   right_costs-list  == `right_costs` of a list of the right length holds exactly where it is the list of the
--                        distances from a
use Prim.Native.Nat.{ℕ, ◌+◌, ◌≤◌, ◌<◌}
use mathlib.Core.Path.{◌≡◌, ap, ◌∙◌}
use mathlib.Core.Logic.{⊎_elim, ◌↔◌}
use mathlib.Core.Bool.{Bool, true}
use mathlib.Core.Option.{some}
use mathlib.Core.List.{List}
use native.Mathlib.Omega.{arith}
use borrow.Author.Tests.{eqb-true, eq-eqb, leb-true, le-leb}
use lib.Dec.{leb, eqb}
use lib.ListN.{length}
use Rattle.basics.specs.Lists.{tabulate}
use Rattle.basics.proofs.Lists.{get_d_tabulate, tabulate-of}
use Rattle.basics.proofs.Order.{le-or-lt, eq-or-ne}
use Rattle.basics.proofs.Bools.{and_intro, and_left, and_right, or_left, or_right, or_cases}
use Rattle.basics.proofs.Bounded.{every-all, every-at, any-cases, any-one}
use Rattle.paths.specs.Graph.{Graph, Lawful}
use Rattle.paths.specs.Distance.{unreachable, distance}
use Rattle.paths.specs.Local.{is-there, relaxed, tight, right_cost, right_costs, entry}
use Rattle.paths.proofs.Costs.{Stable, Tight, TightAll, tight-true, distance-stable, distance-tight}
use Rattle.paths.proofs.Neighbours.{if-there-all, if-there-at, is-there-cases, is-there-at}

-- ---- the two tests over the moves of a vertex

module _ (g : Graph) (D : ℕ → ℕ) (v : ℕ) where
  pub relaxed-cases : relaxed g D v ≡ true → (m w : ℕ) → m < g.moves → g.step m v ≡ some w → D w ≤ D v + g.cost m
  unfolding relaxed
  relaxed-cases e m w lt st =
      let p : ℕ → Bool = λ w. leb (D w) (D v + g.cost m) in
      leb-true (D w) (D v + g.cost m) (if-there-at (g.step m v) p w st (every-at g.moves _ e m lt))

  pub relaxed-all : ((m w : ℕ) → m < g.moves → g.step m v ≡ some w → D w ≤ D v + g.cost m) → relaxed g D v ≡ true
  unfolding relaxed
  relaxed-all h = every-all g.moves _ (λ m lt. if-there-all (g.step m v) _ (λ w st.
      le-leb (D w) (D v + g.cost m) (h m w lt st)))

  pub tight-cases : Lawful g → v < g.size → tight g D v ≡ true → Tight g D v
  unfolding tight
  tight-cases L i e =
      let b = any-cases g.moves (λ m. is-there (g.step m v) (λ w. eqb (D w + g.cost m) (D v))) e in
      let c = is-there-cases (g.step b.0 v) (λ w. eqb (D w + g.cost b.0) (D v)) b.2 in
      record {
        move = b.0;
        to = c.0;
        below = b.1;
        inside = L.inside b.0 v c.0 b.1 i c.1;
        goes = c.1;
        adds_up = eqb-true (D c.0 + g.cost b.0) (D v) c.2;
      }

  pub tight-at : Tight g D v → tight g D v ≡ true
  unfolding tight
  tight-at t =
      any-one g.moves t.move _ t.below
      (is-there-at (g.step t.move v) _ t.to t.goes
      (eq-eqb (D t.to + g.cost t.move) (D v) t.adds_up))

module _ (g : Graph) (L : Lawful g) (a : ℕ) (in-a : a < g.size) (D : ℕ → ℕ) where
  -- ---- costs that pass

  module _ (e : right_costs g a D ≡ true) where
    passed : (v : ℕ) → v < g.size → right_cost g a D v ≡ true
    unfolding right_costs
    passed = every-at g.size (right_cost g a D) (and_right (eqb (D a) 0) _ e)

    stable : Stable g a D
    unfolding right_costs right_cost
    stable = record {
      start = eqb-true (D a) 0 (and_left (eqb (D a) 0) _ e);
      at_most = λ v i. leb-true (D v) unreachable (and_left (leb (D v) unreachable) _ (passed v i));
      relaxed = λ m u w lt i st.
          relaxed-cases g D u (and_left (relaxed g D u) _ (and_right (leb (D u) unreachable) _ (passed u i))) m w lt st;
    }

    tight-all : TightAll g a D
    unfolding right_cost
    tight-all v i ne h =
        let r = and_right (relaxed g D v) _ (and_right (leb (D v) unreachable) _ (passed v i)) in
        ⊎_elim (λ z. absurd (omega (arith, eqb-true (D v) unreachable z)))
        (λ s. ⊎_elim (λ z. absurd (ne (eqb-true v a z))) (tight-cases g D v L i) (or_cases (eqb v a) (tight g D v) s))
        (or_cases (eqb (D v) unreachable) _ r)

    pub costs-true : (v : ℕ) → v < g.size → D v ≡ distance g a v
    costs-true = tight-true g L a in-a D stable tight-all

  -- ---- the true costs

  module _ (S : Stable g a D) (T : TightAll g a D) where
    passes_at : (v : ℕ) → v < g.size → right_cost g a D v ≡ true
    unfolding right_cost
    passes_at v i =
        and_intro (leb (D v) unreachable) _ (le-leb (D v) unreachable (S.at_most v i))
        (and_intro (relaxed g D v) _ (relaxed-all g D v (λ m w lt st. S.relaxed m v w lt i st))
        (⊎_elim (λ h. or_left (eqb (D v) unreachable) _ (eq-eqb (D v) unreachable (omega (arith, S.at_most v i))))
        (λ h. or_right (eqb (D v) unreachable) _
        (⊎_elim (λ q. or_left (eqb v a) _ (eq-eqb v a q)) (λ ne. or_right (eqb v a) _ (tight-at g D v (T v i ne h)))
        (eq-or-ne v a))) (le-or-lt unreachable (D v))))

    passes : right_costs g a D ≡ true
    unfolding right_costs
    passes = and_intro (eqb (D a) 0) _ (eq-eqb (D a) 0 S.start) (every-all g.size (right_cost g a D) passes_at)

  pub true-costs : ((v : ℕ) → v < g.size → D v ≡ distance g a v) → right_costs g a D ≡ true
  true-costs h = passes stable-at tight-from
    where
      S : Stable g a (distance g a)
      S = distance-stable g L a in-a

      stable-at : Stable g a D
      stable-at = record {
        start = h a in-a ∙ S.start;
        at_most = λ v i. rw (h v i) (S.at_most v i);
        relaxed = λ m u w lt i st. omega (arith, S.relaxed m u w lt i st, h u i, h w (L.inside m u w lt i st));
      }

      tight-from : TightAll g a D
      tight-from v i ne k =
          let t = distance-tight g L a in-a v i ne (rw (h v i) at k) in
          record {
            move = t.move;
            to = t.to;
            below = t.below;
            inside = t.inside;
            goes = t.goes;
            adds_up = omega (arith, t.adds_up, h v i, h t.to t.inside);
          }

  pub right_costs-exact : (right_costs g a D ≡ true) ↔ ((v : ℕ) → v < g.size → D v ≡ distance g a v)
  right_costs-exact = (costs-true, true-costs)

pub right_costs-list : (g : Graph) → Lawful g → (a : ℕ) → a < g.size → (d : List ℕ) → length d ≡ g.size
    → (right_costs g a (entry d) ≡ true) ↔ (d ≡ tabulate g.size (distance g a))
right_costs-list g L a in-a d e = (
  λ t. tabulate-of g.size d (distance g a) e (costs-true g L a in-a (entry d) t),
  λ q. true-costs g L a in-a (entry d) (λ v i.
      ap (λ l. entry l v) q ∙ get_d_tabulate g.size v (distance g a) i),
)
