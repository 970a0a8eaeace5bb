-- The tests that the checker runs say the same as `verdict`.
--
--   tests-numbers       == where the tests of the costs and counts hold, so does `local_numbers`
--   numbers-tests       == where `local_numbers` holds, so do the tests of the costs and counts
--   route_test-local    == route_test g a b s = local_route g a b s
--   no_route_test-local == no_route_test g a b s = local_no_route g a b s
--   counts-fit          == where costs and counts pass the tests, the traversal counts fit 64 bits
--   counts-lead         == where costs and counts pass the tests, a move leads on from each vertex on the way before b
use Prim.Native.Nat.{ℕ, ◌^◌, ◌<◌}
use mathlib.Core.Path.{◌≡◌, sym, ◌∙◌}
use mathlib.Core.Bool.{Bool, true, false, ◌&&◌}
use native.Mathlib.Omega.{arith}
use borrow.Author.Tests.{lt-ltb, eq-eqb}
use lib.Dec.{ltb, eqb}
use lib.ListN.{length}
use Rattle.basics.specs.Bounded.{every}
use Rattle.basics.proofs.Bools.{iff-eq, and_intro, and_left, and_right}
use Rattle.basics.proofs.Bounded.{every-all, every-at}
use Rattle.paths.specs.Graph.{Graph, Lawful}
use Rattle.paths.specs.Distance.{unreachable}
use Rattle.paths.specs.Route.{on_shortest}
use Rattle.paths.specs.Sheet.{Sheet}
use Rattle.paths.specs.Local.{right_cost, right_costs, count_at, right_counts, entry, local_on, local_numbers}
use Rattle.paths.specs.Local.{Shaped, local_route, blank_at, local_no_route}
use Rattle.paths.specs.Onward.{Leads}
use Rattle.paths.proofs.Sheets.{TrueNumbers}
use Rattle.paths.proofs.SheetTest.{numbers-true, numbers_fit, sheet-leads}
use Rattle.neighbours.specs.Least.{right_cost_in}
use Rattle.neighbours.specs.Choice.{traversal_of, Counted}
use Rattle.neighbours.proofs.Incoming.{costs-in}
use Rattle.checker.specs.Tests.{counts_test, vertex_test, vertices_test, nexts_test, points_test}
use Rattle.checker.specs.Tests.{route_test, no_route_test}

-- ---- one vertex, and every vertex

module _ {g : Graph} (L : Lawful g) (a : ℕ) (D : ℕ → ℕ) where
  costs-all : ((v : ℕ) → v < g.size → right_cost_in g a D v ≡ true) → every g.size (right_cost g a D) ≡ true
  costs-all h = sym (costs-in g L D a) ∙ every-all g.size (right_cost_in g a D) h

  costs-at : every g.size (right_cost g a D) ≡ true → (v : ℕ) → v < g.size → right_cost_in g a D v ≡ true
  costs-at t = every-at g.size (right_cost_in g a D) (costs-in g L D a ∙ t)

-- The parts of `vertex_test` for a route sheet.
pub record RightAt (g : Graph) (a b : ℕ) (s : Sheet) (v : ℕ) : Type 0 where
  pub d : right_cost_in g a (entry s.d) v ≡ true
  pub e : right_cost_in g b (entry s.e) v ≡ true
  pub f : eqb (entry s.f v) (count_at g a (local_on b s) (entry s.d) (entry s.f) v) ≡ true
  pub b_is : eqb (entry s.b v) (count_at g b (local_on b s) (entry s.e) (entry s.b) v) ≡ true

module _ (g : Graph) (a b : ℕ) (s : Sheet) where
  pub right-at : (v : ℕ) → vertex_test true g a b s v ≡ true → RightAt g a b s v
  unfolding vertex_test counts_test
  right-at v t =
      let d = right_cost_in g a (entry s.d) v in
      let e = right_cost_in g b (entry s.e) v in
      let f = eqb (entry s.f v) (count_at g a (local_on b s) (entry s.d) (entry s.f) v) in
      let costs = and_left (d && e) _ t in
      let counts = and_right (d && e) _ t in
      record { d = and_left d e costs; e = and_right d e costs; f = and_left f _ counts; b_is = and_right f _ counts }

  pub at_right : (v : ℕ) → RightAt g a b s v → vertex_test true g a b s v ≡ true
  unfolding vertex_test counts_test
  at_right v r = and_intro _ _ (and_intro _ _ r.d r.e) (and_intro _ _ r.f r.b_is)

  -- ---- the costs and counts of a route sheet

  pub tests-numbers : Lawful g → ltb (entry s.d b) unreachable ≡ true → eqb (entry s.d a) 0 ≡ true
      → eqb (entry s.e b) 0 ≡ true → vertices_test true g a b s ≡ true → local_numbers g a b s ≡ true
  unfolding vertices_test local_numbers right_costs right_counts
  tests-numbers L reached start end all =
      let at : (v : ℕ) → v < g.size → RightAt g a b s v
      = λ v i. right-at v (every-at g.size (vertex_test true g a b s) all v i) in
      and_intro _ _ (and_intro _ _ start (costs-all L a (entry s.d) (λ v i. (at v i).d)))
      (and_intro _ _ reached
      (and_intro _ _ (and_intro _ _ end (costs-all L b (entry s.e) (λ v i. (at v i).e)))
      (and_intro _ _ (every-all g.size _ (λ v i. (at v i).f)) (every-all g.size _ (λ v i. (at v i).b_is)))))

  -- The parts of `local_numbers`.
  record Numbers : Type 0 where
    reached : ltb (entry s.d b) unreachable ≡ true
    start : eqb (entry s.d a) 0 ≡ true
    end : eqb (entry s.e b) 0 ≡ true
    all : vertices_test true g a b s ≡ true

  numbers-tests : Lawful g → local_numbers g a b s ≡ true → Numbers
  unfolding vertices_test local_numbers right_costs right_counts
  numbers-tests L t =
      let D = right_costs g a (entry s.d) in
      let E = right_costs g b (entry s.e) in
      let F = right_counts g a (local_on b s) (entry s.d) (entry s.f) in
      let B = right_counts g b (local_on b s) (entry s.e) (entry s.b) in
      let near = ltb (entry s.d b) unreachable in
      let t1 = and_right D (near && (E && (F && B))) t in
      let t2 = and_right near (E && (F && B)) t1 in
      let t3 = and_right E (F && B) t2 in
      let dd = and_left D (near && (E && (F && B))) t in
      let ee = and_left E (F && B) t2 in
      record {
        reached = and_left near (E && (F && B)) t1;
        start = and_left (eqb (entry s.d a) 0) _ dd;
        end = and_left (eqb (entry s.e b) 0) _ ee;
        all = every-all g.size (vertex_test true g a b s) (λ v i. at_right v (record {
          d = costs-at L a (entry s.d) (and_right (eqb (entry s.d a) 0) _ dd) v i;
          e = costs-at L b (entry s.e) (and_right (eqb (entry s.e b) 0) _ ee) v i;
          f = every-at g.size _ (and_left F B t3) v i;
          b_is = every-at g.size _ (and_right F B t3) v i;
        }));
      }

  -- ---- whole sheets

  pub route_test-local : Lawful g → route_test g a b s ≡ local_route g a b s
  unfolding route_test local_route nexts_test points_test
  route_test-local L = iff-eq (route_test g a b s) (local_route g a b s) there back
    where
      there : route_test g a b s ≡ true → local_route g a b s ≡ true
      there t =
          let near = ltb (entry s.d b) unreachable in
          let t1 = and_right near _ t in
          let t2 = and_right (eqb (entry s.d a) 0) _ t1 in
          let t3 = and_right (eqb (entry s.e b) 0) _ t2 in
          and_intro _ _
          (tests-numbers L (and_left near _ t) (and_left (eqb (entry s.d a) 0) _ t1)
          (and_left (eqb (entry s.e b) 0) _ t2)
          (and_left (vertices_test true g a b s) _ t3))
          (and_right (vertices_test true g a b s) _ t3)

      back : local_route g a b s ≡ true → route_test g a b s ≡ true
      back t =
          let n = numbers-tests L (and_left (local_numbers g a b s) _ t) in
          and_intro _ _ n.reached (and_intro _ _ n.start (and_intro _ _ n.end
          (and_intro _ _ n.all (and_right (local_numbers g a b s) _ t))))

  pub no_route_test-local : Lawful g → no_route_test g a b s ≡ local_no_route g a b s
  unfolding no_route_test local_no_route right_costs vertices_test vertex_test
  no_route_test-local L = iff-eq (no_route_test g a b s) (local_no_route g a b s) there back
    where
      d : ℕ → Bool
      d v = right_cost_in g a (entry s.d) v

      end : Bool
      end = eqb (entry s.d b) unreachable

      none : Bool
      none = eqb s.n 0

      start : Bool
      start = eqb (entry s.d a) 0

      there : no_route_test g a b s ≡ true → local_no_route g a b s ≡ true
      there t =
          let t1 = and_right end _ t in
          let t2 = and_right none _ t1 in
          let all = every-at g.size (vertex_test false g a b s) (and_right start _ t2) in
          and_intro _ _ (and_intro _ _ (and_left start _ t2)
          (costs-all L a (entry s.d) (λ v i. and_left (d v) _ (all v i))))
          (and_intro _ _ (and_left end _ t) (and_intro _ _ (and_left none _ t1)
          (every-all g.size (blank_at s) (λ v i. and_right (d v) _ (all v i)))))

      back : local_no_route g a b s ≡ true → no_route_test g a b s ≡ true
      back t =
          let t1 = and_right (right_costs g a (entry s.d)) _ t in
          let t2 = and_right end _ t1 in
          let c = and_left (right_costs g a (entry s.d)) _ t in
          and_intro _ _ (and_left end _ t1) (and_intro _ _ (and_left none _ t2) (and_intro _ _ (and_left start _ c)
          (every-all g.size (vertex_test false g a b s) (λ v i.
          and_intro _ _ (costs-at L a (entry s.d) (and_right start _ c) v i)
          (every-at g.size (blank_at s) (and_right none _ t2) v i)))))

  -- ---- what follows once the code has tested costs and counts

  module _ (near : entry s.d b < unreachable) (start : entry s.d a ≡ 0) (end : entry s.e b ≡ 0)
      (all : vertices_test true g a b s ≡ true) (L : Lawful g) (in-a : a < g.size) (in_b : b < g.size) where
    numbers : TrueNumbers g a b s
    numbers =
        numbers-true g L a b in-a in_b s (tests-numbers L (lt-ltb _ _ near) (eq-eqb _ _ start) (eq-eqb _ _ end) all)

    pub counts-fit : Shaped g.size s → entry s.f b < 2 ^ 64 → Counted (length s.d) s.f s.b
    counts-fit shape total = record {
      f_len = shape.f ∙ sym shape.d;
      b_len = shape.b ∙ sym shape.d;
      fit = λ v i. omega (arith, numbers_fit g L a b in-a in_b s numbers v (omega (arith, shape.d)));
    }

    pub counts-lead : (v : ℕ) → v < g.size
        → Leads g (on_shortest (entry s.d) (entry s.e) b) (entry s.d) (traversal_of s.f s.b) b v
    unfolding local_on
    counts-lead v i = sheet-leads g L a b in-a in_b s numbers v i
