-- The tests of a sheet over the moves that leave each vertex say the same as those over the open moves.
--
--   vertices-leaving   == `vertices_test` is the same over the moves that leave and over the open moves
--   pinches-far        == where every vertex passes `vertex_test`, the cost of every pinch is M
--   leads-leaving      == where the cost of every pinch is M and an open move leads on from a vertex, a move that
--                         leaves it leads on too
--   right-leaving      == where the cost of every pinch is M, `right_next` is the same over the moves that leave and
--                         over the open moves
use Prim.Native.Nat.{ℕ, ◌+◌, ◌<◌, ◌≤◌}
use mathlib.Core.Path.{◌≡◌, sym, ap, ◌∙◌}
use mathlib.Core.Bool.{Bool, true, false, ◌&&◌, and-false}
use mathlib.Core.Logic.{⊎_elim}
use mathlib.Core.List.{List}
use native.Mathlib.Omega.{arith}
use borrow.Author.Tests.{ne_eqb, eqb-true}
use lib.Dec.{ltb, eqb}
use Rattle.basics.proofs.Bools.{iff-eq, and_left, and_right, true-or-false}
use Rattle.basics.proofs.Bounded.{every-all, every-at}
use Rattle.floor.specs.Floor.{Floor, floor_of, vertices}
use Rattle.moves.specs.declared.Directions.{Directions}
use Rattle.moves.proofs.Table.{listed-lawful}
use Rattle.paths.specs.Graph.{Graph}
use Rattle.paths.specs.Distance.{unreachable}
use Rattle.paths.specs.Route.{on_shortest}
use Rattle.paths.specs.Sheet.{Sheet}
use Rattle.paths.specs.Onward.{Leads}
use Rattle.paths.specs.Local.{entry, local_on, local_next, right_next, blank_at}
use Rattle.grid.specs.Grid.{floor_graph}
use Rattle.grid.specs.Leaving.{leaving_graph}
use Rattle.grid.specs.Known.{GoodJob}
use Rattle.neighbours.specs.Choice.{traversal_of}
use Rattle.neighbours.specs.Least.{right_cost_in}
use Rattle.neighbours.proofs.Agree.{Agrees, next_vertex-agrees, leads-agrees}
use Rattle.neighbours.proofs.Half.{HalfOf, right-small, Far, far-of, half-far, at-half, counts-half, next-half}
use Rattle.neighbours.proofs.Half.{leads-half}
use Rattle.neighbours.proofs.Leaving.{pinched, leaving-half}
use Rattle.checker.specs.Tests.{PinchesFar, vertex_test, vertices_test}
use Rattle.checker.proofs.Exact.{RightAt, right-at, at_right}

module _ {w h : ℕ} {l : List ℕ} {r : Directions} {a b : ℕ} (J : GoodJob w h l r a b) (s : Sheet) where
  abbrev f : Floor
  f = floor_of w h l

  abbrev g : Graph
  g = floor_graph f r

  abbrev k : Graph
  k = leaving_graph f r

  abbrev D : ℕ → ℕ
  D = entry s.d

  abbrev E : ℕ → ℕ
  E = entry s.e

  from_start : HalfOf (pinched f) g k a
  from_start = leaving-half f r (listed-lawful J.listed) a J.start_free

  from-goal : HalfOf (pinched f) g k b
  from-goal = leaving-half f r (listed-lawful J.listed) b J.goal_free

  -- A vertex, where the costs of every pinch are M.
  module _ (far-d : Far from_start D) (far-e : Far from-goal E) (v : ℕ) (i : v < g.size) where
    abbrev on : ℕ → Bool
    on = local_on b s

    to-open : RightAt k a b s v → RightAt g a b s v
    to-open t = record {
      d = at-half from_start D far-d v i ∙ t.d;
      e = at-half from-goal E far-e v i ∙ t.e;
      f = ap (eqb (entry s.f v))
          (counts-half from_start D far-d v i (right-small k a D v t.d) a on (entry s.f)) ∙ t.f;
      b_is = ap (eqb (entry s.b v))
          (counts-half from-goal E far-e v i (right-small k b E v t.e) b on (entry s.b)) ∙ t.b_is;
    }

    to-leaving : RightAt g a b s v → RightAt k a b s v
    to-leaving t = record {
      d = sym (at-half from_start D far-d v i) ∙ t.d;
      e = sym (at-half from-goal E far-e v i) ∙ t.e;
      f = ap (eqb (entry s.f v))
          (sym (counts-half from_start D far-d v i (right-small g a D v t.d) a on (entry s.f))) ∙ t.f;
      b_is = ap (eqb (entry s.b v))
          (sym (counts-half from-goal E far-e v i (right-small g b E v t.e) b on (entry s.b))) ∙ t.b_is;
    }

  right-all : (q : Graph) → vertices_test true q a b s ≡ true → (v : ℕ) → v < q.size → RightAt q a b s v
  unfolding vertices_test
  right-all q t v i = right-at q a b s v (every-at q.size (vertex_test true q a b s) t v i)

  cost-all : (q : Graph) → vertices_test false q a b s ≡ true → (v : ℕ) → v < q.size → right_cost_in q a D v ≡ true
  unfolding vertices_test vertex_test
  cost-all q t v i = and_left (right_cost_in q a D v) (blank_at s v) (every-at q.size (vertex_test false q a b s) t v i)

  blank-same : (v : ℕ) → right_cost_in g a D v ≡ right_cost_in k a D v
      → vertex_test false g a b s v ≡ vertex_test false k a b s v
  unfolding vertex_test
  blank-same v e = ap (λ c. c && blank_at s v) e

  pub vertices-leaving : (j : Bool) → vertices_test j k a b s ≡ vertices_test j g a b s
  unfolding vertices_test
  vertices-leaving true = iff-eq (vertices_test true k a b s) (vertices_test true g a b s)
      (λ t.
      let far-d : Far from_start D = half-far from_start D (λ v i. (right-all k t v i).d) in
      let far-e : Far from-goal E = half-far from-goal E (λ v i. (right-all k t v i).e) in
      every-all g.size (vertex_test true g a b s) (λ v i.
      at_right g a b s v (to-open far-d far-e v i (right-all k t v i))))
      (λ t.
      let far-d : Far from_start D = far-of from_start D (λ v i. (right-all g t v i).d) in
      let far-e : Far from-goal E = far-of from-goal E (λ v i. (right-all g t v i).e) in
      every-all k.size (vertex_test true k a b s) (λ v i.
      at_right k a b s v (to-leaving far-d far-e v i (right-all g t v i))))
  vertices-leaving false = iff-eq (vertices_test false k a b s) (vertices_test false g a b s)
      (λ t. every-all g.size (vertex_test false g a b s) (λ v i.
      blank-same v (at-half from_start D (half-far from_start D (cost-all k t)) v i)
      ∙ every-at k.size (vertex_test false k a b s) t v i))
      (λ t. every-all k.size (vertex_test false k a b s) (λ v i.
      sym (blank-same v (at-half from_start D (far-of from_start D (cost-all g t)) v i))
      ∙ every-at g.size (vertex_test false g a b s) t v i))

  pub pinches-far : vertices_test true g a b s ≡ true → PinchesFar f s.d
  pinches-far t = record { at = far-of from_start D (λ v i. (right-all g t v i).d) }

  module _ (far : PinchesFar f s.d) (near : D b < unreachable) {q : Graph} {v : ℕ} (i : v < vertices w h)
      (same : Agrees q k v) where
    -- No vertex of cost M is on the way.
    unreached-off : (u : ℕ) → D u ≡ unreachable → on_shortest D E b u ≡ false
    unfolding on_shortest
    unreached-off u e =
        ap (λ c. ltb (D b) unreachable && c) (ne_eqb (D u + E u) (D b) (λ t. omega arith))
        ∙ and-false (ltb (D b) unreachable)

    -- A vertex on the way costs at most as much as b.
    small : on_shortest D E b v ≡ true → D v ≤ unreachable
    unfolding on_shortest
    small t = omega (arith, eqb-true (D v + E v) (D b) (and_right (ltb (D b) unreachable) _ t), near)

    next-leaving : on_shortest D E b v ≡ true → local_next q b s v ≡ local_next g b s v
    unfolding local_next local_on
    next-leaving t =
        next_vertex-agrees same D (local_on b s) (traversal_of s.f s.b)
        ∙ sym (next-half from-goal D far.at v i (small t) (local_on b s) unreached-off (traversal_of s.f s.b))

    pub leads-leaving : {T : ℕ → ℕ} → Leads g (on_shortest D E b) D T b v → Leads q (on_shortest D E b) D T b v
    leads-leaving k = record {
      onward = λ t ne.
          (leads-agrees same D (leads-half from-goal D far.at v i (small t) (on_shortest D E b) unreached-off k)).onward t ne;
    }

    pub right-leaving : right_next q b s v ≡ right_next g b s v
    unfolding right_next local_on
    right-leaving = ⊎_elim (λ t. rw (next-leaving t)) (λ t. rw t) (true-or-false (on_shortest D E b v))
