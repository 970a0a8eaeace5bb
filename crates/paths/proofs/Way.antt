-- The vertices on the way from a to b.
--
--   OnWay g a b v      == v is on the way: a walk joins a to b, and distance a v + distance v b = distance a b
--   way-cases, way_at  == the test `on_way g a b v` holds exactly where `OnWay g a b v`
--   shortest-same      == `on_shortest` is the same by costs that agree at v and at b, such as lists of the true ones
--   way-start, way_end == a and b are on the way, where a walk joins them
--   way-turn           == a vertex on the way from a to b is on the way from b to a
--   way_back           == a tight neighbour of a vertex on the way, by the distances from a, is on the way
--   way-forth          == a tight neighbour of a vertex on the way, by the distances to b, is on the way
--   way-adds-up        == a move between two vertices on the way whose far end is nearer to b by its cost is further
--                         from a by its cost
--   traversals_fit, count_from-fits, count_to-fits == traversals, count_from and count_to of any vertex are at most the
--                         total
--   count_from-way, count_to-way, traversals-way == `count_from`, `count_to` and `traversals` of a vertex on the way, in
--                         path counts
--   traversals-pos     == the traversal count of a vertex on the way is positive
--   count_from-off, count_to-off, traversals-off == `count_from`, `count_to` and `traversals` of a vertex off the way: 0
use Prim.Native.Nat.{ℕ, ◌+◌, ◌*◌, ◌≤◌, ◌<◌}
use mathlib.Core.Path.{◌≡◌, ap₂}
use mathlib.Core.Logic.{⊎_elim}
use mathlib.Core.Bool.{true, false}
use mathlib.Core.Option.{some}
use native.Mathlib.Omega.{arith}
use native.Mathlib.Nat.{mul-le-mul}
use borrow.Author.Tests.{eqb-true, eq-eqb, ltb-true, lt-ltb}
use lib.Dec.{ltb}
use Rattle.basics.proofs.Bools.{and_intro, and_both, iff-eq, true-or-false}
use Rattle.basics.proofs.Bounded.{pick_yes, pick_no}
use Rattle.paths.specs.Graph.{Graph, Lawful}
use Rattle.paths.specs.Walk.{go}
use Rattle.paths.specs.Distance.{unreachable, distance, path_count}
use Rattle.paths.specs.Route.{on_shortest, on_way, count_from, count_to, traversals}
use Rattle.paths.proofs.Distance.{distance-walk, distance_least, distance_self, triangle, distance-move}
use Rattle.paths.proofs.Reverse.{distance-sym}
use Rattle.paths.proofs.Counts.{path_count-pos}
use Rattle.paths.proofs.Through.{path_count-through, path_count-le-from, path_count-le-to}

pub record OnWay (g : Graph) (a b v : ℕ) : Type 0 where
  pub reached : distance g a b < unreachable
  pub adds_up : distance g a v + distance g v b ≡ distance g a b

pub shortest-same : (D D' E E' : ℕ → ℕ) (b v : ℕ) → D v ≡ D' v → E v ≡ E' v → D b ≡ D' b
    → on_shortest D E b v ≡ on_shortest D' E' b v
unfolding on_shortest
shortest-same D D' E E' b v p q r = rw (p, q, r)

pub way-cases : (g : Graph) (a b v : ℕ) → on_way g a b v ≡ true → OnWay g a b v
unfolding on_way on_shortest
way-cases g a b v e =
    let r = and_both (ltb (distance g a b) unreachable) _ e in
    record {
      reached = ltb-true (distance g a b) unreachable r.0;
      adds_up = eqb-true (distance g a v + distance g v b) (distance g a b) r.1;
    }

pub way_at : (g : Graph) (a b v : ℕ) → OnWay g a b v → on_way g a b v ≡ true
unfolding on_way on_shortest
way_at g a b v w =
    and_intro (ltb (distance g a b) unreachable) _ (lt-ltb (distance g a b) unreachable w.reached)
    (eq-eqb (distance g a v + distance g v b) (distance g a b) w.adds_up)

-- ---- the sheet's counts

module _ (g : Graph) (a b v : ℕ) where
  pub count_from-way : on_way g a b v ≡ true → count_from g a b v ≡ path_count g a v
  unfolding count_from
  count_from-way o = pick_yes (on_way g a b v) (path_count g a v) _ o

  pub count_from-off : on_way g a b v ≡ false → count_from g a b v ≡ 0
  unfolding count_from
  count_from-off o = pick_no (on_way g a b v) _ 0 o

  pub count_to-way : on_way g a b v ≡ true → count_to g a b v ≡ path_count g v b
  unfolding count_to
  count_to-way o = pick_yes (on_way g a b v) (path_count g v b) _ o

  pub count_to-off : on_way g a b v ≡ false → count_to g a b v ≡ 0
  unfolding count_to
  count_to-off o = pick_no (on_way g a b v) _ 0 o

  pub traversals-way : on_way g a b v ≡ true → traversals g a b v ≡ path_count g a v * path_count g v b
  unfolding traversals
  traversals-way o = ap₂ ◌*◌ (count_from-way o) (count_to-way o)

  pub traversals-off : on_way g a b v ≡ false → traversals g a b v ≡ 0
  unfolding traversals
  traversals-off o = ap₂ ◌*◌ (count_from-off o) (count_to-off o)

module _ (g : Graph) (L : Lawful g) (a b : ℕ) where
  pub way-start : distance g a b < unreachable → on_way g a b a ≡ true
  way-start h = way_at g a b a (record { reached = h; adds_up = omega (arith, distance_self g L a) })

  pub way_end : distance g a b < unreachable → on_way g a b b ≡ true
  way_end h = way_at g a b b (record { reached = h; adds_up = omega (arith, distance_self g L b) })

  pub traversals-pos : (v : ℕ) → on_way g a b v ≡ true → 1 ≤ traversals g a b v
  traversals-pos v o =
      let w = way-cases g a b v o in
      let p = path_count-pos g L a v (omega (arith, w.adds_up, w.reached)) in
      let q = path_count-pos g L v b (omega (arith, w.adds_up, w.reached)) in
      let r = mul-le-mul {n₁ = 1} {m₁ = 1} {n₂ = path_count g a v} {m₂ = path_count g v b} p q in
      omega (arith, traversals-way g a b v o)

  -- ---- counts fit where the total does

  pub traversals_fit : (v : ℕ) → traversals g a b v ≤ path_count g a b
  traversals_fit v = ⊎_elim
      (λ o. rw (traversals-way g a b v o) (path_count-through g L a b v (way-cases g a b v o).adds_up))
      (λ o. rw (traversals-off g a b v o) (omega arith)) (true-or-false (on_way g a b v))

  pub count_from-fits : (v : ℕ) → count_from g a b v ≤ path_count g a b
  count_from-fits v = ⊎_elim
      (λ o. let w = way-cases g a b v o in
      rw (count_from-way g a b v o) (path_count-le-from g L a b v w.adds_up w.reached))
      (λ o. rw (count_from-off g a b v o) (omega arith)) (true-or-false (on_way g a b v))

  pub count_to-fits : (v : ℕ) → count_to g a b v ≤ path_count g a b
  count_to-fits v = ⊎_elim
      (λ o. let w = way-cases g a b v o in
      rw (count_to-way g a b v o) (path_count-le-to g L a b v w.adds_up w.reached))
      (λ o. rw (count_to-off g a b v o) (omega arith)) (true-or-false (on_way g a b v))

-- ---- turned round

module _ (g : Graph) (L : Lawful g) (a b v : ℕ) (in-a : a < g.size) (in_b : b < g.size) (in-v : v < g.size) where
  turned : OnWay g a b v → OnWay g b a v
  turned w =
      let p = distance-sym g L a b in-a in_b in
      let q = distance-sym g L a v in-a in-v in
      let r = distance-sym g L v b in-v in_b in
      record { reached = omega (arith, w.reached); adds_up = omega (arith, w.adds_up) }

pub way-turn : (g : Graph) (L : Lawful g) (a b v : ℕ) → a < g.size → b < g.size → v < g.size
    → on_way g a b v ≡ on_way g b a v
way-turn g L a b v in-a in_b in-v =
    iff-eq (on_way g a b v) (on_way g b a v)
    (λ o. way_at g b a v (turned g L a b v in-a in_b in-v (way-cases g a b v o)))
    (λ o. way_at g a b v (turned g L b a v in_b in-a in-v (way-cases g b a v o)))

-- ---- neighbours on the way

module _ (g : Graph) (L : Lawful g) (a b v w m : ℕ) (in-v : v < g.size) (lt : m < g.moves)
    (st : g.step m v ≡ some w) where
  pub way_back : on_way g a b v ≡ true → distance g a w + g.cost m ≡ distance g a v → on_way g a b w ≡ true
  way_back o e =
      let p = way-cases g a b v o in
      let c = L.opposite_cost m lt in
      let wk = distance-walk g v b (omega arith) in
      let back = L.opposite_back m v w lt in-v st in
      let up = distance_least g L (_, go (L.opposite m) v (L.opposite_listed m lt) back wk.1) (omega arith) in
      let tr = triangle g L a w b (omega arith) in
      way_at g a b w (record { reached = p.reached; adds_up = omega arith })

  pub way-forth : on_way g a b v ≡ true → distance g w b + g.cost m ≡ distance g v b → on_way g a b w ≡ true
  way-forth o e =
      let p = way-cases g a b v o in
      let up = distance-move g L a m v w lt st (omega arith) in
      let tr = triangle g L a w b (omega arith) in
      way_at g a b w (record { reached = p.reached; adds_up = omega arith })

  -- A move between two vertices on the way leads as far away from a as towards b.
  pub way-adds-up : on_way g a b v ≡ true → on_way g a b w ≡ true
      → distance g w b + g.cost m ≡ distance g v b → distance g a w ≡ distance g a v + g.cost m
  way-adds-up o o' e =
      let p = way-cases g a b v o in
      let q = way-cases g a b w o' in
      omega arith
