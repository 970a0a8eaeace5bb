-- A distance that is not `unreachable` is at most the dearest move times one less than the number of vertices. So on a
-- floor the distance is `unreachable` exactly where no walk, of any cost, joins two vertices.
--
--   nearer              == the number of vertices nearer to a than v
--   nearer-lt           == nearer v < size: v is not nearer than itself
--   nearer-falls        == nearer w < nearer v where w is nearer to a than v
--   distance-bound      == distance g a v ≤ top * (size - 1), where v is reached and no move costs more than top
--   walk-reaches        == on at most 16,384 vertices, the distance is below `unreachable` where a walk of any cost
--                          joins the two
--   reached-exact       == the distance is below `unreachable` exactly where a walk joins the two vertices
--   unreachable-exact   == the distance is `unreachable` exactly where no walk joins the two vertices
--   distance-shortest   == no walk, of any cost, costs less than the distance
use Prim.Native.Nat.{ℕ, zero, suc, ◌-◌, ◌*◌, ◌≤◌, ◌<◌}
use mathlib.Core.Path.{◌≡◌, ap, ◌∙◌}
use mathlib.Core.Logic.{⊎_elim, ◌↔◌}
use mathlib.Core.List.{List}
use native.Mathlib.Omega.{arith}
use native.Mathlib.Nat.{mul-le-mul_left}
use borrow.Author.Tests.{lt-ltb, le-ltb}
use lib.Dec.{ltb}
use Rattle.basics.specs.Bounded.{pick, sum}
use Rattle.basics.proofs.Order.{le-or-lt, eq-or-ne}
use Rattle.basics.proofs.Bounded.{pick_yes, pick_no}
use Rattle.basics.proofs.Sums.{sum_lt, sum_ones}
use Rattle.paths.specs.Graph.{Graph, Lawful}
use Rattle.paths.specs.Walk.{Walk, stop, go, HasWalk}
use Rattle.paths.specs.Distance.{unreachable, distance}
use Rattle.paths.proofs.Distance.{distance-le, distance-walk, distance_least, distance_self}
use Rattle.paths.proofs.Costs.{Tight, distance-stable, distance-tight}

-- 1 where a < b, else 0
under : ℕ → ℕ → ℕ
under a b = pick (ltb a b) 1 0

under-yes : (a b : ℕ) → a < b → under a b ≡ 1
unfolding under
under-yes a b h = pick_yes (ltb a b) 1 0 (lt-ltb a b h)

under-no : (a b : ℕ) → b ≤ a → under a b ≡ 0
unfolding under
under-no a b h = pick_no (ltb a b) 1 0 (le-ltb a b h)

under-le : (a b : ℕ) → under a b ≤ 1
under-le a b =
    ⊎_elim (λ h. omega (arith, under-yes a b h)) (λ h. omega (arith, under-no a b (omega arith))) (le-or-lt (suc a) b)

under-mono : (x a b : ℕ) → a ≤ b → under x a ≤ under x b
under-mono x a b h =
    ⊎_elim (λ l. omega (arith, under-le x a, under-yes x b (omega arith)))
    (λ l. omega (arith, under-no x a (omega arith))) (le-or-lt (suc x) a)

module _ (g : Graph) (L : Lawful g) (a : ℕ) (in-a : a < g.size) where
  abbrev D : ℕ → ℕ
  D v = distance g a v

  pub nearer : ℕ → ℕ
  nearer v = sum g.size (λ x. under (D x) (D v))

  pub nearer-falls : (u v : ℕ) → u < g.size → D u < D v → nearer u < nearer v
  unfolding nearer
  nearer-falls u v i h =
      sum_lt g.size u (λ x. under (D x) (D u)) (λ x. under (D x) (D v))
      (λ x l. under-mono (D x) (D u) (D v) (omega arith)) i
      (omega (arith, under-no (D u) (D u) (omega arith), under-yes (D u) (D v) h))

  -- v is not nearer than itself.
  pub nearer-lt : (v : ℕ) → v < g.size → nearer v < g.size
  unfolding nearer
  nearer-lt v i =
      let lt = sum_lt g.size v (λ x. under (D x) (D v)) (λ x. 1) (λ x l. under-le (D x) (D v)) i
      (omega (arith, under-no (D v) (D v) (omega arith))) in
      omega (arith, lt, sum_ones g.size)

  module _ (top : ℕ) (dear : (m : ℕ) → m < g.moves → g.cost m ≤ top) where
    bound-from : (v : ℕ) → v < g.size → (t : Tight g D v) → D t.to ≤ top * nearer t.to → D v ≤ top * nearer v
    bound-from v i t below =
        let c = L.low t.move t.below in
        let lt = nearer-falls t.to v t.inside (omega (arith, t.adds_up)) in
        omega (
          arith,
          t.adds_up,
          dear t.move t.below,
          mul-le-mul_left {m = suc (nearer t.to)} {n = nearer v} top lt,
        )

    bound-nearer : (n v : ℕ) → D v ≤ n → v < g.size → D v < unreachable → D v ≤ top * nearer v
    bound-nearer zero v le i h = omega arith
    bound-nearer (suc n) v le i h = ⊎_elim (λ e. omega (arith, ap D e ∙ distance_self g L a)) (λ ne.
        let t = distance-tight g L a in-a v i ne h in
        let c = L.low t.move t.below in
        bound-from v i t (bound-nearer n t.to (omega (arith, t.adds_up)) t.inside (omega (arith, t.adds_up))))
        (eq-or-ne v a)

    pub distance-bound : (v : ℕ) → v < g.size → D v < unreachable → D v ≤ top * (g.size - 1)
    distance-bound v i h =
        let c = nearer-lt v i in
        let p = mul-le-mul_left {m = nearer v} {n = g.size - 1} top (omega arith) in
        omega (arith, bound-nearer (D v) v (omega arith) i h)

  module _ (small : g.size ≤ 16384) where
    reaches-on : {k u t : ℕ} {l : List ℕ} → Walk g k u t l → u < g.size → D u < unreachable → D t < unreachable
    reaches-on stop i h = h
    reaches-on (go {u = u} m w lt st wk) i h =
        let b = distance-bound 4095 L.high u i h in
        let s = (distance-stable g L a in-a).relaxed m u w lt i st in
        reaches-on wk (L.inside m u w lt i st) (omega (arith, L.high m lt))

    pub walk-reaches : (v k : ℕ) → HasWalk g k a v → D v < unreachable
    walk-reaches v k w = reaches-on w.1 in-a (omega (arith, distance_self g L a))

    pub reached-exact : (v : ℕ) → (D v < unreachable) ↔ ((k : ℕ) × HasWalk g k a v)
    reached-exact v = (λ h. (D v, distance-walk g a v h), λ w. walk-reaches v w.0 w.1)

    pub unreachable-exact : (v : ℕ) → (D v ≡ unreachable) ↔ ((k : ℕ) → HasWalk g k a v → ⊥)
    unreachable-exact v = (
      λ e k w. omega (arith, walk-reaches v k w),
      λ lone. ⊎_elim (λ h. omega (arith, distance-le g a v)) (λ h. absurd (lone (D v) (distance-walk g a v h)))
          (le-or-lt unreachable (D v)),
    )

    pub distance-shortest : (v k : ℕ) → HasWalk g k a v → D v ≤ k
    distance-shortest v k w =
        let h = walk-reaches v k w in
        ⊎_elim (λ le. omega arith) (λ lt. distance_least g L w lt) (le-or-lt unreachable k)
