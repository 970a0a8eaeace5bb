-- Conditions on costs D, each about one move, that hold of the true costs and of no others.
--
--   Stable g a D   == D a = 0, D v ≤ unreachable for every vertex v, and D w ≤ D v + cost for every move from v to w
--   Tight g D v    == D w + cost = D v for some move from v to w
--   TightAll g a D == `Tight g D v` for each vertex v but a whose cost is below `unreachable`
--   walked-true    == D v = distance g a v for every vertex v, where D is `Stable` and each cost below `unreachable` is
--                     that of a walk
--   tight-true     == D v = distance g a v for every vertex v, where D is `Stable` and `TightAll`
--   distance-stable, distance-tight == the distances from a are `Stable`, and `TightAll`
use Prim.Native.Nat.{ℕ, zero, suc, ◌+◌, ◌≤◌, ◌<◌}
use mathlib.Core.Path.{◌≡◌, sym, subst}
use mathlib.Core.Logic.{⊎_elim}
use mathlib.Core.Option.{some}
use mathlib.Core.List.{List}
use native.Mathlib.Omega.{arith}
use Rattle.basics.proofs.Order.{le-or-lt, eq-or-ne}
use Rattle.paths.specs.Graph.{Graph, Lawful}
use Rattle.paths.specs.Walk.{Walk, stop, go, HasWalk}
use Rattle.paths.specs.Distance.{unreachable, distance}
use Rattle.paths.proofs.Listing.{at-cost}
use Rattle.paths.proofs.Distance.{LastMove, snoc, unsnoc, walk_inside, distance-le, distance-walk}
use Rattle.paths.proofs.Distance.{distance_least, distance_self, distance-move}

pub record Stable (g : Graph) (a : ℕ) (D : ℕ → ℕ) : Type 0 where
  pub start : D a ≡ 0
  pub at_most : (v : ℕ) → v < g.size → D v ≤ unreachable
  pub relaxed : (m u w : ℕ) → m < g.moves → u < g.size → g.step m u ≡ some w → D w ≤ D u + g.cost m

pub record Tight (g : Graph) (D : ℕ → ℕ) (v : ℕ) : Type 0 where
  pub move : ℕ
  pub to : ℕ
  pub below : move < g.moves
  pub inside : to < g.size
  pub goes : g.step move v ≡ some to
  pub adds_up : D to + g.cost move ≡ D v

abbrev pub TightAll : Graph → ℕ → (ℕ → ℕ) → Type 0
TightAll g a D = (v : ℕ) → v < g.size → (v ≡ a → ⊥) → D v < unreachable → Tight g D v

module _ (g : Graph) (L : Lawful g) (a : ℕ) (in-a : a < g.size) where
  -- ---- of the true costs alone

  module _ (D : ℕ → ℕ) (S : Stable g a D) where
    under-walk : {k u t : ℕ} {l : List ℕ} → Walk g k u t l → u < g.size → D t ≤ D u + k
    under-walk stop i = omega arith
    under-walk (go {u = u} m w lt st wk) i =
        omega (arith, S.relaxed m u w lt i st, under-walk wk (L.inside m u w lt i st))

    -- No cost is above the distance.
    under-distance : (v : ℕ) → v < g.size → D v ≤ distance g a v
    under-distance v i = ⊎_elim (λ h. omega (arith, S.at_most v i))
        (λ h. omega (arith, S.start, under-walk (distance-walk g a v h).1 in-a))
        (le-or-lt unreachable (distance g a v))

    pub walked-true : ((v : ℕ) → v < g.size → D v < unreachable → HasWalk g (D v) a v)
        → (v : ℕ) → v < g.size → D v ≡ distance g a v
    walked-true walked v i = ⊎_elim (λ h. omega (arith, distance-le g a v, under-distance v i))
        (λ h. omega (arith, distance_least g L (walked v i h) h, under-distance v i)) (le-or-lt unreachable (D v))

    module _ (T : TightAll g a D) where
      walk_start : (v : ℕ) → v ≡ a → HasWalk g (D v) a v
      walk_start v e = subst (λ x. HasWalk g (D x) a x) (sym e) (_, at-cost (sym S.start) stop)

      walk-tight : (v : ℕ) → v < g.size → (t : Tight g D v) → HasWalk g (D t.to) a t.to → HasWalk g (D v) a v
      walk-tight v i t wk =
          let e = L.opposite_cost t.move t.below in (
            _,
            at-cost (omega (arith, t.adds_up))
                (snoc g (L.opposite t.move) v (L.opposite_listed t.move t.below)
                (L.opposite_back t.move v t.to t.below i t.goes) wk.1),
          )

      has-walk : (n v : ℕ) → D v ≤ n → v < g.size → D v < unreachable → HasWalk g (D v) a v
      has-walk zero v le i h = ⊎_elim (walk_start v) (λ ne. let t = T v i ne h in
          absurd (omega (arith, t.adds_up, L.low _ t.below))) (eq-or-ne v a)
      has-walk (suc n) v le i h = ⊎_elim (walk_start v) (λ ne. let t = T v i ne h in
          let c = L.low t.move t.below in
          walk-tight v i t (has-walk n t.to (omega (arith, t.adds_up)) t.inside (omega (arith, t.adds_up))))
          (eq-or-ne v a)

      pub tight-true : (v : ℕ) → v < g.size → D v ≡ distance g a v
      tight-true = walked-true (λ v i h. has-walk (D v) v (omega arith) i h)

  -- ---- of the true costs

  pub distance-stable : Stable g a (distance g a)
  distance-stable = record {
    start = distance_self g L a;
    at_most = λ v i. distance-le g a v;
    relaxed = λ m u w lt i st. ⊎_elim (λ h. omega (arith, distance-le g a w)) (distance-move g L a m u w lt st)
        (le-or-lt unreachable (distance g a u + g.cost m));
  }

  -- Without its last move a cheapest walk is a cheapest walk.
  tight-last : (v : ℕ) → distance g a v < unreachable → LastMove g (distance g a v) a v → Tight g (distance g a) v
  tight-last v h r =
      let u = r.from in
      let i = walk_inside g L r.walk.1 in-a in
      let low : distance g a u ≤ r.rest = distance_least g L r.walk (omega (arith, r.total)) in
      let up = distance-move g L a r.move u v r.below r.goes (omega (arith, r.total)) in
      record {
        move = L.opposite r.move;
        to = u;
        below = L.opposite_listed r.move r.below;
        inside = i;
        goes = L.opposite_back r.move u v r.below i r.goes;
        adds_up = omega (arith, r.total, L.opposite_cost r.move r.below);
      }

  pub distance-tight : TightAll g a (distance g a)
  distance-tight v i ne h =
      ⊎_elim (λ e. absurd (ne (sym e.0))) (tight-last v h) (unsnoc g (distance-walk g a v h).1)
