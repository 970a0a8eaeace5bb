-- The central route: there is always a next vertex before b, and the route is a cheapest walk from a to b.
--
--   next-there   == on the way before b there is a next vertex, whatever counts T the rule goes by
--   next-arrives == the rule comes from a vertex v on the way to b within n points, where fewer than n vertices are
--                   nearer to b than v, whatever T is
--   next-walk    == the list that the rule follows from a vertex on the way to b is a cheapest walk, whatever T is
--   route-arrives, route-walk, route-length, route-begins, route_inside == the central route comes to b, is a cheapest
--                        walk, has at most as many points as there are vertices, begins with a, and its points are
--                        vertices
use Prim.Native.Nat.{ℕ, zero, suc, ◌≤◌, ◌<◌}
use mathlib.Core.Path.{◌≡◌, sym, subst}
use mathlib.Core.Logic.{⊎_elim}
use mathlib.Core.Bool.{true}
use mathlib.Core.Option.{Option, some}
use mathlib.Core.List.{List, [], ◌∷◌}
use native.Mathlib.Omega.{arith}
use lib.ListN.{length, get_or}
use Rattle.basics.proofs.Order.{eq-or-ne}
use Rattle.paths.specs.Graph.{Graph, Lawful}
use Rattle.paths.specs.Walk.{Walk, stop}
use Rattle.paths.specs.Distance.{unreachable, distance, path_count}
use Rattle.paths.specs.Route.{on_way, count_from, count_to, traversals, candidate, next_vertex, follow, central_route}
use Rattle.paths.proofs.Listing.{go-at, at-cost}
use Rattle.paths.proofs.Distance.{distance_self}
use Rattle.paths.proofs.Bound.{nearer, nearer-falls, nearer-lt}
use Rattle.paths.proofs.Reverse.{distance-sym}
use Rattle.paths.proofs.Counts.{path_count-pos}
use Rattle.paths.proofs.Way.{way-cases, way-start, traversals-pos}
use Rattle.paths.proofs.Choice.{Next, best-some, next-cases, next_inside}
use Rattle.paths.proofs.Flow.{flow-true, flow-onward}
use Rattle.paths.proofs.Follow.{Arrives, end, on, follow-end, follow-on, follow-length, follow-inside}
use Rattle.paths.proofs.Follow.{arrives-begins, arrives-pos}

module _ (g : Graph) (L : Lawful g) (a b : ℕ) (in-a : a < g.size) (in_b : b < g.size) where
  abbrev D : ℕ → ℕ
  D = distance g a

  abbrev E : ℕ → ℕ
  E v = distance g v b

  -- ---- a next vertex

  module _ (T : ℕ → ℕ) where
    abbrev next : ℕ → Option ℕ
    next = next_vertex g (on_way g a b) D T

    -- By the equations of flow: on the way the traversal count is positive, so that before b a move leads on.
    pub next-there : (v : ℕ) → v < g.size → on_way g a b v ≡ true → (v ≡ b → ⊥)
        → (w : ℕ) × (next_vertex g (on_way g a b) (distance g a) T v ≡ some w)
    unfolding next_vertex traversals
    next-there v i o ne =
        let reached = (way-cases g a b v o).reached in
        let r = flow-onward g L a b (path_count g a b) (on_way g a b) D (count_from g a b) (count_to g a b)
        (flow-true g L a b in-a in_b reached) (path_count-pos g L a b reached) v i o ne (traversals-pos g L a b v o) in
        best-some T (candidate g (on_way g a b) D v) g.moves r.move r.to r.below r.leads

    -- ---- the rule comes to b

    next-nearer : (v w : ℕ) → v < g.size → on_way g a b v ≡ true → (r : Next g (on_way g a b) D v w)
        → nearer g L b in_b w < nearer g L b in_b v
    next-nearer v w i o r =
        let c = r.by in
        let j = L.inside r.move v w r.below i c.goes in
        let p = way-cases g a b v o in
        let q = way-cases g a b w c.is_on_way in
        let l = L.low r.move r.below in
        let s = distance-sym g L v b i in_b in
        let t = distance-sym g L w b j in_b in
        nearer-falls g L b in_b w v j (omega (arith, c.adds_up))

    pub next-arrives : (n v : ℕ) → nearer g L b in_b v < n → v < g.size → on_way g a b v ≡ true
        → Arrives (next_vertex g (on_way g a b) (distance g a) T) b n v
    next-arrives zero v lt i o = absurd (omega arith)
    next-arrives (suc n) v lt i o = ⊎_elim end (λ ne.
        let r = next-there v i o ne in
        let c = next-cases g (on_way g a b) D T v r.0 r.1 in
        let q = next-nearer v r.0 i o c in
        on r.0 ne r.1
        (next-arrives n r.0 (omega arith) (next_inside g L (on_way g a b) D T v r.0 i r.1) c.by.is_on_way))
        (eq-or-ne v b)

    pub next-walk : {f v : ℕ} → on_way g a b v ≡ true → Arrives (next_vertex g (on_way g a b) (distance g a) T) b f v
        → Walk g (distance g v b) v b (follow (next_vertex g (on_way g a b) (distance g a) T) b f v)
    next-walk o (end {f} {v} e) =
        rw (follow-end next b f v e)
        (subst (λ x. Walk g (E x) x b (x ∷ [])) (sym e) (at-cost (sym (distance_self g L b)) stop))
    next-walk o (on {f} {v} w ne e r) =
        let c = next-cases g (on_way g a b) D T v w e in
        let p = way-cases g a b v o in
        let q = way-cases g a b w c.by.is_on_way in
        rw (follow-on next b f v w ne e)
        (go-at c.move w c.below c.by.goes (next-walk c.by.is_on_way r) (omega (arith, c.by.adds_up)))

  -- ---- the central route

  module _ (reached : distance g a b < unreachable) where
    pub route-arrives : Arrives (next_vertex g (on_way g a b) (distance g a) (traversals g a b)) b g.size a
    route-arrives =
        next-arrives (traversals g a b) g.size a (nearer-lt g L b in_b a in-a) in-a (way-start g L a b reached)

    pub route-walk : Walk g (distance g a b) a b (central_route g a b)
    unfolding central_route
    route-walk = next-walk (traversals g a b) (way-start g L a b reached) route-arrives

    pub route-begins : (r : List ℕ) × (central_route g a b ≡ a ∷ r)
    unfolding central_route
    route-begins = arrives-begins route-arrives

    pub route-pos : 1 ≤ length (central_route g a b)
    unfolding central_route
    route-pos = arrives-pos route-arrives

  pub route-length : length (central_route g a b) ≤ g.size
  unfolding central_route
  route-length = follow-length _ b g.size a

  pub route_inside : (i : ℕ) → i < length (central_route g a b) → get_or (central_route g a b) i 0 < g.size
  unfolding central_route
  route_inside i l =
      follow-inside _ b g.size (λ v w j e. next_inside g L (on_way g a b) D (traversals g a b) v w j e)
      g.size a i in-a l
