-- The central route: from A, always to the vertex with the highest traversal count, first in move order among equals.
-- The rules take the costs D, E and the counts T as functions of the vertex; `central_route` applies them to the true
-- ones.
--
--   on_shortest D E b v    == v is on the way (rule 4.5): on a cheapest walk to b, by costs D from the start and E to b
--   on_way g a b v         == v is on the way from a to b, by the true costs
--   count_from g a b v     == f(v) of the sheet: the path count from a to v where v is on the way, 0 elsewhere
--   count_to g a b v       == b(v) of the sheet: the path count from v to b where v is on the way, 0 elsewhere
--   traversals g a b v     == the traversal count f(v) * b(v)
--   candidate g on D v m   == the far end w of move m from v where the route may go on to w, else none
--   next_vertex g on D T v == the vertex to which the route goes from v; none where there is no candidate. On the way
--                             before b there always is one (`flow-walk`, `next-there`)
--   follow next b n v      == the vertices from v to b by the rule `next`, at most n of them
--   central_route g a b    == the vertices of the central route, a and b among them
--   next_number g a b v    == the next vertex of the sheet: that of the central rule on the way before b, b at b, 0
--                             elsewhere
use Rattle.std.specs.Prelude.{ℕ, zero, suc, ◌+◌, ◌*◌, Bool, true, false, ◌&&◌, List, [], ◌∷◌, ltb, eqb}
use Rattle.std.proofs.Math.Option.{Option, none, some}
use Rattle.basics.specs.Bounded.{pick}
use Rattle.paths.specs.Graph.{Graph}
use Rattle.paths.specs.Distance.{unreachable, distance, path_count}

-- Where D b is below `unreachable`, the equation puts D v and E v below it too.
unfoldable pub on_shortest : (ℕ → ℕ) → (ℕ → ℕ) → ℕ → ℕ → Bool
on_shortest D E b v = ltb (D b) unreachable && eqb (D v + E v) (D b)

unfoldable pub on_way : Graph → ℕ → ℕ → ℕ → Bool
on_way g a b = on_shortest (distance g a) (λ v. distance g v b) b

unfoldable pub count_from : Graph → ℕ → ℕ → ℕ → ℕ
count_from g a b v = pick (on_way g a b v) (path_count g a v) 0

unfoldable pub count_to : Graph → ℕ → ℕ → ℕ → ℕ
count_to g a b v = pick (on_way g a b v) (path_count g v b) 0

unfoldable pub traversals : Graph → ℕ → ℕ → ℕ → ℕ
traversals g a b v = count_from g a b v * count_to g a b v

-- The far end w of the open move m from v, where w is on the way and D w = D v + the cost of m; else none.
unfoldable pub candidate : Graph → (ℕ → Bool) → (ℕ → ℕ) → ℕ → ℕ → Option ℕ
candidate g on D v m =
    elim (g.step m v) [
      | none ↦ none
      | some w ↦ elim (on w && eqb (D w) (D v + g.cost m)) [ true ↦ some w | false ↦ none ]
    ]

-- Of two candidates the one with the higher count; the first where the counts are equal.
unfoldable pub better : (ℕ → ℕ) → Option ℕ → Option ℕ → Option ℕ
better T none c = c
better T (some u) none = some u
better T (some u) (some w) = elim (ltb (T u) (T w)) [ true ↦ some w | false ↦ some u ]

-- The best of the candidates c 0, .. c (n - 1).
unfoldable pub best : (ℕ → ℕ) → (ℕ → Option ℕ) → ℕ → Option ℕ
best T c zero = none
best T c (suc n) = better T (best T c n) (c n)

unfoldable pub next_vertex : Graph → (ℕ → Bool) → (ℕ → ℕ) → (ℕ → ℕ) → ℕ → Option ℕ
next_vertex g on D T v = best T (candidate g on D v) g.moves

unfoldable pub follow : (ℕ → Option ℕ) → ℕ → ℕ → ℕ → List ℕ
follow next b zero v = []
follow next b (suc n) v =
    v ∷ elim (eqb v b) [ true ↦ [] | false ↦ elim (next v) [ none ↦ [] | some w ↦ follow next b n w ] ]

unfoldable pub central_route : Graph → ℕ → ℕ → List ℕ
central_route g a b = follow (next_vertex g (on_way g a b) (distance g a) (traversals g a b)) b g.size a

-- w of some w, and 0 of none.
abbrev pub or_zero : Option ℕ → ℕ
or_zero none = 0
or_zero (some w) = w

unfoldable pub next_number : Graph → ℕ → ℕ → ℕ → ℕ
next_number g a b v =
    pick (on_way g a b v)
    (pick (eqb v b) b (or_zero (next_vertex g (on_way g a b) (distance g a) (traversals g a b) v))) 0

-- Named on an `unfolding` line, this opens the rules of the route, for a theorem that antt computes.
unfoldable pub route-opened : ℕ
unfolding on_shortest candidate better best next_vertex follow
route-opened = 0
