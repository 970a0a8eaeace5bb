-- The next vertices of the sheet: they are vertices, and the central route is the walk through them from a.
--
--   number-next, -end, -off == `next_number` on the way before b is the next vertex, at b it is b, and off the way 0
--   number-inside           == next_number g a b v is a vertex
--   numbers-arrive          == the walk through the next vertices from a comes to b
--   route-numbers           == the walk through the next vertices from a is the central route
use Prim.Native.Nat.{ℕ, ◌<◌}
use mathlib.Core.Path.{◌≡◌, sym, ap, ◌∙◌}
use mathlib.Core.Bool.{true, false}
use mathlib.Core.Logic.{⊎_elim}
use mathlib.Core.List.{◌∷◌}
use mathlib.Core.Option.{Option, some}
use native.Mathlib.Omega.{arith}
use borrow.Author.Tests.{eq-eqb, ne_eqb}
use Rattle.basics.proofs.Bools.{true-or-false}
use Rattle.basics.proofs.Order.{eq-or-ne}
use Rattle.paths.specs.Graph.{Graph, Lawful}
use Rattle.paths.specs.Distance.{unreachable, distance}
use Rattle.paths.specs.Route.{on_way, traversals, next_vertex, follow, central_route, next_number}
use Rattle.paths.proofs.Way.{way-start}
use Rattle.paths.proofs.Choice.{next-cases, next_inside}
use Rattle.paths.proofs.Follow.{Arrives, end, on, follow-end, follow-on}
use Rattle.paths.proofs.Route.{next-there, route-arrives}

module _ (g : Graph) (L : Lawful g) (a b : ℕ) (in-a : a < g.size) (in_b : b < g.size) where
  abbrev next : ℕ → Option ℕ
  next = next_vertex g (on_way g a b) (distance g a) (traversals g a b)

  abbrev numbered : ℕ → Option ℕ
  numbered v = some (next_number g a b v)

  -- ---- one vertex

  pub number-off : (v : ℕ) → on_way g a b v ≡ false → next_number g a b v ≡ 0
  unfolding next_number
  number-off v o = rw o

  pub number-end : (v : ℕ) → on_way g a b v ≡ true → v ≡ b → next_number g a b v ≡ b
  unfolding next_number
  number-end v o e = rw (o, eq-eqb v b e)

  pub number-next : (v w : ℕ) → on_way g a b v ≡ true → (v ≡ b → ⊥)
      → next_vertex g (on_way g a b) (distance g a) (traversals g a b) v ≡ some w → next_number g a b v ≡ w
  unfolding next_number
  number-next v w o ne e = rw (o, ne_eqb v b ne, e)

  pub number-inside : (v : ℕ) → v < g.size → next_number g a b v < g.size
  number-inside v i = ⊎_elim
      (λ o. ⊎_elim
      (λ e. omega (arith, number-end v o e))
      (λ ne.
      let r = next-there g L a b in-a in_b (traversals g a b) v i o ne in
      omega (
        arith,
        number-next v r.0 o ne r.1,
        next_inside g L (on_way g a b) (distance g a) (traversals g a b) v r.0 i r.1,
      )) (eq-or-ne v b))
      (λ o. omega (arith, number-off v o)) (true-or-false (on_way g a b v))

  -- ---- the walk through them

  numbers-from : {f v : ℕ} → on_way g a b v ≡ true → Arrives next b f v
      → Arrives numbered b f v × (follow next b f v ≡ follow numbered b f v)
  numbers-from o (end {f} {v} e) = (end e, follow-end next b f v e ∙ sym (follow-end numbered b f v e))
  numbers-from o (on {f} {v} w ne e r) =
      let c = next-cases g (on_way g a b) (distance g a) (traversals g a b) v w e in
      let rest = numbers-from c.by.is_on_way r in
      let q = ap some (number-next v w o ne e) in (
        on w ne q rest.0,
        follow-on next b f v w ne e ∙ ap (λ l. v ∷ l) rest.1 ∙ sym (follow-on numbered b f v w ne q),
      )

  module _ (reached : distance g a b < unreachable) where
    pub numbers-arrive : Arrives (λ v. some (next_number g a b v)) b g.size a
    numbers-arrive = (numbers-from (way-start g L a b reached) (route-arrives g L a b in-a in_b reached)).0

    pub route-numbers : central_route g a b ≡ follow (λ v. some (next_number g a b v)) b g.size a
    unfolding central_route
    route-numbers = (numbers-from (way-start g L a b reached) (route-arrives g L a b in-a in_b reached)).1
