-- docs/RULES.md, 15.1 to 15.4: the cheapest walks from a to b as a flow through the vertices on the way. As in
-- specs/Route, the test `on` of what is on the way, the costs D and the counts F and B are functions of the vertex.
--
--   flow_along g on D F B v m == the flow along move m of v: F v * B w where the move is open and leads to a w on the
--                                way with D w = D v + its cost, else 0
--   flow_out g on D F B v     == the sum of `flow_along g on D F B v m` over the moves m
--   leads_to g u m v          == move m of u is open and leads to v
--   flow_in g on D F B v      == the sum of the flow along the moves that lead to v, from every u on the way
--   Flow g a b on D F B t     == at each vertex on the way, F v * B v = flow_out but at b, and F v * B v = flow_in but
--                                at a; at a and at b it is the total t
use Rattle.std.specs.Prelude.{ℕ, ◌*◌, ◌<◌, ◌≡◌, Bool, true, false, eqb}
use Rattle.std.proofs.Math.Option.{none, some}
use Rattle.basics.specs.Bounded.{pick, sum}
use Rattle.paths.specs.Graph.{Graph}
use Rattle.paths.specs.Route.{candidate}

-- `candidate g on D v m` is the far end w of move m, where it is on the way with D w = D v + its cost.
unfoldable pub flow_along : Graph → (ℕ → Bool) → (ℕ → ℕ) → (ℕ → ℕ) → (ℕ → ℕ) → ℕ → ℕ → ℕ
flow_along g on D F B v m = elim (candidate g on D v m) [ none ↦ 0 | some w ↦ F v * B w ]

unfoldable pub flow_out : Graph → (ℕ → Bool) → (ℕ → ℕ) → (ℕ → ℕ) → (ℕ → ℕ) → ℕ → ℕ
flow_out g on D F B v = sum g.moves (flow_along g on D F B v)

unfoldable pub leads_to : Graph → ℕ → ℕ → ℕ → Bool
leads_to g u m v = elim (g.step m u) [ none ↦ false | some w ↦ eqb w v ]

unfoldable pub flow_in : Graph → (ℕ → Bool) → (ℕ → ℕ) → (ℕ → ℕ) → (ℕ → ℕ) → ℕ → ℕ
flow_in g on D F B v =
    sum g.size (λ u. pick (on u) (sum g.moves (λ m. pick (leads_to g u m v) (flow_along g on D F B u m) 0)) 0)

pub record Flow (g : Graph) (a b : ℕ) (on : ℕ → Bool) (D F B : ℕ → ℕ) (t : ℕ) : Type 0 where
  pub leaves : (v : ℕ) → v < g.size → on v ≡ true → (v ≡ b → ⊥) → F v * B v ≡ flow_out g on D F B v
  pub comes : (v : ℕ) → v < g.size → on v ≡ true → (v ≡ a → ⊥) → F v * B v ≡ flow_in g on D F B v
  pub start : F a * B a ≡ t
  pub end : F b * B b ≡ t
