-- No distance on a floor, other than M, passes 16,383 times the dearest move (rule 4.2).
--
--   cost-bound       == a distance below M is at most 16,383 times the dearest move of the neighbourhood
--   cost-small       == with neighbourhoods 4 and 8 a distance below M is at most 9,452,991
--   cost-sixteen     == with neighbourhood 16 a distance below M is at most 36,632,388
use Prim.Native.Nat.{ℕ, ◌-◌, ◌*◌, ◌≤◌, ◌<◌}
use mathlib.Core.Path.{◌≡◌, ap}
use native.Mathlib.Omega.{arith}
use native.Mathlib.Nat.{mul-le-mul_left}
use borrow.Author.Tests.{eq-eqb, ne_eqb}
use Rattle.basics.specs.Bounded.{pick}
use Rattle.floor.specs.Floor.{Floor, vertices}
use Rattle.floor.proofs.Numbers.{vertices-le}
use Rattle.moves.specs.declared.Directions.{Directions}
use Rattle.moves.specs.Table.{Listed}
use Rattle.moves.proofs.Table.{listed-lawful, dearest, listed-cost}
use Rattle.paths.specs.Distance.{unreachable, distance}
use Rattle.paths.proofs.Bound.{distance-bound}
use Rattle.grid.specs.Grid.{floor_graph}
use Rattle.grid.proofs.Lawful.{floor-lawful}

module _ (f : Floor) (wide : f.wide ≤ 127) (high : f.high ≤ 127) {r : Directions} (listed : Listed r) (a v : ℕ)
    (in-a : a < vertices f.wide f.high) (in-v : v < vertices f.wide f.high)
    (reached : distance (floor_graph f r) a v < unreachable) where
  abbrev D : ℕ
  D = distance (floor_graph f r) a v

  pub cost-bound : D ≤ dearest r * 16383
  cost-bound =
      let n = vertices f.wide f.high in
      let b = distance-bound (floor_graph f r) (floor-lawful f r (listed-lawful listed)) a in-a (dearest r)
      (listed-cost listed) v in-v reached in
      omega (arith, b, mul-le-mul_left {m = n - 1} {n = 16383} (dearest r) (omega (arith, vertices-le wide high)))

  pub cost-small : (r.count ≡ 16 → ⊥) → D ≤ 9452991
  cost-small n =
      let e : dearest r ≡ 577 = ap (λ t. pick t 2236 577) (ne_eqb r.count 16 n) in
      omega (arith, cost-bound, ap (λ z. z * 16383) e)

  pub cost-sixteen : r.count ≡ 16 → D ≤ 36632388
  cost-sixteen s =
      let e : dearest r ≡ 2236 = ap (λ t. pick t 2236 577) (eq-eqb r.count 16 s) in
      omega (arith, cost-bound, ap (λ z. z * 16383) e)
