-- The vertices on the way in the order in which a pass comes to them.
--
--   place-lt       == turn_place n i rev < n where i < n
--   costs_len      == the list of the costs from s has a place for each vertex
--   costs-at       == place u of the list of the costs from s has the distance from s to u
--   agrees         == the moves in the mask of a vertex are its moves in the graph
--   turn-before    == of two vertices on the way the cheaper one has its turn first
--   order-turned   == the order of the way from b, read from the back, is an order of the way from a: on the way the
--                     cost from a rises as the cost from b falls
use Prim.Native.Nat.{ℕ, ◌+◌, ◌-◌, ◌<◌}
use mathlib.Core.Path.{◌≡◌, ap, ◌∙◌}
use mathlib.Core.Logic.{⊎_elim}
use mathlib.Core.Bool.{Bool, true, false}
use mathlib.Core.List.{List}
use native.Mathlib.Omega.{arith}
use lib.ListN.{length}
use Rattle.basics.specs.Lists.{tabulate}
use Rattle.basics.proofs.Order.{le-or-lt}
use Rattle.basics.proofs.Lists.{length-tabulate, get_d_tabulate}
use Rattle.paths.specs.Graph.{Graph, Lawful}
use Rattle.paths.specs.Distance.{distance}
use Rattle.paths.specs.Route.{on_way}
use Rattle.paths.specs.Local.{entry}
use Rattle.paths.proofs.Reverse.{distance-sym}
use Rattle.paths.proofs.Way.{way-cases, way-turn}
use Rattle.moves.specs.declared.Directions.{Directions}
use Rattle.neighbours.specs.Reading.{mask_graph}
use Rattle.neighbours.proofs.Agree.{Agrees}
use Rattle.workspace.specs.Regions.{mask_at}
use Rattle.counts.specs.Passes.{turn_place, WayOrder, Passable}

pub place-lt : (n i : ℕ) (rev : Bool) → i < n → turn_place n i rev < n
place-lt n i true l = omega arith
place-lt n i false l = l

module _ (g : Graph) (s : ℕ) {d : List ℕ} (costs : d ≡ tabulate g.size (distance g s)) where
  pub costs_len : length d ≡ g.size
  costs_len = ap length costs ∙ length-tabulate g.size (distance g s)

  pub costs-at : (u : ℕ) → u < g.size → entry d u ≡ distance g s u
  costs-at u i = ap (λ l. entry l u) costs ∙ get_d_tabulate g.size u (distance g s) i

module _ {g : Graph} {dirs : Directions} {shifts : List ℕ} {s x n : ℕ} {rev : Bool} {d work : List ℕ}
    (K : Passable g dirs shifts s x n rev d work) where
  pub agrees : (u : ℕ) → u < g.size → Agrees (mask_graph g.size dirs shifts (mask_at g.size work u)) g u
  agrees u i = (K.masked.shows u i).agrees

pub turn-before : {g : Graph} {s x n : ℕ} {P : ℕ → ℕ} → WayOrder g s x n P → (i u : ℕ) → i < n → u < g.size
    → on_way g s x u ≡ true → distance g s u < distance g s (P i) → (j : ℕ) × (j < i) × (P j ≡ u)
turn-before {g} {s} {x} {n} {P} W i u l k o lt =
    let r = W.found u k o in
    let c = ap (distance g s) r.2 in
    (r.0, ⊎_elim (λ ge. absurd (omega (arith, W.rising i r.0 ge r.1))) (λ h. h) (le-or-lt i r.0), r.2)

pub order-turned : {g : Graph} {a b n : ℕ} {P : ℕ → ℕ} → Lawful g → a < g.size → b < g.size → WayOrder g b a n P
    → WayOrder g a b n (λ i. P (n - 1 - i))
order-turned {g} {a} {b} {n} {P} L in-a in_b W = record {
  inside = inside;
  on = on;
  found = λ u i o.
      let r = W.found u i (way-turn g L b a u in_b in-a i ∙ o) in
      (n - 1 - r.0, omega (arith, r.1), ap P (omega (arith, r.1)) ∙ r.2);
  rising = λ i j le l.
      let falls = W.rising (n - 1 - j) (n - 1 - i) (omega arith) (omega arith) in
      omega (arith, falls, adds_up i (omega arith), adds_up j l, back i (omega arith), back j l);
}
  where
    inside : (i : ℕ) → i < n → P (n - 1 - i) < g.size
    inside i l = W.inside (n - 1 - i) (omega arith)

    on : (i : ℕ) → i < n → on_way g a b (P (n - 1 - i)) ≡ true
    on i l = way-turn g L a b (P (n - 1 - i)) in-a in_b (inside i l) ∙ W.on (n - 1 - i) (omega arith)

    adds_up : (i : ℕ) → i < n
        → distance g a (P (n - 1 - i)) + distance g (P (n - 1 - i)) b ≡ distance g a b
    adds_up i l = (way-cases g a b (P (n - 1 - i)) (on i l)).adds_up

    back : (i : ℕ) → i < n → distance g (P (n - 1 - i)) b ≡ distance g b (P (n - 1 - i))
    back i l = distance-sym g L (P (n - 1 - i)) b (inside i l) in_b
