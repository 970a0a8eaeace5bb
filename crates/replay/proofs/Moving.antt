-- The open move from one vertex to another, as the code seeks it: where the two see each other, it is the move of the
-- table that leads there.
--
--   step-goes             == the test whether a step from a vertex leads to v
--   open-goes             == an open move goes from u to v exactly where its far end is v and u and v see each other
--   unseen-shut           == `move_cost` is none where u and v do not see each other
--   none-leads            == `move_cost` is none where no move of the table leads from u to v
--   first-leads           == `move_cost` is the cost of the first move that leads from u to v, where the two see each
--                            other
--   on-floor              == what a step takes
use Prim.Native.Nat.{ℕ, ◌≤◌, ◌<◌}
use mathlib.Core.Path.{◌≡◌, refl, sym, ap, ap₂, ◌∙◌}
use mathlib.Core.Logic.{⊎_elim}
use mathlib.Core.Bool.{Bool, true, false, ◌&&◌, and-false}
use mathlib.Core.List.{List}
use native.Mathlib.Omega.{arith}
use borrow.Author.Tests.{eqb-true, ltb-true, ltb-false, lt-ltb}
use lib.Dec.{ltb, eqb}
use Rattle.std.proofs.Common.{None, Some}
use Rattle.std.specs.Option.{option_eq}
use Rattle.std.proofs.Math.Option.{Option as End, none as no_end, some as end_at}
use Rattle.basics.specs.Bounded.{seek}
use Rattle.basics.proofs.Bools.{true-or-false, not-both}
use Rattle.basics.proofs.Bounded.{pick_yes, pick_no, seek_found, seek-least}
use Rattle.floor.specs.Floor.{Floor, column, row}
use Rattle.floor.specs.Known.{Sized}
use Rattle.floor.specs.declared.Vertex.{Vertex}
use Rattle.floor.proofs.Numbers.{number_of}
use Rattle.sight.specs.Sight.{segment, sees}
use Rattle.moves.specs.declared.Move.{Move}
use Rattle.moves.specs.declared.Directions.{Directions}
use Rattle.moves.specs.Moves.{move_at}
use Rattle.moves.specs.Steps.{then_at, far_end_at, end_if, open_end, step_of}
use Rattle.moves.specs.Table.{OnFloor}
use Rattle.moves.proofs.Steps.{when_held}
use Rattle.paths.specs.Graph.{Graph}
use Rattle.grid.specs.Grid.{floor_graph}
use Rattle.replay.specs.Replay.{goes_to, move_cost}

-- ---- what the code finds of one move

pub step-goes : {E : Vertex → Vertex → Bool} → ((a b : Vertex) → E a b ≡ eqb a.0 b.0) → (o : End ℕ) (v : Vertex)
    → option_eq E (step_of o) (Some v) ≡ goes_to o v.0
unfolding step_of
step-goes e no_end v = refl
step-goes e (end_at w) v = e (record { 0 = w }) v

pub on-floor : {w h x y : ℕ} {map : List ℕ} → Sized w h map → x ≤ w → y ≤ h → OnFloor w h x y
on-floor S a b = record { wide = S.wide; high = S.high; column = a; row = b }

-- ---- the move of a graph from u to v

module _ (g : Graph) (u v : ℕ) where
  abbrev goes : ℕ → Bool
  goes m = goes_to (g.step m u) v

  abbrev found : ℕ
  found = seek g.moves 0 goes

  pub none-goes : ((m : ℕ) → m < g.moves → goes m ≡ false) → move_cost g u v ≡ None
  unfolding move_cost
  none-goes h = ⊎_elim
      (λ y. not-both (goes found) (seek_found g.moves 0 goes (omega (arith, ltb-true found g.moves y)))
      (h found (ltb-true found g.moves y)))
      (λ n. pick_no (ltb found g.moves) (Some (g.cost found)) None n) (true-or-false (ltb found g.moves))

  pub first_goes : (m : ℕ) → m < g.moves → ((k : ℕ) → k < m → goes k ≡ false) → goes m ≡ true
      → move_cost g u v ≡ Some (g.cost m)
  unfolding move_cost
  first_goes m l h e =
      let le = seek-least g.moves 0 m goes (omega arith) (omega arith) e in
      let is : found ≡ m = ⊎_elim (λ lt.
      not-both (goes found) (seek_found g.moves 0 goes (omega arith)) (h found (ltb-true found m lt)))
      (λ ge. exactly found m le ge) (true-or-false (ltb found m)) in
      pick_yes (ltb found g.moves) (Some (g.cost found)) None (lt-ltb found g.moves (omega arith))
      ∙ ap (λ k. Some (g.cost k)) is
    where
      exactly : (a b : ℕ) → a ≤ b → ltb a b ≡ false → a ≡ b
      exactly a b p q = omega (arith, ltb-false a b q)

-- ---- on a floor

module _ (f : Floor) (u v : ℕ) where
  abbrev seen : Bool
  seen = sees f (segment f.wide u v)

  abbrev far : Move → ℕ → ℕ → End ℕ
  far m x y = far_end_at f.wide f.high m x y

  pub open-goes : (m : Move)
      → goes_to (open_end f m u) v ≡ (goes_to (far m (column f.wide u) (row f.wide u)) v && seen)
  unfolding end_if then_at
  open-goes m =
      let o = far m (column f.wide u) (row f.wide u) in
      ap (λ n. goes_to (then_at o (λ w. when_held (sees f (segment f.wide n w)) w)) v) (number_of f.wide u) ∙ cases o
    where
      held : (w : ℕ) (e s : Bool) → eqb w v ≡ e → sees f (segment f.wide u w) ≡ s
          → goes_to (when_held s w) v ≡ (eqb w v && seen)
      held w true s p q = cases s q
        where
          same : seen ≡ sees f (segment f.wide u w)
          same = ap (λ z. sees f (segment f.wide u z)) (sym (eqb-true w v p))

          cases : (s : Bool) → sees f (segment f.wide u w) ≡ s → goes_to (when_held s w) v ≡ (eqb w v && seen)
          cases true q = p ∙ sym (ap₂ ◌&&◌ p (same ∙ q))
          cases false q = sym (ap₂ ◌&&◌ p (same ∙ q))
      held w false true p q = p ∙ sym (ap (λ b. b && seen) p)
      held w false false p q = sym (ap (λ b. b && seen) p)

      cases : (o : End ℕ)
          → goes_to (then_at o (λ w. when_held (sees f (segment f.wide u w)) w)) v ≡ (goes_to o v && seen)
      cases no_end = refl
      cases (end_at w) = held w (eqb w v) (sees f (segment f.wide u w)) refl refl

  module _ (r : Directions) where
    abbrev graph : Graph
    graph = floor_graph f r

    pub unseen-shut : seen ≡ false → None ≡ move_cost graph u v
    unseen-shut e = sym (none-goes graph u v (λ m l.
        let there = goes_to (far (move_at r m) (column f.wide u) (row f.wide u)) v in
        open-goes (move_at r m) ∙ ap (λ b. there && b) e ∙ and-false there))

    -- The column x and the row y of u, as the code has them.
    module _ (x y : ℕ) (col : x ≡ column f.wide u) (row_is : y ≡ row f.wide u) where
      -- Move m leads to v.
      abbrev leads : ℕ → Bool
      leads m = goes_to (far (move_at r m) x y) v

      leads-is : (m : ℕ) → leads m ≡ goes_to (far (move_at r m) (column f.wide u) (row f.wide u)) v
      leads-is m = rw (col, row_is)

      open-leads : (m : ℕ) → goes_to (graph.step m u) v ≡ (leads m && seen)
      open-leads m = open-goes (move_at r m) ∙ ap (λ b. b && seen) (sym (leads-is m))

      pub none-leads : ((m : ℕ) → m < r.count → leads m ≡ false) → None ≡ move_cost graph u v
      none-leads h = sym (none-goes graph u v (λ m l. open-leads m ∙ ap (λ b. b && seen) (h m l)))

      pub first-leads : seen ≡ true → (m : ℕ) → m < r.count → ((k : ℕ) → k < m → leads k ≡ false) → leads m ≡ true
          → Some (move_at r m).cost ≡ move_cost graph u v
      first-leads s m l h e = sym (first_goes graph u v m l
          (λ k lt. open-leads k ∙ ap (λ b. b && seen) (h k lt)) (open-leads m ∙ ap₂ ◌&&◌ e s))
