-- The test of handed-in costs: of one vertex, of a row, and of every row.
--
--   true-list, list-true       == true costs are the list of the distances
--   vertex-tested              == the test by the least that a move gives is that of the moves of the mask
--   column-readable            == the moves from the vertex in column x can be read by its mask
--   column-right               == what the code finds of its cost, said of the graph of the moves that leave
--   start-false                == a cost at the start other than 0 is false
--   rows_true                  == where the cost of a is 0, the tests of all rows say whether the costs are true
use Prim.Native.Nat.{ℕ, suc, ◌≤◌}
use mathlib.Core.Path.{◌≡◌, sym, ap, ◌∙◌}
use mathlib.Core.Bool.{Bool, true, false}
use mathlib.Core.List.{List}
use borrow.Author.Tests.{eq-eqb, ne_eqb}
use lib.ListN.{length}
use Rattle.basics.specs.Bounded.{every}
use Rattle.basics.specs.Lists.{tabulate, same}
use Rattle.basics.proofs.Bools.{iff-eq}
use Rattle.basics.proofs.Bounded.{every-rows}
use Rattle.basics.proofs.Lists.{same_refl, same-eq}
use Rattle.floor.specs.Floor.{floor_of, vertices, number}
use Rattle.moves.specs.declared.Directions.{Directions}
use Rattle.moves.specs.Table.{OnFloor}
use Rattle.moves.proofs.Table.{listed-lawful}
use Rattle.masks.specs.Masks.{Leaving}
use Rattle.offsets.specs.declared.Class.{Class}
use Rattle.offsets.specs.Offsets.{Shifts}
use Rattle.offsets.specs.Classes.{Classes}
use Rattle.paths.specs.Graph.{Graph, Lawful}
use Rattle.paths.specs.Distance.{unreachable, distance}
use Rattle.paths.specs.Local.{entry, right_costs}
use Rattle.paths.proofs.CostTest.{right_costs-list}
use Rattle.grid.specs.Grid.{floor_graph}
use Rattle.grid.specs.Leaving.{leaving_graph}
use Rattle.grid.specs.Known.{GoodJob}
use Rattle.grid.proofs.Lawful.{floor-lawful}
use Rattle.neighbours.specs.Reading.{mask_graph, Readable}
use Rattle.neighbours.specs.Least.{right_cost_in, right_least}
use Rattle.neighbours.proofs.Agree.{right_cost_in-agrees}
use Rattle.neighbours.proofs.Classed.{mask-classed}
use Rattle.neighbours.proofs.Columns.{column-shows}
use Rattle.neighbours.proofs.Half.{half-costs}
use Rattle.neighbours.proofs.Incoming.{costs-in}
use Rattle.neighbours.proofs.Leaving.{leaving-half}
use Rattle.neighbours.proofs.Least.{least-right}
use Rattle.neighbours.proofs.Shown.{Shows}
use Rattle.given_costs.specs.Given.{costs_true}
use Rattle.given_costs.specs.Tests.{column_test, row_test}

-- ---- the whole list

module _ (g : Graph) (a : ℕ) (d : List ℕ) where
  abbrev truth : List ℕ
  truth = tabulate g.size (distance g a)

  pub true-list : costs_true g a d ≡ true → d ≡ truth
  unfolding costs_true
  true-list e = same-eq d truth e

  pub list-true : d ≡ truth → costs_true g a d ≡ true
  unfolding costs_true
  list-true e = ap (same d) (sym e) ∙ same_refl d

-- ---- one vertex

pub vertex-tested : {n mask v : ℕ} {r : Directions} {s : List ℕ} {c : List Class} {t : Bool} → Readable n r s mask v
    → Classes r c → (a : ℕ) (D : ℕ → ℕ) → D v ≤ unreachable → t ≡ right_least s c mask a D v
    → t ≡ right_cost_in (mask_graph n r s mask) a D v
vertex-tested {n} {mask} {v} {r} {s} R C a D small is =
    is ∙ sym (least-right (mask-classed C s mask v R.lawful n) D small a)

module _ {w h : ℕ} {l : List ℕ} {r : Directions} {a : ℕ} (J : GoodJob w h l r a a) where
  abbrev g : Graph
  g = floor_graph (floor_of w h l) r

  -- The graph of the moves that leave a vertex.
  abbrev k : Graph
  k = leaving_graph (floor_of w h l) r

  module _ {s : List ℕ} (S : Shifts w r s) {x y mask v : ℕ} (o : OnFloor w h x y)
      (is : Leaving (floor_of w h l) r x y mask) (numbered : v ≡ number w x y) where
    shown : Shows k r s mask v
    shown = column-shows J S o is numbered

    pub column-readable : {n : ℕ} → n ≡ vertices w h → Readable n r s mask v
    column-readable len = rw len shown.readable

    pub column-right : {n : ℕ} {t : Bool} (d : List ℕ) → n ≡ vertices w h
        → t ≡ right_cost_in (mask_graph n r s mask) a (entry d) v → t ≡ column_test k a d w y x
    column-right d len found =
        (rw len at found) ∙ right_cost_in-agrees shown.agrees (entry d) a ∙ ap (right_cost_in k a (entry d)) numbered

  -- ---- every row

  module _ (d : List ℕ) (len : length d ≡ vertices w h) where
    rules : Lawful g
    rules = floor-lawful (floor_of w h l) r (listed-lawful J.listed)

    tested-true : right_costs g a (entry d) ≡ costs_true g a d
    tested-true =
        let exact = right_costs-list g rules a J.start_in d len in
        iff-eq (right_costs g a (entry d)) (costs_true g a d) (λ e. list-true g a d (exact.0 e))
        (λ e. exact.1 (true-list g a d e))

    pub start-false : (entry d a ≡ 0 → ⊥) → false ≡ costs_true g a d
    unfolding right_costs
    start-false n = rw (ne_eqb (entry d a) 0 n) at tested-true

    pub rows_true : entry d a ≡ 0 → every (suc h) (row_test k a d w) ≡ costs_true g a d
    unfolding right_costs
    rows_true z =
        sym (every-rows (suc h) (suc w) (right_cost_in k a (entry d)))
        ∙ sym (half-costs (leaving-half (floor_of w h l) r (listed-lawful J.listed) a J.start_free) (entry d))
        ∙ costs-in g rules (entry d) a ∙ (rw (eq-eqb (entry d a) 0 z) at tested-true)
