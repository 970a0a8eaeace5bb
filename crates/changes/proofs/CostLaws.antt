-- What the second report means, for every input that is not refused.
--
--   SomeWalk g u t     == an open walk joins u to t
--   NoWalk g u t       == no open walk joins u to t
--   change-came        == change_of x y = 3 exactly where x is M and y is not
--   change-went        == change_of x y = 4 exactly where y is M and x is not
--   byte-came          == a byte of the report is 3 exactly where there is no open walk on the first floor and there is
--                         one on the second
--   byte-went          == a byte of the report is 4 exactly where there is an open walk on the first floor and none on
--                         the second
--   same-costs         == on floors with the same cells the two cost slices are equal, and the slice of changes and the
--                         working slice are 0
use Prim.Native.Nat.{ℕ, ◌*◌, ◌≤◌, ◌<◌}
use mathlib.Core.Path.{◌≡◌, refl, sym, ap, ◌∙◌}
use mathlib.Core.Logic.{◌↔◌, ⊎_elim}
use mathlib.Core.Bool.{Bool, true, false}
use native.Mathlib.Omega.{arith}
use borrow.Author.Tests.{eqb-true, eqb-false}
use lib.Dec.{ltb, eqb}
use lib.ListN.{get_or}
use Rattle.std.proofs.Common.{Ok}
use Rattle.basics.specs.Bounded.{pick}
use Rattle.basics.specs.Lists.{zeros, tabulate}
use Rattle.basics.proofs.Order.{le-or-lt}
use Rattle.basics.proofs.Lists.{get_d_tabulate, zeros_of, length-tabulate}
use Rattle.floor.specs.Floor.{Floor, cell_number, cell_numbered, vertices}
use Rattle.floor.proofs.Numbers.{cell-lt}
use Rattle.floor.proofs.Maps.{numbered-cell}
use Rattle.moves.specs.declared.Directions.{Directions}
use Rattle.moves.specs.Table.{Listed}
use Rattle.moves.proofs.Table.{listed-lawful}
use Rattle.paths.specs.Graph.{Graph}
use Rattle.paths.specs.Walk.{HasWalk}
use Rattle.paths.specs.Distance.{unreachable, distance}
use Rattle.paths.proofs.Distance.{distance-le}
use Rattle.paths.proofs.Bound.{reached-exact, unreachable-exact}
use Rattle.grid.specs.Grid.{floor_graph}
use Rattle.grid.specs.Known.{GoodJob}
use Rattle.grid.proofs.Lawful.{floor-lawful, size-le, graph_same}
use Rattle.changes.specs.Changes.{
  GivenFloor,
  floor_in,
  change_of,
  ReportSlices,
  report_slices_of,
  shape_for,
  costs_on,
  costs_left,
}
use Rattle.changes.proofs.Shaped.{GoodFloors}
use Rattle.changes.proofs.Changing.{change-equal, change-from, change-to}
use Rattle.changes.proofs.Jobs.{fit-floors, job-reportable}
use Rattle.changes.proofs.CellLaws.{Same}

-- ---- one cost

-- The byte for a cost, from its tests in order: equal, from M, to M, fell.
abbrev byte_by : Bool → Bool → Bool → Bool → ℕ
byte_by e f t l = pick e 0 (pick f 3 (pick t 4 (pick l 1 2)))

by_three : (e f t l : Bool) → byte_by e f t l ≡ 3 → (e ≡ false) × (f ≡ true)
by_three true f t l z = absurd (omega arith)
by_three false true t l z = (refl, refl)
by_three false false true l z = absurd (omega arith)
by_three false false false true z = absurd (omega arith)
by_three false false false false z = absurd (omega arith)

by-four : (e f t l : Bool) → byte_by e f t l ≡ 4 → (e ≡ false) × (t ≡ true)
by-four true f t l z = absurd (omega arith)
by-four false true t l z = absurd (omega arith)
by-four false false true l z = (refl, refl)
by-four false false false true z = absurd (omega arith)
by-four false false false false z = absurd (omega arith)

below : (x : ℕ) → x ≤ unreachable → (x ≡ unreachable → ⊥) → x < unreachable
below x l ne = ⊎_elim (λ (k : unreachable ≤ x). absurd (ne (omega arith))) (λ k. k) (le-or-lt unreachable x)

module _ (x y : ℕ) (first-le : x ≤ unreachable) (second-le : y ≤ unreachable) where
  pub change-came : (change_of x y ≡ 3) ↔ ((x ≡ unreachable) × (y < unreachable))
  unfolding change_of
  change-came = (
    λ z.
        let r = by_three (eqb x y) (eqb x unreachable) (eqb y unreachable) (ltb y x) z in
        let from = eqb-true x unreachable r.1 in
        (from, below y second-le (λ e. eqb-false x y r.0 (from ∙ sym e))),
    λ w. sym (change-from x y (λ e. absurd (omega arith)) w.0),
  )

  pub change-went : (change_of x y ≡ 4) ↔ ((x < unreachable) × (y ≡ unreachable))
  unfolding change_of
  change-went = (
    λ z.
        let r = by-four (eqb x y) (eqb x unreachable) (eqb y unreachable) (ltb y x) z in
        let to = eqb-true y unreachable r.1 in
        (below x first-le (λ e. eqb-false x y r.0 (e ∙ sym to)), to),
    λ w. sym (change-to x y (λ e. absurd (omega arith)) (λ e. absurd (omega arith)) w.1),
  )

-- ---- the second report

abbrev pub SomeWalk : Graph → ℕ → ℕ → Type 0
SomeWalk g u t = (k : ℕ) × HasWalk g k u t

abbrev pub NoWalk : Graph → ℕ → ℕ → Type 0
NoWalk g u t = (k : ℕ) → HasWalk g k u t → ⊥

-- The distance is M exactly where no walk leads there.
record Reach (g : Graph) (a v : ℕ) : Type 0 where
  there : (distance g a v < unreachable) ↔ SomeWalk g a v
  none : (distance g a v ≡ unreachable) ↔ NoWalk g a v

reach : (f : Floor) {dirs : Directions} (a v : ℕ) → f.wide ≤ 127 → f.high ≤ 127 → Listed dirs
    → a < vertices f.wide f.high → Reach (floor_graph f dirs) a v
reach f {dirs} a v w h r i =
    let g = floor_graph f dirs in
    let L = floor-lawful f dirs (listed-lawful r) in
    let small = size-le f w h dirs in
    record { there = reached-exact g L a i small v; none = unreachable-exact g L a i small v }

-- Floors of one size with the same cells have the same graph.
same_graph : (f f' : Floor) (dirs : Directions) → f.wide ≡ f'.wide → f.high ≡ f'.high → Same f f'
    → floor_graph f dirs ≡ floor_graph f' dirs
same_graph f f' dirs w h s =
    graph_same f f' dirs w h (λ i j k l.
    let c = cell_number f.wide i j in
    sym (numbered-cell f i j k)
    ∙ s c (cell-lt f.wide f.high i j k l)
    ∙ ap (λ n. cell_numbered f' (cell_number n i j)) w ∙ numbered-cell f' i j (omega (arith, w)))

module _ (p q : GivenFloor) (nb a : ℕ) (s : ReportSlices) {dirs : Directions}
    (fit : shape_for p q nb a s ≡ Ok dirs) where
  abbrev g : Graph
  g = floor_graph (floor_in p) dirs

  abbrev g' : Graph
  g' = floor_graph (floor_in q) dirs

  left_is : costs_left p q nb a s ≡ costs_on g g' a
  unfolding costs_left
  left_is = rw fit

  floors : GoodFloors p q
  floors = fit-floors p q nb a s fit

  job : GoodJob p.wide p.high p.map dirs a a
  job = (job-reportable p q nb a s fit).first

  first_reach : (v : ℕ) → Reach g a v
  first_reach v = reach (floor_in p) a v job.sized.wide job.sized.high job.listed job.start_in

  second-reach : (v : ℕ) → Reach g' a v
  second-reach v =
      let second = floors.second.sized in
      reach (floor_in q) a v second.wide second.high job.listed
      (rw (← floors.wide, ← floors.high) job.start_in)

  module _ (v : ℕ) (inside : v < vertices p.wide p.high) where
    abbrev byte : ℕ
    byte = get_or (costs_left p q nb a s).change v 0

    byte-is : byte ≡ change_of (distance g a v) (distance g' a v)
    unfolding costs_on
    byte-is =
        ap (λ t. get_or t.change v 0) left_is
        ∙ get_d_tabulate (vertices p.wide p.high) v (λ u. change_of (distance g a u) (distance g' a u)) inside

    pub byte-came : (byte ≡ 3) ↔ (NoWalk g a v × SomeWalk g' a v)
    byte-came =
        let x = change-came (distance g a v) (distance g' a v) (distance-le g a v) (distance-le g' a v) in (
          λ e.
              let r = x.0 (sym byte-is ∙ e) in ((first_reach v).none.0 r.0, (second-reach v).there.0 r.1),
          λ w. byte-is ∙ x.1 ((first_reach v).none.1 w.0, (second-reach v).there.1 w.1),
        )

    pub byte-went : (byte ≡ 4) ↔ (SomeWalk g a v × NoWalk g' a v)
    byte-went =
        let x = change-went (distance g a v) (distance g' a v) (distance-le g a v) (distance-le g' a v) in (
          λ e.
              let r = x.0 (sym byte-is ∙ e) in ((first_reach v).there.0 r.0, (second-reach v).none.0 r.1),
          λ w. byte-is ∙ x.1 ((first_reach v).there.1 w.0, (second-reach v).none.1 w.1),
        )

  pub same-costs : Same (floor_in p) (floor_in q)
      → costs_left p q nb a s ≡ report_slices_of (tabulate g.size (distance g a)) (tabulate g.size (distance g a))
      (zeros g.size) (zeros (4 * g.size))
  unfolding costs_on
  same-costs e =
      let d = distance g a in
      let graphs : g ≡ g' = same_graph (floor_in p) (floor_in q) dirs floors.wide floors.high e in
      let none : tabulate g.size (λ v. change_of (d v) (d v)) ≡ zeros g.size =
      zeros_of g.size _ (length-tabulate g.size _) (λ v i.
      get_d_tabulate g.size v (λ u. change_of (d u) (d u)) i ∙ sym (change-equal (d v) (d v) refl)) in
      left_is ∙ ap (λ h. costs_on g h a) (sym graphs)
      ∙ ap (λ l. report_slices_of (tabulate g.size d) (tabulate g.size d) l (zeros (4 * g.size))) none
