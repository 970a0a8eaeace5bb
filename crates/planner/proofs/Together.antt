-- The two operations together are the planner of docs/RULES.md, section 7.
--
--   finish-true, -false == the second operation on true costs, and on false ones, where the job is fit and the slices
--                          have the right lengths
--   costs-then-finish   == on slices of the right lengths, whatever they hold, the second operation on the d of the
--                          first gives the answer of the job, and all slices are left as rule 6.4 says
use Prim.Native.Nat.{ℕ, ◌*◌}
use mathlib.Core.Path.{◌≡◌, refl, sym, ◌∙◌}
use mathlib.Core.Bool.{true, false}
use mathlib.Core.List.{List}
use borrow.Author.Tests.{eq-eqb}
use lib.Dec.{eqb}
use lib.ListN.{length}
use Rattle.std.specs.Prelude.{Ok, Err}
use Rattle.basics.specs.Lists.{tabulate, zeros}
use Rattle.basics.proofs.Bools.{and_left}
use Rattle.basics.proofs.Lists.{length-tabulate}
use Rattle.floor.specs.Floor.{floor_of, vertices}
use Rattle.floor.specs.declared.Refusal.TheVariants.{FalseSheet}
use Rattle.moves.specs.declared.Directions.{Directions}
use Rattle.paths.specs.Graph.{Graph}
use Rattle.paths.specs.Distance.{distance}
use Rattle.grid.specs.Grid.{floor_graph, job_shape}
use Rattle.grid.proofs.Jobs.{start-fit}
use Rattle.given_costs.specs.Given.{costs_true}
use Rattle.given_costs.proofs.Tested.{list-true}
use Rattle.planner.specs.Plan.{CostSlices, cost_slices_of, costs_sized, costs_answer, costs_left}
use Rattle.planner.specs.Plan.{Slices, slices_sized, route_answer, route_left, finish_answer, finish_left}

-- The first operation answers 0, and leaves the true costs in d and 0 in its working slice; the second, on that d,
-- gives the answer of the job and leaves its slices as the job does.
pub record Together (w h : ℕ) (map : List ℕ) (nb a b : ℕ) (g : Graph) (s : CostSlices) (t : Slices) : Type 0 where
  pub first : costs_answer w h map nb a s ≡ Ok tt
  pub costs : costs_left w h map nb a s ≡ cost_slices_of (tabulate g.size (distance g a)) (zeros (4 * g.size))
  pub answer : finish_answer w h map nb a b (costs_left w h map nb a s).d t ≡ route_answer g a b
  pub left : finish_left w h map nb a b (costs_left w h map nb a s).d t ≡ route_left g a b

module _ (w h : ℕ) (map : List ℕ) (nb a b : ℕ) (dirs : Directions) where
  abbrev g : Graph
  g = floor_graph (floor_of w h map) dirs

  module _ (fit : job_shape w h map nb a b ≡ Ok dirs) where
    module _ (d : List ℕ) (t : Slices) (sized : slices_sized (vertices w h) d t ≡ true) where
      pub finish-true : costs_true g a d ≡ true
          → (finish_answer w h map nb a b d t ≡ route_answer g a b) × (finish_left w h map nb a b d t ≡ route_left g a b)
      unfolding finish_answer finish_left
      finish-true e = (rw (fit, sized, e), rw (fit, sized, e))

      pub finish-false : costs_true g a d ≡ false
          → (finish_answer w h map nb a b d t ≡ Err FalseSheet) × (finish_left w h map nb a b d t ≡ t)
      unfolding finish_answer finish_left
      finish-false e = (rw (fit, sized, e), rw (fit, sized, e))

    -- The list of the costs is as long as d.
    refilled : (s : CostSlices) (t : Slices) → slices_sized (vertices w h) s.d t ≡ true
        → costs_sized (vertices w h) s ≡ true
        → slices_sized (vertices w h) (tabulate (vertices w h) (distance g a)) t ≡ true
    unfolding slices_sized costs_sized
    refilled s t others sized =
        let v = vertices w h in
        let d = tabulate v (distance g a) in
        let same : eqb (length d) v ≡ eqb (length s.d) v =
        eq-eqb (length d) v (length-tabulate v (distance g a))
        ∙ sym (and_left (eqb (length s.d) v) (eqb (length s.work) (4 * v)) sized) in
        rw same others

    pub costs-then-finish : (s : CostSlices) → costs_sized (vertices w h) s ≡ true
        → (t : Slices) → slices_sized (vertices w h) s.d t ≡ true → Together w h map nb a b g s t
    unfolding costs_answer costs_left
    costs-then-finish s sized t others =
        let alone = start-fit w h map nb a b dirs fit in
        let d = tabulate (vertices w h) (distance g a) in
        let both = finish-true d t (refilled s t others sized) (list-true g a d refl) in
        record {
          first = rw (alone, sized);
          costs = rw (alone, sized);
          answer = rw (alone, sized) both.0;
          left = rw (alone, sized) both.1;
        }
