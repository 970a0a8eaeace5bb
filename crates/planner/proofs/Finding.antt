-- A route is found: each part of `find_route` has what it requires, by what the part before it leaves.
--
--   found-costing                  == the costs from b can be filled; they are the costs to b
--   found-few, found-sized, found-same, found-input, found-known == what the counting passes require of the lengths,
--                                  the masks and the costs
--   found-choosable, found-numbers == where the total fits, the next vertices can be chosen, and are those of the sheet
--   found-walkable                 == the route can be written
--   found-many, found-route        == `Finished` where the total does not fit, and where it does
--   finish-none                    == `Finished` where no walk joins the ends
--   finish-findable                == `Findable` where a walk joins the ends
--   finish-cleared                 == `Finished` of slices whose working slice was cleared
use Prim.Native.Nat.{ℕ, ◌*◌, ◌≤◌, ◌<◌}
use mathlib.Core.Path.{◌≡◌, refl, sym, ap, ◌∙◌, subst}
use mathlib.Core.Bool.{Bool, true, false}
use mathlib.Core.List.{List}
use native.Mathlib.Omega.{arith}
use lib.ListN.{length, length-replicate}
use Rattle.basics.specs.Lists.{tabulate, zeros}
use Rattle.basics.proofs.Lists.{length-tabulate, get_d_tabulate, tabulate-cong}
use Rattle.floor.specs.Floor.{floor_of, vertices}
use Rattle.floor.specs.declared.Refusal.TheVariants.{NoRoute, TooMany}
use Rattle.moves.specs.declared.Directions.{Directions}
use Rattle.moves.proofs.Table.{listed-lawful}
use Rattle.std.specs.Prelude.{Ok, Err}
use Rattle.paths.specs.Graph.{Graph, Lawful}
use Rattle.paths.specs.Distance.{unreachable, distance, path_count}
use Rattle.paths.specs.Route.{count_from, next_number}
use Rattle.paths.specs.Local.{entry}
use Rattle.paths.proofs.Distance.{distance-le}
use Rattle.paths.proofs.Reverse.{distance-sym}
use Rattle.paths.proofs.Way.{way_end, count_from-way}
use Rattle.paths.proofs.Sheets.{fits-total}
use Rattle.grid.specs.Grid.{floor_graph}
use Rattle.grid.proofs.Jobs.{goal-alone}
use Rattle.grid.proofs.Lawful.{floor-lawful, size-le}
use Rattle.offsets.specs.Offsets.{Shifts}
use Rattle.workspace.specs.Regions.{Masked, MasksIn}
use Rattle.workspace.proofs.Regions.{floor-masked}
use Rattle.distances.specs.Costs.{Costing, OrderedCosts}
use Rattle.counts.specs.Passes.{PassInput, Known, Filled}
use Rattle.planner.specs.Plan.{Planned, plan_of, slices_of}
use Rattle.planner.specs.Parts.{number_at, Choosable, Finishable, Findable, Finished, Walkable, Routed}
use Rattle.planner.proofs.Numbering.{TrueLists, true-choosable, true-numbers}
use Rattle.planner.proofs.Finishing.{finished-none, finished-many, finished-route}

module _ {w h : ℕ} {map : List ℕ} {dirs : Directions} {a b : ℕ} {d e f back route next work : List ℕ}
    (F : Findable w h map dirs a b d (slices_of e f back route next work)) where
  abbrev g : Graph
  g = floor_graph (floor_of w h map) dirs

  few : g.size ≤ 16384
  few = size-le (floor_of w h map) F.finishable.job.sized.wide F.finishable.job.sized.high dirs

  lawful : Lawful g
  lawful = floor-lawful (floor_of w h map) dirs (listed-lawful F.finishable.job.listed)

  d_len : length d ≡ g.size
  d_len = F.finishable.lent.sheet.d

  pub found-few : length d ≤ 16384
  found-few = omega (arith, d_len, few)

  pub found-sized : (a < length d) × (b < length d) × (f ≡ zeros (length d)) × (back ≡ zeros (length d))
  found-sized = (
    omega (arith, d_len, F.finishable.job.start_in),
    omega (arith, d_len, F.finishable.job.goal_in),
    F.f_blank ∙ ap zeros (sym d_len),
    F.back_blank ∙ ap zeros (sym d_len),
  )

  pub found-costing : Costing w h map dirs b e work
  found-costing = record {
    job = goal-alone F.finishable.job;
    d_len = F.finishable.lent.sheet.e;
    work_len = F.finishable.lent.work_len;
  }

  module _ {x n : ℕ} {shifts e' work' : List ℕ} (C : OrderedCosts (floor_of w h map) dirs x n e' work')
      (S : Shifts w dirs shifts) where
    masked : Masked g dirs shifts work'
    masked =
        let J = F.finishable.job in
        floor-masked (floor_of w h map) dirs J.sized.wide J.sized.high (listed-lawful J.listed) S C.masks

    pub found-same : length e' ≡ length d
    found-same = ap length C.costs ∙ length-tabulate g.size _ ∙ sym d_len

    pub found-input : PassInput dirs shifts n d work'
    found-input = record {
      few = omega (arith, few, d_len);
      work_len = omega (arith, C.work_len, d_len);
      short = omega (arith, C.few, d_len);
      vertex = rw d_len C.ordered.inside;
      readable = rw d_len (λ u i. (masked.shows u i).readable);
    }

    module _ (from-b : e' ≡ tabulate g.size (distance g b)) where
      -- The costs from b are those to b.
      e_true : e' ≡ tabulate g.size (λ v. distance g v b)
      e_true =
          from-b
          ∙ tabulate-cong g.size (distance g b) _ (λ v i. distance-sym g lawful b v F.finishable.job.goal_in i)

      pub found-known : Known g dirs shifts a b n d e' work'
      found-known = record {
        lawful = lawful;
        start_in = F.finishable.job.start_in;
        goal_in = F.finishable.job.goal_in;
        reached = F.reached;
        costs_from = F.finishable.costs;
        costs_back = from-b;
        masked = masked;
        ordered = C.ordered;
      }

      module _ {r : Bool} {work'' f' back' : List ℕ} (filled : Filled g dirs shifts a b r work'' f' back') where
        pub found-many : r ≡ false
            → Finished g a b (Err TooMany) (slices_of e' f' back' route next (zeros (4 * vertices w h)))
        found-many over =
            let K = subst (λ z. Filled g dirs shifts a b z work'' f' back') over filled in
            finished-many refl F.reached e_true (sym K.answer) K.f_left K.back_left
            F.route_blank F.next_blank

        module _ (fit : r ≡ true) where
          K : Filled g dirs shifts a b true work'' f' back'
          K = subst (λ z. Filled g dirs shifts a b z work'' f' back') fit filled

          lists : TrueLists g dirs shifts a b d e' f' back' work''
          lists = record {
            few = few;
            lawful = lawful;
            start_in = F.finishable.job.start_in;
            goal_in = F.finishable.job.goal_in;
            reached = F.reached;
            total = fits-total g a b (sym K.answer);
            d_true = F.finishable.costs;
            e_true = e_true;
            f_true = K.f_left;
            back_true = K.back_left;
            masked = K.masked;
            work_len = K.work_len;
          }

          pub found-choosable : Choosable dirs shifts b d e' f' back' work'' × (next ≡ zeros (length d))
          found-choosable = (true-choosable lists, F.next_blank ∙ ap zeros (sym d_len))

          cost-at : entry d b ≡ distance g a b
          cost-at =
              ap (λ l. entry l b) F.finishable.costs
              ∙ get_d_tabulate g.size b (distance g a) F.finishable.job.goal_in

          -- The count from a at b is the total.
          total-at : entry f' b ≡ path_count g a b
          total-at =
              ap (λ l. entry l b) K.f_left
              ∙ get_d_tabulate g.size b (count_from g a b) F.finishable.job.goal_in
              ∙ count_from-way g a b b (way_end g lawful a b F.reached)

          module _ {next' : List ℕ}
              (chosen : next' ≡ tabulate (length d) (number_at dirs shifts b d e' f' back' work'')) where
            found-numbers : next' ≡ tabulate g.size (next_number g a b)
            found-numbers = true-numbers lists chosen

            pub found-walkable : Walkable g a b next' route
            found-walkable = record {
              few = few;
              lawful = lawful;
              start_in = F.finishable.job.start_in;
              goal_in = F.finishable.job.goal_in;
              reached = F.reached;
              next_true = found-numbers;
              blank = F.route_blank;
            }

            pub found-route : {route' : List ℕ} (k : ℕ) → Routed g a b route' k
                → Finished g a b (Ok (plan_of (entry d b) (entry f' b) k))
                (slices_of e' f' back' route' next' (zeros (4 * vertices w h)))
            found-route k R =
                finished-route refl F.reached e_true (entry d b) (entry f' b) k
                (sym K.answer) cost-at total-at R.points K.f_left K.back_left R.list found-numbers

-- ---- from a job of good shape and the costs from a

module _ {w h : ℕ} {map : List ℕ} {dirs : Directions} {a b : ℕ}
    {d e f back route next work f' back' route' next' : List ℕ}
    (P : Finishable w h map dirs a b d (slices_of e f back route next work))
    (f_blank : f' ≡ zeros (length f))
    (back_blank : back' ≡ zeros (length back)) (route_blank : route' ≡ zeros (length route))
    (next_blank : next' ≡ zeros (length next)) where
  abbrev graph : Graph
  graph = floor_graph (floor_of w h map) dirs

  goal-cost : entry d b ≡ distance graph a b
  goal-cost = ap (λ l. entry l b) P.costs ∙ get_d_tabulate (vertices w h) b (distance graph a) P.job.goal_in

  pub finish-none : {e' work' : List ℕ} → entry d b ≡ unreachable → e' ≡ zeros (length e) → work' ≡ zeros (length work)
      → Finished graph a b (Err NoRoute) (slices_of e' f' back' route' next' work')
  finish-none far e-blank work-blank =
      finished-none (work-blank ∙ ap zeros P.lent.work_len) (sym goal-cost ∙ far)
      (e-blank ∙ ap zeros P.lent.sheet.e) (f_blank ∙ ap zeros P.lent.sheet.f)
      (back_blank ∙ ap zeros P.lent.sheet.b) (route_blank ∙ ap zeros P.lent.sheet.route)
      (next_blank ∙ ap zeros P.lent.sheet.next)

  pub finish-findable : MasksIn (floor_of w h map) dirs work → (entry d b ≡ unreachable → ⊥)
      → Findable w h map dirs a b d (slices_of e f' back' route' next' work)
  finish-findable masks near = record {
    finishable = record {
      job = P.job;
      lent = record {
        sheet = record {
          d = P.lent.sheet.d;
          e = P.lent.sheet.e;
          f = length-of f f_blank ∙ P.lent.sheet.f;
          b = length-of back back_blank ∙ P.lent.sheet.b;
          route = length-of route route_blank ∙ P.lent.sheet.route;
          next = length-of next next_blank ∙ P.lent.sheet.next;
        };
        work_len = P.lent.work_len;
      };
      costs = P.costs;
    };
    masks = masks;
    reached = omega (arith, goal-cost, distance-le graph a b, near-ne);
    f_blank = f_blank ∙ ap zeros P.lent.sheet.f;
    back_blank = back_blank ∙ ap zeros P.lent.sheet.b;
    route_blank = route_blank ∙ ap zeros P.lent.sheet.route;
    next_blank = next_blank ∙ ap zeros P.lent.sheet.next;
  }
    where
      length-of : {l' : List ℕ} (l : List ℕ) → l' ≡ zeros (length l) → length l' ≡ length l
      length-of l q = ap length q ∙ length-replicate (length l) 0

      near-ne : distance graph a b ≡ unreachable → ⊥
      near-ne q = near (goal-cost ∙ q)

-- The working slice is cleared, whatever it held.
pub finish-cleared : {g : Graph} {a b n k : ℕ} {r : Planned} {e f back route next work : List ℕ}
    → Finished g a b r (slices_of e f back route next (zeros k)) → n ≡ k → work ≡ zeros n
    → Finished g a b r (slices_of e f back route next work)
finish-cleared F same blank = rw (blank, same) F
