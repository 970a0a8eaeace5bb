-- A job planned from costs that may be those from another start.
--
--   RouteOf g a b n       == a walk joins a to b, and n is the number of points of the central route
--   route-of              == `RouteOf g a b n`, where `route_answer g a b` is a route of n points
--   route-left            == where `route_answer g a b` is a route, `route_left g a b` has the central route
--   costs-sized, full-on  == `costs_sized` and `FullSlices` of slices of the right lengths
--   planned-first         == `JobPlanned` of an answer of the second operation other than 9
--   planned-again         == `JobPlanned` of the answer of the second operation on the d of the first
use Prim.Native.Nat.{ℕ, ◌*◌, ◌<◌}
use mathlib.Core.Path.{◌≡◌, refl, sym, ap, ◌∙◌}
use mathlib.Core.Bool.{Bool, true, false}
use mathlib.Core.List.{List}
use borrow.Author.Tests.{eq-eqb}
use lib.ListN.{length}
use Rattle.basics.specs.Bounded.{pick}
use Rattle.basics.specs.Lists.{padded}
use Rattle.floor.specs.Floor.{floor_of, vertices}
use Rattle.floor.specs.declared.Refusal.{Refusal}
use Rattle.floor.specs.declared.Refusal.TheVariants.{NoRoute, TooMany, FalseSheet}
use Rattle.floor.specs.Refusals.{Shape}
use Rattle.std.specs.Prelude.{Result, Ok, Err}
use Rattle.moves.specs.declared.Directions.{Directions}
use Rattle.paths.specs.Graph.{Graph}
use Rattle.paths.specs.Distance.{unreachable, distance, path_count}
use Rattle.paths.specs.Route.{central_route}
use Rattle.paths.specs.Sheet.{joined, fits, route_sheet, no_route_sheet}
use Rattle.paths.proofs.Sheets.{joined-reached}
use Rattle.grid.specs.Grid.{floor_graph}
use Rattle.given_costs.specs.Given.{costs_true}
use Rattle.planner.specs.Parts.{FullSlices}
use Rattle.planner.specs.Plan.{Slices, sheet_slices, costs_alone, route_answer, route_left, slices_sized, job_answer, job_left}
use Rattle.planner.specs.Plan.{CostSlices, cost_slices_of, costs_sized, costs_left, FillsCosts}
use Rattle.planner.specs.Plan.{finish_answer, finish_left, Finishes, Planned, plan_of}
use Rattle.planner.specs.declared.Plan.{Plan}
use Rattle.planner.proofs.Together.{costs-then-finish}
use Rattle.records.specs.declared.stream.JobRecord.{JobRecord}
use Rattle.program_text.specs.Text.{answer_of, points_of}
use Rattle.program_text.specs.Contract.{shape_of, JobPlanned}

-- ---- the answer for a graph

pub record RouteOf (g : Graph) (a b n : ℕ) : Type 0 where
  pub reached : distance g a b < unreachable
  pub count : n ≡ length (central_route g a b)

-- `route_answer` by its two tests.
abbrev by_tests : Graph → ℕ → ℕ → Bool → Bool → Planned
by_tests g a b x y =
    pick x (pick y (Ok (plan_of (distance g a b) (path_count g a b) (length (central_route g a b)))) (Err TooMany))
    (Err NoRoute)

abbrev left_by_tests : Graph → ℕ → ℕ → Bool → Bool → Slices
left_by_tests g a b x y =
    pick x (pick y (sheet_slices g.size (route_sheet g a b)) (costs_alone g b))
    (sheet_slices g.size (no_route_sheet g a))

points_same : {x y : Plan} → ◌≡◌ {A = Planned} (Ok x) (Ok y) → y.points ≡ x.points
points_same {x} {y} e = let q : x ≡ y = cc in ap (λ (z : Plan). z.points) (sym q)

module _ (g : Graph) (a b : ℕ) (p : Plan) where
  pub route-of : route_answer g a b ≡ Ok p → RouteOf g a b p.points
  unfolding route_answer
  route-of e = cases (joined g a b) (fits g a b) refl e
    where
      cases : (x y : Bool) → joined g a b ≡ x → by_tests g a b x y ≡ Ok p → RouteOf g a b p.points
      cases true true e u = record { reached = joined-reached g a b e; count = points_same u }
      cases true false e u = cc
      cases false y e u = cc

  pub route-left : route_answer g a b ≡ Ok p
      → (route_left g a b).route ≡ padded g.size (central_route g a b)
  unfolding route_answer route_left route_sheet
  route-left e = cases (joined g a b) (fits g a b) e
    where
      cases : (x y : Bool) → by_tests g a b x y ≡ Ok p
          → (left_by_tests g a b x y).route ≡ padded g.size (central_route g a b)
      cases true true u = refl
      cases true false u = cc
      cases false y u = cc

-- ---- slices of the right lengths

pub costs-sized : {v : ℕ} (d work : List ℕ) → length d ≡ v → length work ≡ 4 * v
    → costs_sized v (cost_slices_of d work) ≡ true
unfolding costs_sized
costs-sized {v} d work p q = rw (eq-eqb (length d) v p, eq-eqb (length work) (4 * v) q)

-- `FullSlices` of other slices of the same lengths.
pub full-on : {v : ℕ} {d e f b route next work e' f' b' route' next' work' : List ℕ}
    → FullSlices v d e f b route next work
    → length e' ≡ length e → length f' ≡ length f → length b' ≡ length b → length route' ≡ length route
    → length next' ≡ length next → length work' ≡ length work → FullSlices v d e' f' b' route' next' work'
full-on L p q r s x t = record {
  sheet = record {
    d = L.sheet.d;
    e = p ∙ L.sheet.e;
    f = q ∙ L.sheet.f;
    b = r ∙ L.sheet.b;
    route = s ∙ L.sheet.route;
    next = x ∙ L.sheet.next;
  };
  work_len = t ∙ L.work_len;
}

-- ---- the answer to a job

module _ {w h : ℕ} {map : List ℕ} (j : JobRecord) {r : Planned} {s' : Slices} where
  -- `JobPlanned` where the job is fit.
  fit-planned : {dirs : _} → shape_of w h map j ≡ Ok dirs
      → r ≡ route_answer (floor_graph (floor_of w h map) dirs) j.start j.end
      → s' ≡ route_left (floor_graph (floor_of w h map) dirs) j.start j.end → JobPlanned w h map j r s'.route
  unfolding answer_of points_of
  fit-planned {dirs} q p l =
      let g = floor_graph (floor_of w h map) dirs in
      record {
        answer = rw q p;
        points = λ x e. rw q (ap (λ (z : Slices). z.route) l
            ∙ route-left g j.start j.end x (sym p ∙ e));
      }

module _ {w h : ℕ} {map : List ℕ} (j : JobRecord) {r : Planned} where
  -- `JobPlanned` where the job is refused.
  refused-planned : {z : Refusal} → shape_of w h map j ≡ Err z → r ≡ Err z → (route : List ℕ)
      → JobPlanned w h map j r route
  unfolding answer_of points_of
  refused-planned q p route = record { answer = rw q p; points = λ x e. cc }

module _ {w h : ℕ} {map : List ℕ} (j : JobRecord) {r : Planned} {s s' : Slices} where
  pub planned-first : {d : List ℕ} → slices_sized (vertices w h) d s ≡ true
      → Finishes w h map j.neighbourhood j.start j.end d s r s' → (r ≡ Err FalseSheet → ⊥)
      → JobPlanned w h map j r s'.route
  unfolding finish_answer finish_left
  planned-first {d} sized F other = cases (shape_of w h map j) refl F.answer F.left
    where
      cases : (shape : Result Directions Refusal) → shape_of w h map j ≡ shape → r ≡ job_answer w h map j.start j.end d s shape
          → s' ≡ job_left w h map j.start j.end d s shape → JobPlanned w h map j r s'.route
      cases (Err z) q u v = refused-planned j q u s'.route
      cases (Ok dirs) q u v = tested (costs_true g j.start d) (rw sized at u) (rw sized at v)
        where
          g : Graph
          g = floor_graph (floor_of w h map) dirs

          tested : (t : Bool) → r ≡ pick t (route_answer g j.start j.end) (Err FalseSheet)
              → s' ≡ pick t (route_left g j.start j.end) s → JobPlanned w h map j r s'.route
          tested true p l = fit-planned j q p l
          tested false p l = absurd (other p)

  pub planned-again : {d d' work work' : List ℕ} {c : Shape} → costs_sized (vertices w h) (cost_slices_of d work) ≡ true
      → slices_sized (vertices w h) d s ≡ true
      → FillsCosts w h map j.neighbourhood j.start (cost_slices_of d work) c (cost_slices_of d' work')
      → Finishes w h map j.neighbourhood j.start j.end d' s r s' → JobPlanned w h map j r s'.route
  unfolding finish_answer
  planned-again {d} {d'} {work} {work'} costs others C F = cases (shape_of w h map j) refl
    where
      filled : d' ≡ (costs_left w h map j.neighbourhood j.start (cost_slices_of d work)).d
      filled = ap (λ (z : CostSlices). z.d) C.left

      cases : (shape : Result Directions Refusal) → shape_of w h map j ≡ shape → JobPlanned w h map j r s'.route
      cases (Err z) q = refused-planned j q (F.answer ∙ rw q) s'.route
      cases (Ok dirs) q =
          let T = costs-then-finish w h map j.neighbourhood j.start j.end dirs q (cost_slices_of d work) costs s
          others in
          fit-planned j q
          (F.answer ∙ ap (λ l. finish_answer w h map j.neighbourhood j.start j.end l s) filled ∙ T.answer)
          (F.left ∙ ap (λ l. finish_left w h map j.neighbourhood j.start j.end l s) filled ∙ T.left)
