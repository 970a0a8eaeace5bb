-- docs/RULES.md, 15.2 to 15.4: whenever the second operation answers 0, the costs d and the slices that it leaves meet
-- the equations of flow, with the total that it answers.
--
--   FlowLeft g a b d s t == `Flow` on graph g by the costs d and the slices s, with the total t
--   FinishFlow w h map nb a b d s t == the job is fit, and `FlowLeft` on its graph by d and s, with the total t
--   finish-flow    == `FinishFlow` of d and `finish_left`, where `finish_answer` is a plan, with its total
--   finishes-flow  == `FinishFlow` of d and the slices left, where `Finishes` holds and the answer is a plan, with its
--                     total
use Prim.Native.Nat.{ℕ, ◌<◌}
use mathlib.Core.Path.{◌≡◌, refl, sym}
use mathlib.Core.Bool.{Bool, true, false}
use mathlib.Core.List.{List}
use native.Mathlib.Omega.{arith}
use Rattle.std.specs.Prelude.{Result, Ok, Err}
use Rattle.basics.specs.Bounded.{pick}
use Rattle.basics.specs.Lists.{tabulate}
use Rattle.floor.specs.Floor.{floor_of, vertices}
use Rattle.floor.specs.declared.Refusal.{Refusal}
use Rattle.floor.specs.declared.Refusal.TheVariants.{SliceLength, NoRoute, TooMany, FalseSheet}
use Rattle.moves.specs.declared.Directions.{Directions}
use Rattle.paths.specs.Graph.{Graph, Lawful}
use Rattle.paths.specs.Distance.{distance, path_count}
use Rattle.paths.specs.Route.{on_shortest}
use Rattle.paths.specs.Sheet.{joined, fits, route_sheet}
use Rattle.paths.specs.Local.{entry, local_on}
use Rattle.paths.specs.Flow.{Flow}
use Rattle.paths.proofs.SheetTest.{route-flow}
use Rattle.grid.specs.Grid.{floor_graph, job_shape}
use Rattle.grid.proofs.Jobs.{job-fit}
use Rattle.grid.proofs.Lawful.{floor-lawful}
use Rattle.given_costs.specs.Given.{costs_true}
use Rattle.given_costs.proofs.Tested.{true-list}
use Rattle.planner.specs.declared.Plan.{Plan}
use Rattle.planner.specs.Plan.{Planned, Slices, slices_sized, route_answer, route_left, job_answer}
use Rattle.planner.specs.Plan.{finish_answer, finish_left, Finishes}
use Rattle.planner.proofs.Together.{finish-true}

abbrev pub FlowLeft : Graph → ℕ → ℕ → List ℕ → Slices → ℕ → Type 0
FlowLeft g a b d s t = Flow g a b (on_shortest (entry d) (entry s.e) b) (entry d) (entry s.f) (entry s.b) t

pub record FinishFlow (w h : ℕ) (map : List ℕ) (nb a b : ℕ) (d : List ℕ) (s : Slices) (t : ℕ) : Type 0 where
  pub dirs : Directions
  pub fit : job_shape w h map nb a b ≡ Ok dirs
  pub flow : FlowLeft (floor_graph (floor_of w h map) dirs) a b d s t

-- ---- what an answer 0 says

module _ {f : Plan} where
  refused-never : {P : Type 0} {r : Refusal} → ◌≡◌ {A = Planned} (Err r) (Ok f) → P
  refused-never {r = r} e = let z : ◌≡◌ {A = ℕ} 0 1 = cc in absurd (omega arith)

  -- Where the answer is 0, a test that would have refused has passed.
  passed : (x : Bool) (p : Planned) (r : Refusal) → pick x p (Err r) ≡ Ok f → (x ≡ true) × (p ≡ Ok f)
  passed true p r e = (refl, e)
  passed false p r e = refused-never e

  route-passed : (g : Graph) (a b : ℕ) → route_answer g a b ≡ Ok f
      → (joined g a b ≡ true) × (fits g a b ≡ true) × (path_count g a b ≡ f.total)
  unfolding route_answer
  route-passed g a b e =
      let x = passed (joined g a b) _ NoRoute e in
      let y = passed (fits g a b) _ TooMany x.1 in
      let found = y.1 in
      (x.0, y.0, cc)

record Passed (w h : ℕ) (map : List ℕ) (nb a b : ℕ) (d : List ℕ) (s : Slices) (p : Planned) : Type 0 where
  dirs : Directions
  fit : job_shape w h map nb a b ≡ Ok dirs
  sized : slices_sized (vertices w h) d s ≡ true
  costs : costs_true (floor_graph (floor_of w h map) dirs) a d ≡ true
  answer : route_answer (floor_graph (floor_of w h map) dirs) a b ≡ p

job-passed : (w h : ℕ) (map : List ℕ) (nb a b : ℕ) (d : List ℕ) (s : Slices) (p : Plan)
    → finish_answer w h map nb a b d s ≡ Ok p → Passed w h map nb a b d s (Ok p)
unfolding finish_answer
job-passed w h map nb a b d s p e = cases (job_shape w h map nb a b) refl e
  where
    cases : (j : Result Directions Refusal) → job_shape w h map nb a b ≡ j → job_answer w h map a b d s j ≡ Ok p
        → Passed w h map nb a b d s (Ok p)
    cases (Ok dirs) fit q =
        let g = floor_graph (floor_of w h map) dirs in
        let x = passed (slices_sized (vertices w h) d s) _ SliceLength q in
        let y = passed (costs_true g a d) (route_answer g a b) FalseSheet x.1 in
        record { dirs = dirs; fit = fit; sized = x.0; costs = y.0; answer = y.1 }
    cases (Err r) fit q = refused-never q

-- ---- the theorem

route-left-flow : (g : Graph) → Lawful g → (a b : ℕ) → a < g.size → b < g.size → (d : List ℕ) (s : Slices) (p : Plan)
    → d ≡ tabulate g.size (distance g a) → s ≡ route_left g a b → route_answer g a b ≡ Ok p
    → FlowLeft g a b d s p.total
unfolding route_left route_sheet local_on
route-left-flow g L a b in-a in_b d s p costs left found =
    let q = route-passed g a b found in
    rw (left, q.0, q.1, costs, ← q.2)
    (route-flow g L a b in-a in_b (route_sheet g a b) (record { is_joined = q.0; total_fits = q.1; is = refl }))

pub finish-flow : (w h : ℕ) (map : List ℕ) (nb a b : ℕ) (d : List ℕ) (s : Slices) (p : Plan)
    → finish_answer w h map nb a b d s ≡ Ok p
    → FinishFlow w h map nb a b d (finish_left w h map nb a b d s) p.total
finish-flow w h map nb a b d s p e =
    let P = job-passed w h map nb a b d s p e in
    let f = floor_of w h map in
    let j = job-fit w h map nb a b P.dirs P.fit in
    record {
      dirs = P.dirs;
      fit = P.fit;
      flow = route-left-flow (floor_graph f P.dirs) (floor-lawful f P.dirs j.lawful) a b j.start j.end d
          (finish_left w h map nb a b d s) p (true-list (floor_graph f P.dirs) a d P.costs)
          (finish-true w h map nb a b P.dirs P.fit d s P.sized P.costs).1 P.answer;
    }

pub finishes-flow : {w h : ℕ} {map : List ℕ} {nb a b : ℕ} {d : List ℕ} {s s' : Slices} {p : Plan}
    → Finishes w h map nb a b d s (Ok p) s' → FinishFlow w h map nb a b d s' p.total
finishes-flow {w} {h} {map} {nb} {a} {b} {d} {s} {p = p} f =
    rw f.left (finish-flow w h map nb a b d s p (sym f.answer))
