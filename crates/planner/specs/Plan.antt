-- docs/RULES.md, section 7, 6.3 and 6.4, for the planner's two operations: what each answers, and what it leaves in
-- every lent slice. The first fills d with the costs from a start. The second is handed d, which it only reads, and
-- finishes e, f, b, the route and the next vertices.
--
--   CostSlices         == the slices lent to the first operation: d and its working slice
--   Slices             == the slices lent to the second operation: those of the sheet but d, and its working slice
--   Planned             == the answer of the second operation: the values of the route, or a refusal
--   plan_of c t n       == the answer of cost c, total t and n points
--   route_answer g a b  == the answer for the job from a to b on graph g, where its shape is good and d is true: 0, 7 or
--                         8
--   route_left g a b    == the slices that the second operation leaves at the answer `route_answer g a b`
--   job_costs, job_costs_left == the answer of the first operation, and the slices afterwards, by the shape of the job
--   costs_answer ..     == the answer of the first operation, for every input: 0, or the first refusal of 1 to 5, 11 and
--                         6
--   costs_left ..       == the slices that the first operation leaves, for every input: unchanged at a refusal
--   FillsCosts ..      == the promise of the first operation: `costs_answer` and `costs_left`
--   job_answer, job_left == the answer of the second operation, and the slices afterwards, by the shape of the job
--   finish_answer ..    == the answer of the second operation, for every input: 9 where d is not the costs from a
--   finish_left ..      == the slices that the second operation leaves, for every input: unchanged at answers 1 to 6, 9
--                         and 11
--   Finishes ..        == the promise of the second operation: `finish_answer` and `finish_left`
--   plan_number, plan_cost, plan_total, plan_points == the number (rule 6.1) and the values (rule 6.4) of an answer
use Rattle.std.specs.Prelude.{ℕ, ◌*◌, ◌≡◌, Bool, ◌&&◌, List, eqb, length, Result, Ok, Err}
use Rattle.basics.specs.Bounded.{pick}
use Rattle.basics.specs.Lists.{tabulate, zeros}
use Rattle.floor.specs.Floor.{floor_of, vertices}
use Rattle.floor.specs.Refusals.{Shape, refusal_number}
use Rattle.floor.specs.declared.Refusal.{Refusal}
use Rattle.floor.specs.declared.Refusal.TheVariants.{SliceLength, NoRoute, TooMany, FalseSheet}
use Rattle.moves.specs.declared.Directions.{Directions}
use Rattle.paths.specs.Graph.{Graph}
use Rattle.paths.specs.Distance.{distance, path_count}
use Rattle.paths.specs.Route.{central_route}
use Rattle.paths.specs.Sheet.{Sheet, joined, fits, route_sheet, no_route_sheet}
use Rattle.grid.specs.Grid.{floor_graph, job_shape}
use Rattle.given_costs.specs.Given.{costs_true}
use Rattle.planner.specs.declared.Plan.{Plan}

pub record CostSlices : Type 0 where
  pub d : List ℕ
  pub work : List ℕ

abbrev pub cost_slices_of : List ℕ → List ℕ → CostSlices
cost_slices_of d work = record { d = d; work = work }

pub record Slices : Type 0 where
  pub e : List ℕ
  pub f : List ℕ
  pub b : List ℕ
  pub route : List ℕ
  pub next : List ℕ
  pub work : List ℕ

abbrev pub slices_of : List ℕ → List ℕ → List ℕ → List ℕ → List ℕ → List ℕ → Slices
slices_of e f b route next work = record { e = e; f = f; b = b; route = route; next = next; work = work }

-- ---- the second operation, once the job's shape is good and d is true

-- The slices of a sheet but d, with the working slice all 0.
abbrev pub sheet_slices : ℕ → Sheet → Slices
sheet_slices v s = slices_of s.e s.f s.b s.route s.next (zeros (4 * v))

-- What answer 8 leaves: the costs to b in e, and 0 in counts, route and next vertices.
abbrev pub costs_alone : Graph → ℕ → Slices
costs_alone g b =
    slices_of (tabulate g.size (λ v. distance g v b)) (zeros g.size) (zeros g.size) (zeros g.size)
    (zeros g.size) (zeros (4 * g.size))

abbrev pub Planned : Type 0
Planned = Result Plan Refusal

abbrev pub plan_of : ℕ → ℕ → ℕ → Plan
plan_of c t n = record { cost = c; total = t; points = n }

unfoldable pub route_answer : Graph → ℕ → ℕ → Planned
route_answer g a b =
    pick (joined g a b)
    (pick (fits g a b) (Ok (plan_of (distance g a b) (path_count g a b) (length (central_route g a b)))) (Err TooMany))
    (Err NoRoute)

unfoldable pub route_left : Graph → ℕ → ℕ → Slices
route_left g a b =
    pick (joined g a b) (pick (fits g a b) (sheet_slices g.size (route_sheet g a b)) (costs_alone g b))
    (sheet_slices g.size (no_route_sheet g a))

-- ---- the first operation, for every input: its shape is that of the job from the start to itself

-- d has V places and the working slice 4 * V; if not, refusal 6 applies.
unfoldable pub costs_sized : ℕ → CostSlices → Bool
costs_sized v s = eqb (length s.d) v && eqb (length s.work) (4 * v)

abbrev pub job_costs : ℕ → ℕ → CostSlices → Result Directions Refusal → Shape
job_costs w h s (Ok dirs) = pick (costs_sized (vertices w h) s) (Ok tt) (Err SliceLength)
job_costs w h s (Err r) = Err r

abbrev pub job_costs_left : ℕ → ℕ → List ℕ → ℕ → CostSlices → Result Directions Refusal → CostSlices
job_costs_left w h map a s (Ok dirs) =
    let v = vertices w h in
    pick (costs_sized v s)
    (cost_slices_of (tabulate v (distance (floor_graph (floor_of w h map) dirs) a)) (zeros (4 * v))) s
job_costs_left w h map a s (Err r) = s

unfoldable pub costs_answer : ℕ → ℕ → List ℕ → ℕ → ℕ → CostSlices → Shape
costs_answer w h map nb a s = job_costs w h s (job_shape w h map nb a a)

unfoldable pub costs_left : ℕ → ℕ → List ℕ → ℕ → ℕ → CostSlices → CostSlices
costs_left w h map nb a s = job_costs_left w h map a s (job_shape w h map nb a a)

-- The promise of the first operation: s before, s' after, and the answer r.
pub record FillsCosts (w h : ℕ) (map : List ℕ) (nb a : ℕ) (s : CostSlices) (r : Shape) (s' : CostSlices)
    : Type 0 where
  pub answer : r ≡ costs_answer w h map nb a s
  pub left : s' ≡ costs_left w h map nb a s

-- ---- the second operation, for every input

-- The slices of the sheet have V places and the working slice 4 * V; if not, refusal 6 applies.
unfoldable pub slices_sized : ℕ → List ℕ → Slices → Bool
slices_sized v d s =
    eqb (length d) v && eqb (length s.e) v && eqb (length s.f) v && eqb (length s.b) v
    && eqb (length s.route) v && eqb (length s.next) v && eqb (length s.work) (4 * v)

abbrev pub job_answer : ℕ → ℕ → List ℕ → ℕ → ℕ → List ℕ → Slices → Result Directions Refusal → Planned
job_answer w h map a b d s (Ok dirs) =
    let g = floor_graph (floor_of w h map) dirs in
    pick (slices_sized (vertices w h) d s) (pick (costs_true g a d) (route_answer g a b) (Err FalseSheet))
    (Err SliceLength)
job_answer w h map a b d s (Err r) = Err r

abbrev pub job_left : ℕ → ℕ → List ℕ → ℕ → ℕ → List ℕ → Slices → Result Directions Refusal → Slices
job_left w h map a b d s (Ok dirs) =
    let g = floor_graph (floor_of w h map) dirs in
    pick (slices_sized (vertices w h) d s) (pick (costs_true g a d) (route_left g a b) s) s
job_left w h map a b d s (Err r) = s

unfoldable pub finish_answer : ℕ → ℕ → List ℕ → ℕ → ℕ → ℕ → List ℕ → Slices → Planned
finish_answer w h map nb a b d s = job_answer w h map a b d s (job_shape w h map nb a b)

unfoldable pub finish_left : ℕ → ℕ → List ℕ → ℕ → ℕ → ℕ → List ℕ → Slices → Slices
finish_left w h map nb a b d s = job_left w h map a b d s (job_shape w h map nb a b)

-- The promise of the second operation: s before, s' after, and the answer r.
pub record Finishes (w h : ℕ) (map : List ℕ) (nb a b : ℕ) (d : List ℕ) (s : Slices) (r : Planned) (s' : Slices)
    : Type 0 where
  pub answer : r ≡ finish_answer w h map nb a b d s
  pub left : s' ≡ finish_left w h map nb a b d s

-- ---- numbers and values of an answer

abbrev pub plan_number : Planned → ℕ
plan_number (Ok p) = 0
plan_number (Err r) = refusal_number r

abbrev pub plan_cost : Planned → ℕ
plan_cost (Ok p) = p.cost
plan_cost (Err r) = 0

abbrev pub plan_total : Planned → ℕ
plan_total (Ok p) = p.total
plan_total (Err r) = 0

abbrev pub plan_points : Planned → ℕ
plan_points (Ok p) = p.points
plan_points (Err r) = 0
