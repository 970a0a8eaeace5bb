-- Used by contracts between functions; nobody has to believe it: laws tie it to the definitions.
-- What the parts of the planner require and leave: the choice of next vertices, the walk that writes the route, and the
-- finishing of a job from true costs.
--
--   number_of r s mask b d e f back v == `next_number`, by the slices and the mask of v
--   number_at r s b d e f back work v == `number_of` of vertex v, by its mask in the working slice
--   Choosable r s b d e f back work == the slices have the lengths, costs, counts and masks by which every next vertex
--                                is chosen, and a move leads on from each vertex on the way before b
--   NumberedTo .. v next      == the list `next` has the next vertices of the vertices before v, and 0 from place v on
--   number_by n, ChoosableBy n, NumberedBy n == `number_at`, `Choosable` and `NumberedTo` by the numbers n
--   Walkable g a b next route == `next` has the next vertices of a job on graph g that has a route, and `route` is all
--                                0
--   Routed g a b route n      == the slice `route` has the central route, and n is the number of its points
--   lent_in s                 == what the slices hold that are lent as s
--   left_in x                 == what slices that were lent hold at the end, field by field
--   lengths_good v ..          == slices of these lengths have the places that a floor of v vertices needs
--   FullSlices v ..           == the slices have the places that a floor of v vertices needs
--   Finishable ..             == a good job, `FullSlices` for its floor, and d has the costs from a
--   Findable ..               == `Finishable`, the working slice has the masks, a walk joins the ends, and counts,
--                                route and next vertices are all 0
--   Finished g a b r s        == the answer r and the slices s are those of the job from a to b on graph g
use Rattle.std.specs.Prelude.{ℕ, ◌*◌, ◌≤◌, ◌<◌, ◌≡◌, Bool, ◌&&◌, List, eqb, length}
use denote.MutBor.{MutBor}
use Rattle.basics.specs.Bounded.{pick}
use Rattle.basics.specs.Lists.{tabulate, padded, zeros}
use Rattle.floor.specs.Floor.{floor_of, vertices}
use Rattle.moves.specs.declared.Directions.{Directions}
use Rattle.paths.specs.Graph.{Graph, Lawful}
use Rattle.paths.specs.Distance.{unreachable, distance}
use Rattle.paths.specs.Route.{on_shortest, central_route, or_zero, next_number}
use Rattle.paths.specs.Sheet.{sheet_of}
use Rattle.paths.specs.Local.{entry, Shaped}
use Rattle.grid.specs.Grid.{floor_graph}
use Rattle.grid.specs.Known.{GoodJob}
use Rattle.neighbours.specs.Choice.{Choosing, Counted, next_of, LeadsBy}
use Rattle.workspace.specs.Regions.{mask_at, MasksIn}
use Rattle.planner.specs.declared.route.Numbers.{Numbers}
use Rattle.planner.specs.declared.Slices.{Slices as LentSlices}
use Rattle.planner.specs.Plan.{Slices, slices_of, Planned, route_answer, route_left}

abbrev pub number_of : Directions → List ℕ → ℕ → ℕ → List ℕ → List ℕ → List ℕ → List ℕ → ℕ → ℕ
number_of r s mask b d e f back v =
    pick (on_shortest (entry d) (entry e) b v) (pick (eqb v b) b (or_zero (next_of r s mask d e f back b v))) 0

abbrev pub number_at : Directions → List ℕ → ℕ → List ℕ → List ℕ → List ℕ → List ℕ → List ℕ → ℕ → ℕ
number_at r s b d e f back work v = number_of r s (mask_at (length d) work v) b d e f back v

pub record Choosable (dirs : Directions) (shifts : List ℕ) (b : ℕ) (d e f back work : List ℕ) : Type 0 where
  pub few : length d ≤ 16384
  pub work_len : length work ≡ 4 * length d
  pub choosing : (v : ℕ) → v < length d → Choosing dirs shifts (mask_at (length d) work v) d e b v
  pub counted : Counted (length d) f back
  pub leads : (v : ℕ) → v < length d → LeadsBy dirs shifts (mask_at (length d) work v) d e f back b v

pub record NumberedTo (dirs : Directions) (shifts : List ℕ) (b : ℕ) (d e f back work : List ℕ) (v : ℕ) (next : List ℕ)
    : Type 0 where
  pub len : length next ≡ length d
  pub at : (u : ℕ) → u < v → entry next u ≡ number_at dirs shifts b d e f back work u
  pub blank : (u : ℕ) → v ≤ u → entry next u ≡ 0

-- The same, by the numbers that the code lends together.
abbrev pub number_by : Numbers → ℕ → ℕ
number_by n = number_at n.dirs n.shifts.now n.b n.d.now n.e.now n.f.now n.back.now n.work.now

abbrev pub ChoosableBy : Numbers → Type 0
ChoosableBy n = Choosable n.dirs n.shifts.now n.b n.d.now n.e.now n.f.now n.back.now n.work.now

abbrev pub NumberedBy : Numbers → ℕ → List ℕ → Type 0
NumberedBy n = NumberedTo n.dirs n.shifts.now n.b n.d.now n.e.now n.f.now n.back.now n.work.now

pub record Walkable (g : Graph) (a b : ℕ) (next route : List ℕ) : Type 0 where
  pub few : g.size ≤ 16384
  pub lawful : Lawful g
  pub start_in : a < g.size
  pub goal_in : b < g.size
  pub reached : distance g a b < unreachable
  pub next_true : next ≡ tabulate g.size (next_number g a b)
  pub blank : route ≡ zeros g.size

pub record Routed (g : Graph) (a b : ℕ) (route : List ℕ) (n : ℕ) : Type 0 where
  pub points : n ≡ length (central_route g a b)
  pub list : route ≡ padded g.size (central_route g a b)

abbrev pub lent_in : LentSlices → Slices
lent_in s = slices_of s.e.now s.f.now s.back.now s.route.now s.next.now s.work.now

abbrev pub LentList : Type 0
LentList = MutBor (List ℕ)

abbrev pub left_in : LentList × (LentList × (LentList × (LentList × (LentList × (LentList × Unit {0}))))) → Slices
left_in x =
    slices_of x.0.now x.1.0.now x.1.1.0.now x.1.1.1.0.now x.1.1.1.1.0.now x.1.1.1.1.1.0.now

unfoldable pub lengths_good : ℕ → ℕ → ℕ → ℕ → ℕ → ℕ → ℕ → ℕ → Bool
lengths_good v d e f b route next work =
    eqb d v && eqb e v && eqb f v && eqb b v && eqb route v && eqb next v && eqb work (4 * v)

pub record FullSlices (v : ℕ) (d e f back route next work : List ℕ) : Type 0 where
  pub sheet : Shaped v (sheet_of d e f back route next 0)
  pub work_len : length work ≡ 4 * v

pub record Finishable (w h : ℕ) (map : List ℕ) (dirs : Directions) (a b : ℕ) (d : List ℕ) (s : Slices) : Type 0 where
  pub job : GoodJob w h map dirs a b
  pub lent : FullSlices (vertices w h) d s.e s.f s.b s.route s.next s.work
  pub costs : d ≡ tabulate (vertices w h) (distance (floor_graph (floor_of w h map) dirs) a)

pub record Findable (w h : ℕ) (map : List ℕ) (dirs : Directions) (a b : ℕ) (d : List ℕ) (s : Slices) : Type 0 where
  pub finishable : Finishable w h map dirs a b d s
  pub masks : MasksIn (floor_of w h map) dirs s.work
  pub reached : distance (floor_graph (floor_of w h map) dirs) a b < unreachable
  pub f_blank : s.f ≡ zeros (vertices w h)
  pub back_blank : s.b ≡ zeros (vertices w h)
  pub route_blank : s.route ≡ zeros (vertices w h)
  pub next_blank : s.next ≡ zeros (vertices w h)

pub record Finished (g : Graph) (a b : ℕ) (r : Planned) (s : Slices) : Type 0 where
  pub answer : r ≡ route_answer g a b
  pub left : s ≡ route_left g a b
