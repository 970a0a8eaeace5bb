-- Used by contracts between functions; nobody has to believe it: laws tie it to the definitions.
-- The tests that the checker runs, in the order in which it runs them. They say the same as `verdict`.
--
--   counts_test g a b s v     == each of the two counts of vertex v is `count_at`: 0 off the way, 1 at its own end, and
--                                elsewhere the sum over the neighbours
--   vertex_test j g a b s v   == the numbers of vertex v pass the test: where j holds, both costs and both counts, as
--                                on a route sheet; otherwise the cost from a, and all others are 0
--   vertices_test j g a b s   == every vertex v passes `vertex_test j g a b s v`
--   column_test .. w y x      == the vertex in column x and row y of a floor of width w passes `vertex_test`
--   row_test .. w y           == the vertices of row y of a floor of width w pass `vertex_test`
--   nexts_test g b s          == every vertex v passes `right_next g b s v`
--   next_column_test .. w y x == the next vertex of the vertex in column x and row y of a floor of width w is right
--   next_row_test .. w y      == the next vertices of the vertices of row y of a floor of width w are right
--   point_test v b s i        == place i of the route of s is right, on a floor of v vertices
--   points_test v a b s       == the route of s and its point count are right, on a floor of v vertices
--   route_test g a b s        == s is the true route sheet
--   no_route_test g a b s     == s is the true no_route sheet
--   Zeros l i j               == places i to j - 1 of the list l are 0
--   PinchesFar f d            == the cost in d of every pinch of the floor f is M
--   CheckInput w h l r a b s  == a good job, with a sheet whose slices have a place for each vertex
--   Choosable w h l r b s     == the costs and counts of the sheet s, of a job to b, are such that `nexts_test` can be
--                                run: products of counts fit, and a move leads on from each vertex on the way before b
use Rattle.std.specs.Prelude.{ℕ, suc, ◌≤◌, ◌<◌, ◌≡◌, Bool, true, false, ◌&&◌, List, ltb, eqb, length}
use Rattle.basics.specs.Bounded.{pick, every}
use Rattle.floor.specs.Floor.{Floor, floor_of, vertices, number, column, row}
use Rattle.sight.specs.Sight.{pinch}
use Rattle.moves.specs.declared.Directions.{Directions}
use Rattle.paths.specs.Graph.{Graph}
use Rattle.paths.specs.Distance.{unreachable}
use Rattle.paths.specs.Route.{on_shortest}
use Rattle.paths.specs.Sheet.{Sheet}
use Rattle.paths.specs.Onward.{Leads}
use Rattle.paths.specs.Local.{count_at, right_point, right_route, entry, Shaped, local_on, right_next, by_next, blank_at}
use Rattle.grid.specs.Grid.{floor_graph}
use Rattle.grid.specs.Known.{GoodJob}
use Rattle.neighbours.specs.Least.{right_cost_in}
use Rattle.neighbours.specs.Choice.{traversal_of, Counted}

unfoldable pub counts_test : Graph → ℕ → ℕ → Sheet → ℕ → Bool
counts_test g a b s v =
    eqb (entry s.f v) (count_at g a (local_on b s) (entry s.d) (entry s.f) v)
    && eqb (entry s.b v) (count_at g b (local_on b s) (entry s.e) (entry s.b) v)

unfoldable pub vertex_test : Bool → Graph → ℕ → ℕ → Sheet → ℕ → Bool
vertex_test j g a b s v =
    pick j ((right_cost_in g a (entry s.d) v && right_cost_in g b (entry s.e) v) && counts_test g a b s v)
    (right_cost_in g a (entry s.d) v && blank_at s v)

unfoldable pub vertices_test : Bool → Graph → ℕ → ℕ → Sheet → Bool
vertices_test j g a b s = every g.size (vertex_test j g a b s)

abbrev pub column_test : Bool → Graph → ℕ → ℕ → Sheet → ℕ → ℕ → ℕ → Bool
column_test j g a b s w y x = vertex_test j g a b s (number w x y)

abbrev pub row_test : Bool → Graph → ℕ → ℕ → Sheet → ℕ → ℕ → Bool
row_test j g a b s w y = every (suc w) (column_test j g a b s w y)

unfoldable pub nexts_test : Graph → ℕ → Sheet → Bool
nexts_test g b s = every g.size (right_next g b s)

abbrev pub next_column_test : Graph → ℕ → Sheet → ℕ → ℕ → ℕ → Bool
next_column_test g b s w y x = right_next g b s (number w x y)

abbrev pub next_row_test : Graph → ℕ → Sheet → ℕ → ℕ → Bool
next_row_test g b s w y = every (suc w) (next_column_test g b s w y)

unfoldable pub point_test : ℕ → ℕ → Sheet → ℕ → Bool
point_test v b s = right_point v (by_next s) b s.n (entry s.route)

unfoldable pub points_test : ℕ → ℕ → ℕ → Sheet → Bool
points_test v a b s = right_route v (by_next s) a b s.n (entry s.route)

unfoldable pub route_test : Graph → ℕ → ℕ → Sheet → Bool
route_test g a b s =
    ltb (entry s.d b) unreachable
    && (eqb (entry s.d a) 0
    && (eqb (entry s.e b) 0
    && (vertices_test true g a b s && (nexts_test g b s && points_test g.size a b s))))

unfoldable pub no_route_test : Graph → ℕ → ℕ → Sheet → Bool
no_route_test g a b s =
    eqb (entry s.d b) unreachable
    && (eqb s.n 0 && (eqb (entry s.d a) 0 && vertices_test false g a b s))

pub record Zeros (l : List ℕ) (i j : ℕ) : Type 0 where
  pub at : (k : ℕ) → i ≤ k → k < j → entry l k ≡ 0

pub record PinchesFar (f : Floor) (d : List ℕ) : Type 0 where
  pub at : (v : ℕ) → v < vertices f.wide f.high → pinch f (column f.wide v) (row f.wide v) ≡ true
      → entry d v ≡ unreachable

pub record CheckInput (w h : ℕ) (l : List ℕ) (r : Directions) (a b : ℕ) (s : Sheet) : Type 0 where
  pub job : GoodJob w h l r a b
  pub shape : Shaped (vertices w h) s

pub record Choosable (w h : ℕ) (l : List ℕ) (r : Directions) (b : ℕ) (s : Sheet) : Type 0 where
  pub input : CheckInput w h l r b b s
  pub counted : Counted (length s.d) s.f s.b
  pub pinches : PinchesFar (floor_of w h l) s.d
  pub reached : entry s.d b < unreachable
  pub leads : (v : ℕ) → v < vertices w h
      → Leads (floor_graph (floor_of w h l) r) (on_shortest (entry s.d) (entry s.e) b) (entry s.d)
      (traversal_of s.f s.b) b v
