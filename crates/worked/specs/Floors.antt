-- docs/RULES.md, section 18: the floors a to i, with the numbers that are worked there by hand.
--
--   Case                  == a job, and a sheet for it
--   plan_of c, graph_of c == the floor of a case, and its graph with the neighbourhood of the case
--   routes                == floors a, b, d, e and h, and a and e with neighbourhood 16: the job, its true route sheet,
--                            and its kept positions
--   no_routes             == floors c, f and g, and c with 4 and 16: the job and its true no_route sheet
--   entered               == floor i: which cells of a 3 by 2 floor, row by row, the segment from (0, 0) to (3, 2)
--                            enters
--   RouteHolds c          == the job has a good shape, the sheet is its true route sheet, its cost and total are those
--                            of the case, and thinning keeps the positions of the case
--   NoRouteHolds c        == the job has a good shape and the sheet is its true no_route sheet
--   plans_a, plans_c      == the floors a and c, each with 8, 4 and 16
--   handed_in c k         == the costs of case k, handed in for case c, are true (rule 7.4)
--   Worked                == the statement: `RouteHolds` of routes and `NoRouteHolds` of no_routes; of the nine
--                            vertices of floor g the only pinch is 4; the traversal count of vertex 4 of floor h is 4;
--                            on floor a the costs with one neighbourhood, handed in for another, are false, and on
--                            floor c they are true; the cells of floor i
use Rattle.std.specs.Prelude.{ℕ, ◌+◌, ◌*◌, ◌<◌, ◌≡◌, Bool, true, false, List, [], ◌∷◌, eqb, get_or, Ok}
use Rattle.floor.specs.Floor.{Floor, stored_cells, floor_of, column, row}
use Rattle.sight.specs.Sight.{segment_of, enters, pinch}
use Rattle.moves.specs.declared.Directions.{Directions}
use Rattle.moves.specs.Moves.{directions_of}
use Rattle.paths.specs.Graph.{Graph}
use Rattle.paths.specs.Distance.{unreachable, distance, path_count}
use Rattle.paths.specs.Route.{traversals}
use Rattle.paths.specs.Sheet.{Sheet, sheet_of, TrueRoute, TrueNoRoute}
use Rattle.grid.specs.Grid.{floor_graph, job_shape}
use Rattle.given_costs.specs.Given.{costs_true}
use Rattle.thinning.specs.Thinning.{kept_positions}

pub record Case : Type 0 where
  pub wide : ℕ
  pub high : ℕ
  pub map : List ℕ
  pub neighbourhood : ℕ
  pub dirs : Directions
  pub start : ℕ
  pub end : ℕ
  pub sheet : Sheet
  pub cost : ℕ
  pub total : ℕ
  pub kept : List ℕ

abbrev pub plan_of : Case → Floor
plan_of c = floor_of c.wide c.high c.map

abbrev pub graph_of : Case → Graph
graph_of c = floor_graph (plan_of c) c.dirs

-- A case from the cells of its floor, a byte to a cell, its neighbourhood and ends, its sheet, and its cost, total and
-- kept positions.
abbrev pub job : ℕ → ℕ → List ℕ → ℕ → Directions → ℕ → ℕ → Sheet → ℕ → ℕ → List ℕ → Case
job w h l nb r a b s c t k = record {
  wide = w;
  high = h;
  map = stored_cells l;
  neighbourhood = nb;
  dirs = r;
  start = a;
  end = b;
  sheet = s;
  cost = c;
  total = t;
  kept = k;
}

abbrev pub eight : Directions
eight = directions_of 0 2 8

abbrev pub four : Directions
four = directions_of 0 4 4

abbrev pub sixteen : Directions
sixteen = directions_of 16 1 16

abbrev pub M : ℕ
M = unreachable

abbrev pub floor_a : Case
floor_a =
    job 1 1 (0 ∷ []) 8 eight 0 3
    (sheet_of (0 ∷ 408 ∷ 408 ∷ 577 ∷ []) (577 ∷ 408 ∷ 408 ∷ 0 ∷ []) (1 ∷ 0 ∷ 0 ∷ 1 ∷ []) (1 ∷ 0 ∷ 0 ∷ 1 ∷ [])
    (0 ∷ 3 ∷ 0 ∷ 0 ∷ [])
    (3 ∷ 0 ∷ 0 ∷ 3 ∷ []) 2)
    577 1 (0 ∷ 1 ∷ [])

abbrev pub floor_b : Case
floor_b =
    job 1 1 (0 ∷ []) 4 four 0 3
    (sheet_of (0 ∷ 408 ∷ 408 ∷ 816 ∷ []) (816 ∷ 408 ∷ 408 ∷ 0 ∷ []) (1 ∷ 1 ∷ 1 ∷ 2 ∷ []) (2 ∷ 1 ∷ 1 ∷ 1 ∷ [])
    (0 ∷ 1 ∷ 3 ∷ 0 ∷ [])
    (1 ∷ 3 ∷ 3 ∷ 3 ∷ []) 3)
    816 2 (0 ∷ 2 ∷ [])

abbrev pub floor_c : Case
floor_c =
    job 1 1 (1 ∷ []) 8 eight 0 3
    (sheet_of (0 ∷ M ∷ M ∷ M ∷ []) (0 ∷ 0 ∷ 0 ∷ 0 ∷ []) (0 ∷ 0 ∷ 0 ∷ 0 ∷ []) (0 ∷ 0 ∷ 0 ∷ 0 ∷ []) (0 ∷ 0 ∷ 0 ∷ 0 ∷ [])
    (0 ∷ 0 ∷ 0 ∷ 0 ∷ []) 0)
    0 0 []

abbrev pub floor_d : Case
floor_d =
    job 1 1 (1 ∷ []) 8 eight 0 0
    (sheet_of (0 ∷ M ∷ M ∷ M ∷ []) (0 ∷ M ∷ M ∷ M ∷ []) (1 ∷ 0 ∷ 0 ∷ 0 ∷ []) (1 ∷ 0 ∷ 0 ∷ 0 ∷ []) (0 ∷ 0 ∷ 0 ∷ 0 ∷ [])
    (0 ∷ 0 ∷ 0 ∷ 0 ∷ []) 1)
    0 1 (0 ∷ [])

abbrev pub floor_e : Case
floor_e =
    job 2 1 (0 ∷ 0 ∷ []) 8 eight 0 5
    (sheet_of (0 ∷ 408 ∷ 816 ∷ 408 ∷ 577 ∷ 985 ∷ []) (985 ∷ 577 ∷ 408 ∷ 816 ∷ 408 ∷ 0 ∷ [])
    (1 ∷ 1 ∷ 0 ∷ 0 ∷ 1 ∷ 2 ∷ []) (2 ∷ 1 ∷ 0 ∷ 0 ∷ 1 ∷ 1 ∷ []) (0 ∷ 1 ∷ 5 ∷ 0 ∷ 0 ∷ 0 ∷ [])
    (1 ∷ 5 ∷ 0 ∷ 0 ∷ 5 ∷ 5 ∷ []) 3)
    985 2 (0 ∷ 2 ∷ [])

abbrev pub floor_f : Case
floor_f =
    job 2 1 (0 ∷ 1 ∷ []) 8 eight 0 5
    (sheet_of (0 ∷ 408 ∷ M ∷ 408 ∷ 577 ∷ M ∷ []) (0 ∷ 0 ∷ 0 ∷ 0 ∷ 0 ∷ 0 ∷ [])
    (0 ∷ 0 ∷ 0 ∷ 0 ∷ 0 ∷ 0 ∷ []) (0 ∷ 0 ∷ 0 ∷ 0 ∷ 0 ∷ 0 ∷ []) (0 ∷ 0 ∷ 0 ∷ 0 ∷ 0 ∷ 0 ∷ [])
    (0 ∷ 0 ∷ 0 ∷ 0 ∷ 0 ∷ 0 ∷ []) 0)
    0 0 []

abbrev pub floor_g : Case
floor_g =
    job 2 2 (1 ∷ 0 ∷ 0 ∷ 1 ∷ []) 8 eight 2 6
    (sheet_of (M ∷ 408 ∷ 0 ∷ M ∷ M ∷ 408 ∷ M ∷ M ∷ M ∷ []) (0 ∷ 0 ∷ 0 ∷ 0 ∷ 0 ∷ 0 ∷ 0 ∷ 0 ∷ 0 ∷ [])
    (0 ∷ 0 ∷ 0 ∷ 0 ∷ 0 ∷ 0 ∷ 0 ∷ 0 ∷ 0 ∷ []) (0 ∷ 0 ∷ 0 ∷ 0 ∷ 0 ∷ 0 ∷ 0 ∷ 0 ∷ 0 ∷ [])
    (0 ∷ 0 ∷ 0 ∷ 0 ∷ 0 ∷ 0 ∷ 0 ∷ 0 ∷ 0 ∷ []) (0 ∷ 0 ∷ 0 ∷ 0 ∷ 0 ∷ 0 ∷ 0 ∷ 0 ∷ 0 ∷ []) 0)
    0 0 []

abbrev pub floor_h : Case
floor_h =
    job 2 2 (0 ∷ 0 ∷ 0 ∷ 0 ∷ []) 4 four 0 8
    (sheet_of (0 ∷ 408 ∷ 816 ∷ 408 ∷ 816 ∷ 1224 ∷ 816 ∷ 1224 ∷ 1632 ∷ [])
    (1632 ∷ 1224 ∷ 816 ∷ 1224 ∷ 816 ∷ 408 ∷ 816 ∷ 408 ∷ 0 ∷ [])
    (1 ∷ 1 ∷ 1 ∷ 1 ∷ 2 ∷ 3 ∷ 1 ∷ 3 ∷ 6 ∷ []) (6 ∷ 3 ∷ 1 ∷ 3 ∷ 2 ∷ 1 ∷ 1 ∷ 1 ∷ 1 ∷ [])
    (0 ∷ 1 ∷ 4 ∷ 5 ∷ 8 ∷ 0 ∷ 0 ∷ 0 ∷ 0 ∷ [])
    (1 ∷ 4 ∷ 5 ∷ 4 ∷ 5 ∷ 8 ∷ 7 ∷ 8 ∷ 8 ∷ []) 5)
    1632 6 (0 ∷ 4 ∷ [])

-- Floor e with 16: it costs 2236 and has total 1.
abbrev pub floor_e16 : Case
floor_e16 =
    job 2 1 (0 ∷ 0 ∷ []) 16 sixteen 0 5
    (sheet_of (0 ∷ 1000 ∷ 2000 ∷ 1000 ∷ 1414 ∷ 2236 ∷ []) (2236 ∷ 1414 ∷ 1000 ∷ 2000 ∷ 1000 ∷ 0 ∷ [])
    (1 ∷ 0 ∷ 0 ∷ 0 ∷ 0 ∷ 1 ∷ []) (1 ∷ 0 ∷ 0 ∷ 0 ∷ 0 ∷ 1 ∷ []) (0 ∷ 5 ∷ 0 ∷ 0 ∷ 0 ∷ 0 ∷ [])
    (5 ∷ 0 ∷ 0 ∷ 0 ∷ 0 ∷ 5 ∷ []) 2)
    2236 1 (0 ∷ 1 ∷ [])

abbrev pub floor_a16 : Case
floor_a16 =
    job 1 1 (0 ∷ []) 16 sixteen 0 3
    (sheet_of (0 ∷ 1000 ∷ 1000 ∷ 1414 ∷ []) (1414 ∷ 1000 ∷ 1000 ∷ 0 ∷ []) (1 ∷ 0 ∷ 0 ∷ 1 ∷ []) (1 ∷ 0 ∷ 0 ∷ 1 ∷ [])
    (0 ∷ 3 ∷ 0 ∷ 0 ∷ []) (3 ∷ 0 ∷ 0 ∷ 3 ∷ []) 2)
    1414 1 (0 ∷ 1 ∷ [])

-- Floor c with other neighbourhoods: nothing is reached, so that the sheet is the same.
abbrev pub floor_c4 : Case
floor_c4 = job 1 1 (1 ∷ []) 4 four 0 3 floor_c.sheet 0 0 []

abbrev pub floor_c16 : Case
floor_c16 = job 1 1 (1 ∷ []) 16 sixteen 0 3 floor_c.sheet 0 0 []

abbrev pub routes : List Case
routes = floor_a ∷ floor_b ∷ floor_d ∷ floor_e ∷ floor_h ∷ floor_a16 ∷ floor_e16 ∷ []

abbrev pub no_routes : List Case
no_routes = floor_c ∷ floor_f ∷ floor_g ∷ floor_c4 ∷ floor_c16 ∷ []

abbrev pub plans_a : List Case
plans_a = floor_a ∷ floor_b ∷ floor_a16 ∷ []

abbrev pub plans_c : List Case
plans_c = floor_c ∷ floor_c4 ∷ floor_c16 ∷ []

abbrev pub handed_in : Case → Case → Bool
handed_in c k = costs_true (graph_of c) c.start k.sheet.d

abbrev pub entered : List Bool
entered = true ∷ true ∷ false ∷ false ∷ true ∷ true ∷ []

pub record RouteHolds (c : Case) : Type 0 where
  pub shape : job_shape c.wide c.high c.map c.neighbourhood c.start c.end ≡ Ok c.dirs
  pub sheet : TrueRoute (graph_of c) c.start c.end c.sheet
  pub cost : distance (graph_of c) c.start c.end ≡ c.cost
  pub total : path_count (graph_of c) c.start c.end ≡ c.total
  pub kept : kept_positions (plan_of c) c.sheet.route c.sheet.n ≡ c.kept

pub record NoRouteHolds (c : Case) : Type 0 where
  pub shape : job_shape c.wide c.high c.map c.neighbourhood c.start c.end ≡ Ok c.dirs
  pub sheet : TrueNoRoute (graph_of c) c.start c.end c.sheet

-- P holds of each case of a list.
abbrev pub Each : (Case → Type 0) → List Case → Type 0
Each P [] = Unit {0}
Each P (c ∷ l) = P c × Each P l

pub record Worked : Type 0 where
  pub routes_hold : Each RouteHolds routes
  pub no_routes_hold : Each NoRouteHolds no_routes
  pub pinches_g : (v : ℕ) → v < 9 → pinch (plan_of floor_g) (column 2 v) (row 2 v) ≡ eqb v 4
  pub traversals_h : traversals (graph_of floor_h) 0 8 4 ≡ 4
  pub handed_a : (i j : ℕ) → i < 3 → j < 3 → handed_in (get_or plans_a i floor_a) (get_or plans_a j floor_a) ≡ eqb i j
  pub handed_c : (i j : ℕ) → i < 3 → j < 3 → handed_in (get_or plans_c i floor_c) (get_or plans_c j floor_c) ≡ true
  pub cells_i : (i j : ℕ) → i < 3 → j < 2 → enters (segment_of 0 0 3 2) i j ≡ get_or entered (j * 3 + i) false
