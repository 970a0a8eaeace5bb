-- A floor with a neighbourhood as a graph, and the shape of a job: refusals 1 to 5, then 11.
--
--   table_graph f n M      == the graph of floor f with the moves M 0, .. M (n - 1)
--   floor_graph f r        == the graph of floor f with the moves of the neighbourhood whose directions are r
--   pinch_shape f v        == refusal 11 of one end: it is a pinch (rule 6.5)
--   ends_shape w h l a b   == the refusals of both ends: 5 of either, then 11 of either
--   job_shape w h l nb a b == the directions of the neighbourhood where floor, neighbourhood and both ends have a good
--                             shape, else the first refusal that applies, of 1 to 5 and then 11
use Rattle.std.specs.Prelude.{ℕ, List, Option, Some, None, Result, Ok, Err}
use Rattle.basics.specs.Bounded.{pick}
use Rattle.floor.specs.Floor.{Floor, floor_of, vertices, column, row}
use Rattle.floor.specs.Refusals.{Shape, floor_shape, end_shape, and_then}
use Rattle.floor.specs.declared.Refusal.{Refusal}
use Rattle.floor.specs.declared.Refusal.TheVariants.{Neighbourhood, Pinched}
use Rattle.sight.specs.Sight.{pinch}
use Rattle.moves.specs.declared.Move.{Move}
use Rattle.moves.specs.declared.Directions.{Directions}
use Rattle.moves.specs.Moves.{move_at, neighbourhood_of}
use Rattle.moves.specs.Steps.{open_end}
use Rattle.paths.specs.Graph.{Graph}

abbrev pub table_graph : Floor → ℕ → (ℕ → Move) → Graph
table_graph f n M = record {
  size = vertices f.wide f.high;
  moves = n;
  cost = λ m. (M m).cost;
  step = λ m v. open_end f (M m) v;
}

abbrev pub floor_graph : Floor → Directions → Graph
floor_graph f r = table_graph f r.count (move_at r)

-- The directions of the neighbourhood where the ends have a good shape s, else the refusal.
abbrev pub with_dirs : Option Directions → Shape → Result Directions Refusal
with_dirs (Some r) s = and_then s (Ok r)
with_dirs None s = Err Neighbourhood

unfoldable pub pinch_shape : Floor → ℕ → Shape
pinch_shape f v = pick (pinch f (column f.wide v) (row f.wide v)) (Err Pinched) (Ok tt)

unfoldable pub ends_shape : ℕ → ℕ → List ℕ → ℕ → ℕ → Shape
ends_shape w h l a b =
    and_then (and_then (end_shape w h a) (end_shape w h b))
    (and_then (pinch_shape (floor_of w h l) a) (pinch_shape (floor_of w h l) b))

unfoldable pub job_shape : ℕ → ℕ → List ℕ → ℕ → ℕ → ℕ → Result Directions Refusal
job_shape w h l nb a b = and_then (floor_shape w h l) (with_dirs (neighbourhood_of nb) (ends_shape w h l a b))
