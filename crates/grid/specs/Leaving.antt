-- Used by contracts between functions; nobody has to believe it: laws tie it to the definitions.
-- A floor's graph with any test of a move's segment in place of `sees`. `graph_if sees` is `floor_graph`; the laws of
-- neighbours/proofs/Leaving.antt relate it to `leaving_graph`.
--
--   graph_if S f r      == the graph of floor f with those moves of the directions r whose segment passes the test S
--   leaving_graph f r   == `graph_if leaves f r`: the graph of floor f with the moves of r that leave their first end
use Rattle.std.specs.Prelude.{Bool}
use Rattle.floor.specs.Floor.{Floor, vertices, column, row}
use Rattle.sight.specs.Sight.{Segment}
use Rattle.moves.specs.declared.Directions.{Directions}
use Rattle.moves.specs.Moves.{move_at}
use Rattle.moves.specs.Steps.{end_if}
use Rattle.moves.specs.Leaving.{leaves}
use Rattle.paths.specs.Graph.{Graph}

abbrev pub graph_if : (Floor → Segment → Bool) → Floor → Directions → Graph
graph_if S f r = record {
  size = vertices f.wide f.high;
  moves = r.count;
  cost = λ m. (move_at r m).cost;
  step = λ m v. end_if S f (move_at r m) (column f.wide v) (row f.wide v);
}

abbrev pub leaving_graph : Floor → Directions → Graph
leaving_graph = graph_if leaves
