-- Costs that a caller hands in.
--
--   costs_true g a d   == the list d has the true costs from a on graph g, one for each vertex
use Rattle.std.specs.Prelude.{ℕ, Bool, List}
use Rattle.basics.specs.Lists.{tabulate, same}
use Rattle.paths.specs.Graph.{Graph}
use Rattle.paths.specs.Distance.{distance}

unfoldable pub costs_true : Graph → ℕ → List ℕ → Bool
costs_true g a d = same d (tabulate g.size (distance g a))
