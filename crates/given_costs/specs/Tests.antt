-- Used by contracts between functions; nobody has to believe it: laws tie it to the definitions.
-- The tests of handed-in costs, in the order in which they are run. They say the same as `costs_true`.
--
--   column_test g a d w y x   == the cost of the vertex in column x and row y, on a floor of width w, is right by its
--                               neighbours
--   row_test g a d w y        == the costs of the vertices of row y of a floor of width w are right by their neighbours
use Rattle.std.specs.Prelude.{ℕ, suc, Bool, List}
use Rattle.basics.specs.Bounded.{every}
use Rattle.floor.specs.Floor.{number}
use Rattle.paths.specs.Graph.{Graph}
use Rattle.paths.specs.Local.{entry}
use Rattle.neighbours.specs.Least.{right_cost_in}

abbrev pub column_test : Graph → ℕ → List ℕ → ℕ → ℕ → ℕ → Bool
column_test g a d w y x = right_cost_in g a (entry d) (number w x y)

abbrev pub row_test : Graph → ℕ → List ℕ → ℕ → ℕ → Bool
row_test g a d w y = every (suc w) (column_test g a d w y)
