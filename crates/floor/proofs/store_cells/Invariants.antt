-- `floor::store_cells` meets its contract: the cells below `at` are stored. Assumes nothing.
use Rattle.floor.proofs.Storing.{Storing}
use Rattle.floor.proofs.store_cells.Given as goal

abbrev pub invariant-loop-at : goal.invariant-loop-at
invariant-loop-at l = Storing l.cells l.at-end l.at l.map
