-- `floor::block_cells` meets its contract: the cells before `at` are blocked. Assumes nothing.
use Rattle.floor.proofs.Blocking.{Blocking}
use Rattle.floor.proofs.block_cells.Given as goal

abbrev pub invariant-loop-at : goal.invariant-loop-at
invariant-loop-at l = Blocking l.from l.count l.initial.map l.at-end l.at l.map
