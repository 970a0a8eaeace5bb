-- `neighbours::any_on_way` meets its contract: the flag is false only where no test held. Assumes nothing.
use Rattle.neighbours.proofs.Choice.{OffScan}
use Rattle.neighbours.proofs.any_on_way.Given as goal

abbrev pub invariant-loop-v : goal.invariant-loop-v
invariant-loop-v l = OffScan l.d l.e l.goal l.first l.v l.any
