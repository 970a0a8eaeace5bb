-- `closures::lowest_free` meets its contract: no slot below `k` is free. Assumes nothing.
use Rattle.closures.specs.Table.{held}
use Rattle.closures.proofs.Search.{Searched}
use Rattle.closures.proofs.lowest_free.Given as goal

abbrev pub invariant-loop-k : goal.invariant-loop-k
invariant-loop-k l = Searched (held l.fn.table) l.k
