-- `closures::lowest_free` meets its contract: no slot below `k` is free. Assumes nothing.
use Rattle.closures.specs.Table.{held}
use Rattle.closures.proofs.Search.{searched-none, searched-found, searched-more, searched-all}
use Rattle.closures.proofs.lowest_free.Goals as goal

pub loop-k-init : goal.loop-k-init
loop-k-init c = searched-none (held c.args.table)

pub loop-k-preserved : goal.loop-k-preserved
loop-k-preserved c =
    searched-more c.loop-k.invariant c.loop-k-test.true c.is_none.ensures c.if-is_none.false

pub returns-then-is_none : goal.returns-then-is_none
returns-then-is_none c =
    searched-found c.loop-k.invariant c.loop-k-test.true c.is_none.ensures c.if-is_none.true

pub returns : goal.returns
returns c = searched-all c.loop-k.invariant c.loop-k-test.false
