-- `distances::dijkstra::settle` meets its contract: from the source alone settled, the algorithm with as many queues as
-- there are costs. Assumes nothing.
use Rattle.distances.proofs.Start.{begun, costs-begun}
use Rattle.distances.proofs.dijkstra.settle.Goals as goal

pub settle_begun-requires-clause-begun : goal.settle_begun-requires-clause-begun
settle_begun-requires-clause-begun c = (_, _, _, begun c.requires.2 c.begin.ensures)

pub returns-then-classes-eq0 : goal.returns-then-classes-eq0
returns-then-classes-eq0 c =
    λ g r M. costs-begun M c.begin.ensures (c.settle_begun.ensures g r _ (begun M c.begin.ensures))

pub settle_begun-requires-else-classes-eq0-clause-begun : goal.settle_begun-requires-else-classes-eq0-clause-begun
settle_begun-requires-else-classes-eq0-clause-begun c = (_, _, _, begun c.requires.2 c.begin.ensures)

pub returns-else-classes-eq0 : goal.returns-else-classes-eq0
returns-else-classes-eq0 c =
    λ g r M. costs-begun M c.begin.ensures
    (c.settle_begun-else-classes-eq0.ensures g r _ (begun M c.begin.ensures))
