-- `records::stream::cells_good` meets its contract: the iterator tests each cell. Assumes nothing.
use borrow.Author.Tests.{tests}
use Rattle.std.proofs.Common.{rules, ◌≤◌, ◌<◌}
use Rattle.std.proofs.lemmas.Iterator.{cases_from_all, YieldsList-from_slice}
use Rattle.records.proofs.Cells.{cells-answered}
use Rattle.records.proofs.stream.cells_good.Goals as goal

pub returns : goal.returns
returns c =
    cells-answered c.args.s.now c.args.from c.args.count c.requires c.all.result
    (cases_from_all _ _ _ (λ x. x ≤ 1) (λ x. 1 < x) c.all.ensures.ran
    (YieldsList-from_slice _ c.iter.ensures.rest)
    (λ x q k. search (rules, tests)) (λ x q k. search (rules, tests)))
