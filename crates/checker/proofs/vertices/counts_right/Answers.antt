-- `checker::vertices::counts_right` meets its contract: it tests one count and then the other. Assumes nothing.
use Rattle.paths.specs.Sheet.{sheet_in}
use Rattle.checker.proofs.Vertex.{counts_from, counts_to}
use Rattle.checker.proofs.vertices.counts_right.Goals as goal

pub returns-then-count_right : goal.returns-then-count_right
returns-then-count_right c =
    let a = c.args in
    counts_to a.dirs a.shifts.now a.mask a.a a.b (sheet_in a.sheet) a.v c.on_way-on.ensures c.count_right.ensures
    c.if-count_right.true c.count_right-then-count_right.ensures

pub returns-else-count_right : goal.returns-else-count_right
returns-else-count_right c =
    let a = c.args in
    counts_from a.dirs a.shifts.now a.mask a.a a.b (sheet_in a.sheet) a.v c.on_way-on.ensures c.count_right.ensures
    c.if-count_right.false
