-- `counts::count_of` meets its contract: each return is one case of `count_of`. Assumes nothing.
use Rattle.counts.proofs.Passing.{count-one, count-sum}
use Rattle.counts.proofs.count_of.Goals as goal

pub returns-then-u-start : goal.returns-then-u-start
returns-then-u-start c =
    let a = c.args in
    count-one a.dirs a.shifts.now a.mask a.start a.d.now a.f.now a.u c.if-u-start.true

pub returns : goal.returns
returns c =
    let a = c.args in
    count-sum a.dirs a.shifts.now a.mask a.start a.d.now a.f.now a.u c.if-u-start.false _
    c.inflow_at.ensures
