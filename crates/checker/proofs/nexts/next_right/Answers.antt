-- `checker::nexts::next_right` meets its contract: each return is one case of `right_next`. Assumes nothing.
use Rattle.paths.specs.Sheet.{sheet_in}
use Rattle.checker.proofs.Choices.{next_off, next-goal, next-to}
use Rattle.checker.proofs.nexts.next_right.Goals as goal

pub returns-then-not-on_way : goal.returns-then-not-on_way
returns-then-not-on_way c =
    let a = c.args in
    next_off a.dirs a.shifts.now a.mask a.b (sheet_in a.sheet) a.v c.from-x.result c.from-x.ensures c.on_way.ensures
    c.if-not-on_way.true

pub returns-then-v-b : goal.returns-then-v-b
returns-then-v-b c =
    let a = c.args in
    next-goal a.dirs a.shifts.now a.mask a.b (sheet_in a.sheet) a.v c.from-x.result c.from-x.ensures c.on_way.ensures
    c.if-not-on_way.false c.if-v-b.true

pub returns : goal.returns
returns c =
    let a = c.args in
    next-to a.dirs a.shifts.now a.mask a.b (sheet_in a.sheet) a.v c.from-x.result c.from-x.ensures c.on_way.ensures
    c.if-not-on_way.false c.if-v-b.false c.next_at.result.0 c.next_at.ensures
