-- `planner::route::Numbers::next_number` meets its contract: each return is a case of `number_at`. Assumes nothing.
use mathlib.Core.Path.{sym, ◌∙◌}
use native.Mathlib.Omega.{arith}
use Rattle.planner.proofs.Numbering.{number-off, number-goal, number-to}
use Rattle.planner.proofs.route.Numbers.next_number.Goals as goal

pub on_way-requires : goal.on_way-requires
on_way-requires c =
    let k = c.requires.0.choosing c.args.v c.requires.1 in
    (k.goal_in, c.requires.1, omega (arith, c.requires.1, k.e_len))

pub returns-then-not-on_way : goal.returns-then-not-on_way
returns-then-not-on_way c =
    let n = c.args.self in
    number-off n.f.now n.back.now (c.requires.0.choosing c.args.v c.requires.1) c.on_way.ensures c.if-not-on_way.true

pub returns-then-v-self : goal.returns-then-v-self
returns-then-v-self c =
    let n = c.args.self in
    number-goal n.f.now n.back.now (c.requires.0.choosing c.args.v c.requires.1) c.on_way.ensures c.if-not-on_way.false
    c.if-v-self.true

pub mask_at-mask-requires : goal.mask_at-mask-requires
mask_at-mask-requires c = let p = c.requires.0 in (p.few, p.work_len, c.requires.1)

pub next_at-requires : goal.next_at-requires
next_at-requires c =
    let p = c.requires.0 in
    let way = sym c.on_way.ensures ∙ c.if-not-on_way.false in (
      rw c.mask_at-mask.ensures (p.choosing c.args.v c.requires.1),
      p.counted,
      rw c.mask_at-mask.ensures ((p.leads c.args.v c.requires.1).onward way c.if-v-self.false),
    )

pub returns : goal.returns
returns c =
    let n = c.args.self in
    number-to n.f.now n.back.now (c.requires.0.choosing c.args.v c.requires.1) c.on_way.ensures c.if-not-on_way.false
    c.if-v-self.false c.next_at.result.0 (rw c.mask_at-mask.ensures at c.next_at.ensures)
