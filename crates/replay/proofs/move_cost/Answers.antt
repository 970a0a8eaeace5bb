-- `replay::move_cost` meets its contract: the loop goes on while no move leads from u to v. Assumes nothing.
use mathlib.Core.Path.{◌≡◌, sym, ap, ◌∙◌}
use native.Mathlib.Omega.{arith}
use borrow.Author.Count.{below_more}
use Rattle.std.proofs.Common.{Some}
use Rattle.floor.specs.Plan.{floor_on}
use Rattle.moves.specs.Moves.{move_at}
use Rattle.moves.specs.Steps.{far_end_at}
use Rattle.moves.specs.declared.Move.{Move}
use Rattle.moves.proofs.Table.{listed-lawful, move-short}
use Rattle.replay.specs.Replay.{goes_to}
use Rattle.replay.proofs.Moving.{on-floor, unseen-shut, none-leads, first-leads}
use Rattle.replay.proofs.move_cost.Goals.{After-leads_to}
use Rattle.replay.proofs.move_cost.Goals as goal

pub returns-then-not-in_sight : goal.returns-then-not-in_sight
returns-then-not-in_sight c =
    let a = c.args in
    unseen-shut (floor_on a.floor) a.u.0 a.v.0 a.dirs
    (sym c.in_sight.ensures ∙ c.if-not-in_sight.true)

pub move_at-step-requires : goal.move_at-step-requires
move_at-step-requires c =
    let p = c.requires in
    (listed-lawful p.0.listed, omega arith)

pub leads_to-requires : goal.leads_to-requires
leads_to-requires c =
    let a = c.args in
    let p = c.requires.0 in (
      on-floor a.floor.sized c.column_of-x.ensures.1 c.row_of-y.ensures.1,
      move-short _ c.loop-m.m (listed-lawful p.listed) (omega arith) c.move_at-step.ensures,
    )

-- The test of move m says whether it leads from u to v.
leads : (c : After-leads_to)
    → let a = c.args in
    goes_to (far_end_at a.floor.w a.floor.h (move_at a.dirs c.loop-m.m) c.column_of-x.result
    c.row_of-y.result) a.v.0
    ≡ c.leads_to.result
leads c =
    let a = c.args in
    ap (λ (m : Move). goes_to (far_end_at a.floor.w a.floor.h m c.column_of-x.result
    c.row_of-y.result) a.v.0) (sym c.move_at-step.ensures)
    ∙ sym c.leads_to.ensures

pub returns-then-leads_to : goal.returns-then-leads_to
returns-then-leads_to c =
    let a = c.args in
    ap (λ (m : Move). Some m.cost) c.move_at-step.ensures
    ∙ first-leads (floor_on a.floor) a.u.0 a.v.0 a.dirs c.column_of-x.result
    c.row_of-y.result c.column_of-x.ensures.0 c.row_of-y.ensures.0
    (sym c.in_sight.ensures ∙ c.if-not-in_sight.false) c.loop-m.m
    (omega arith) c.loop-m.invariant (leads (goal.at.returns-then-leads_to c).After-leads_to ∙ c.if-leads_to.true)

pub loop-m-preserved : goal.loop-m-preserved
loop-m-preserved c =
    below_more _ _ c.loop-m.invariant (leads (goal.at.loop-m-preserved c).After-leads_to ∙ c.if-leads_to.false)

pub returns : goal.returns
returns c =
    let a = c.args in
    none-leads (floor_on a.floor) a.u.0 a.v.0 a.dirs c.column_of-x.result
    c.row_of-y.result c.column_of-x.ensures.0 c.row_of-y.ensures.0
    (λ m h. c.loop-m.invariant m (omega arith))
