-- `floor::FloorPlan::blocked_at` meets its contract: each test for a cell outside the floor answers blocked, and a cell
-- on the floor is read. Assumes nothing.
use mathlib.Core.Path.{sym, ap, ◌∙◌}
use native.Mathlib.Omega.{arith}
use Rattle.floor.specs.Floor.{bit_at, cell_of}
use Rattle.floor.specs.Plan.{floor_on}
use Rattle.floor.proofs.Cells.{blocked-left, blocked-above, blocked-right, blocked-below, blocked-inside}
use Rattle.floor.proofs.plan.FloorPlan.blocked_at.Goals.{
  then-x-eq0-via-then-x-eq0,
  then-x-eq0-via-else-x-eq0+then-y-eq0,
  then-x-eq0-via-else-x-eq0+else-y-eq0+then-self-x,
  then-x-eq0-via-else-x-eq0+else-y-eq0+else-self-x+then-self-y,
}
use Rattle.floor.proofs.plan.FloorPlan.blocked_at.Goals as goal

pub returns-then-x-eq0 : goal.returns-then-x-eq0
returns-then-x-eq0 c =
    let f = floor_on c.args.self in
    let x = c.args.x in
    let y = c.args.y in
    sym (elim c.then-x-eq0.branch [
      | then-x-eq0-via-then-x-eq0 w ↦ blocked-left f x y w.if-x-eq0.true
      | then-x-eq0-via-else-x-eq0+then-y-eq0 w ↦ blocked-above f x y w.if-y-eq0.true
      | then-x-eq0-via-else-x-eq0+else-y-eq0+then-self-x w ↦ blocked-right f x y w.if-self-x.true
      | then-x-eq0-via-else-x-eq0+else-y-eq0+else-self-x+then-self-y w ↦ blocked-below f x y w.if-self-y.true
    ])

pub returns : goal.returns
unfolding cell_of
returns c =
    c.is_blocked.ensures ∙ ap (bit_at c.args.self.map.now) c.cell_before.ensures.0
    ∙ sym (blocked-inside (floor_on c.args.self) c.args.x c.args.y (omega arith) (omega arith) (omega arith)
    (omega arith))
