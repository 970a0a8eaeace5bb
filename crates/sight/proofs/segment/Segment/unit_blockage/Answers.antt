-- `sight::segment::Segment::unit_blockage` meets its contract: where something is in the way, it is the one step of the
-- segment or the one cell that it enters. Assumes nothing.
use Prim.Native.Nat.{◌-◌}
use mathlib.Core.Path.{sym, ap, ap₂, ◌∙◌}
use native.Mathlib.Omega.{arith}
use Rattle.std.specs.Prelude.{Some}
use Rattle.std.proofs.Common.{rules}
use Rattle.sight.specs.Obstacle.{cell_at, span}
use Rattle.sight.specs.Drawn.{floor_under}
use Rattle.sight.specs.declared.Obstacle.TheVariants.{Cell, Step}
use Rattle.sight.proofs.Unit.{unit-clear, upright-step, level-step, slanted-cell}
use Rattle.sight.proofs.segment.Segment.unit_blockage.Goals.{then-self-eq0-via-then-self-eq0, then-self-eq0-via-else-self-eq0+then-self-eq0-2}
use Rattle.sight.proofs.segment.Segment.unit_blockage.Goals as goal

pub returns-then-is_unit_unblocked : goal.returns-then-is_unit_unblocked
returns-then-is_unit_unblocked c =
    let s = c.args.self in
    unit-clear (floor_under s) s.x0 s.y0 s.x1 s.y1 s.ends
    (sym c.is_unit_unblocked.ensures ∙ c.if-is_unit_unblocked.true)

pub returns-then-self-eq0 : goal.returns-then-self-eq0
returns-then-self-eq0 c =
    let s = c.args.self in
    let shut = sym c.is_unit_unblocked.ensures ∙ c.if-is_unit_unblocked.false in
    ap (λ v. Some (Step (record { 0 = v }))) c.vertex_at.ensures.0
    ∙ elim c.then-self-eq0.branch [
      | then-self-eq0-via-then-self-eq0 w ↦ upright-step (floor_under s) s.x0 s.y0 s.x1 s.y1 s.ends shut (omega arith) (omega arith)
      | then-self-eq0-via-else-self-eq0+then-self-eq0-2 w ↦ level-step (floor_under s) s.x0 s.y0 s.x1 s.y1 s.ends shut (omega arith) (omega arith)
    ]

pub cell_before-requires : goal.cell_before-requires
unfolding span
cell_before-requires c = search rules

pub returns : goal.returns
returns c =
    let x = c.max.ensures in
    let y = c.max-2.ensures in
    let s = c.args.self in
    ap (λ v. Some (Cell (record { 0 = v }))) c.cell_before.ensures.0
    ∙ ap₂ (λ x y. cell_at (floor_under s) (x - 1) (y - 1)) x y
    ∙ slanted-cell (floor_under s) s.x0 s.y0 s.x1 s.y1 s.ends
    (sym c.is_unit_unblocked.ensures ∙ c.if-is_unit_unblocked.false) (omega arith) (omega arith)
