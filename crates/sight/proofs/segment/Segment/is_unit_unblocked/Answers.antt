-- `sight::segment::Segment::is_unit_unblocked` meets its contract: each return is one of the laws `unit-still`,
-- `-upright`, `-level` and `-slanted`. Assumes nothing.
use mathlib.Core.Path.{sym, ap, ap₂, ◌∙◌}
use mathlib.Core.Bool.{not}
use native.Mathlib.Omega.{arith}
use Rattle.floor.specs.Floor.{blocked}
use Rattle.sight.specs.Travel.{upright_to, level_to}
use Rattle.sight.specs.Drawn.{floor_under}
use Rattle.sight.proofs.Unit.{unit-still, unit-upright, unit-level, unit-slanted}
use Rattle.sight.proofs.segment.Segment.is_unit_unblocked.Goals as goal

pub returns-then-self-eq0-2 : goal.returns-then-self-eq0-2
returns-then-self-eq0-2 c =
    let s = c.args.self in
    rw c.if-self-eq0-2.true
    (sym (unit-still (floor_under s) s.x0 s.y0 s.x1 s.y1 s.ends (omega arith) (omega arith)))

pub returns-else-self-eq0-2 : goal.returns-else-self-eq0-2
returns-else-self-eq0-2 c =
    let s = c.args.self in
    c.upright_open.ensures ∙ ap (upright_to (floor_under s) s.x0) c.max-y.ensures
    ∙ sym (unit-upright (floor_under s) s.x0 s.y0 s.x1 s.y1 s.ends (omega arith) (omega arith))

pub returns-then-self-eq0-3 : goal.returns-then-self-eq0-3
returns-then-self-eq0-3 c =
    let s = c.args.self in
    c.level_open.ensures ∙ ap (λ x. level_to (floor_under s) x s.y0) c.max-x.ensures
    ∙ sym (unit-level (floor_under s) s.x0 s.y0 s.x1 s.y1 s.ends (omega arith) (omega arith))

pub returns : goal.returns
returns c =
    let s = c.args.self in
    ap not (c.blocked_at.ensures ∙ ap₂ (blocked (floor_under s)) c.max-x.ensures c.max-y.ensures)
    ∙ sym (unit-slanted (floor_under s) s.x0 s.y0 s.x1 s.y1 s.ends (omega arith) (omega arith))
