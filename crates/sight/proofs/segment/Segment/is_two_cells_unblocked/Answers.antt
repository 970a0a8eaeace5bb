-- `sight::segment::Segment::is_two_cells_unblocked` meets its contract: the cells that it reads are the two that the
-- segment enters. Assumes nothing.
use Prim.Native.Nat.{ℕ, ◌+◌, ◌-◌}
use mathlib.Core.Path.{◌≡◌, sym, ap₂, ◌∙◌}
use mathlib.Core.Bool.{◌||◌, not}
use native.Mathlib.Omega.{arith}
use Rattle.std.proofs.Common.{rules}
use Rattle.floor.specs.Floor.{blocked}
use Rattle.sight.specs.Obstacle.{span}
use Rattle.sight.specs.Sight.{unblocked}
use Rattle.sight.specs.Drawn.{floor_under, drawn}
use Rattle.sight.proofs.Unit.{two_cells}
use Rattle.sight.proofs.segment.Segment.is_two_cells_unblocked.Goals.{After-blocked_at-last, then-other, else-other}
use Rattle.sight.proofs.segment.Segment.is_two_cells_unblocked.Goals as goal

pub overflow_sub-x : goal.overflow_sub-x
unfolding span
overflow_sub-x c = search rules

pub overflow_sub-y : goal.overflow_sub-y
unfolding span
overflow_sub-y c = search rules

-- Nothing is in the way where neither cell is blocked.
told : (c : After-blocked_at-last)
    → not (c.blocked_at-other.result || c.blocked_at-last.result)
    ≡ unblocked (floor_under c.args.self) (drawn c.args.self)
told c =
    let s = c.args.self in
    let x = c.max-x.ensures in
    let y = c.max-y.ensures in
    ap₂ (λ other last. not (other || last))
    (c.blocked_at-other.ensures
    ∙ ap₂ (blocked (floor_under s)) (ap₂ (λ (i n : ℕ). i + 1 - n) x s.apart.columns_are) (ap₂ (λ (i n : ℕ). i + 1 - n) y s.apart.rows_are))
    (c.blocked_at-last.ensures ∙ ap₂ (blocked (floor_under s)) x y)
    ∙ sym
    (two_cells (floor_under s) s.x0 s.y0 s.x1 s.y1 s.ends (omega arith) (omega arith) (omega arith))

pub returns : goal.returns
returns c =
    let k = told (goal.at.returns c).After-blocked_at-last in
    elim c.if-other.branch [
      | then-other w ↦ rw (w.result-is, w.if-other.true) (rw w.if-other.true at k)
      | else-other w ↦ rw w.result-is (rw w.if-other.false at k)
    ]
