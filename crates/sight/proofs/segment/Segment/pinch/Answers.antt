-- `sight::segment::Segment::pinch` meets its contract: a segment of no length passes none, and a short one passes its
-- ends alone. Assumes nothing.
use Prim.Native.Nat.{◌+◌, ◌≤◌}
use mathlib.Core.Path.{◌≡◌, sym, ◌∙◌}
use mathlib.Core.Bool.{false}
use native.Mathlib.Omega.{arith}
use Rattle.std.specs.Prelude.{None}
use Rattle.basics.proofs.Bounded.{pick_yes, pick_no}
use Rattle.sight.specs.Sight.{still}
use Rattle.sight.specs.Obstacle.{span, nearest_pinch}
use Rattle.sight.specs.Drawn.{floor_under, drawn}
use Rattle.sight.specs.declared.segment.Segment.{Segment}
use Rattle.sight.proofs.Passed.{still-yes, still-apart, unit-nearest}
use Rattle.sight.proofs.segment.Segment.pinch.Goals as goal

pub returns-then-self-eq0-2 : goal.returns-then-self-eq0-2
returns-then-self-eq0-2 c =
    let s = c.args.self in
    sym (pick_yes (still (drawn s)) None (nearest_pinch (floor_under s) (drawn s))
    (still-yes s.x0 s.y0 s.x1 s.y1 (omega (arith, s.apart.columns_are)) (omega (arith, s.apart.rows_are))))

-- Where the segment has a length, the nearest pinch it is.
long : (s : Segment) → 1 ≤ s.columns + s.rows → 1 ≤ span s.x0 s.x1 + span s.y0 s.y1
long s h = omega (arith, s.apart.columns_are, s.apart.rows_are)

moved : (s : Segment) → 1 ≤ s.columns + s.rows → still (drawn s) ≡ false
moved s h = still-apart s.x0 s.y0 s.x1 s.y1 (long s h)

pub returns-then-self-le1-2 : goal.returns-then-self-le1-2
returns-then-self-le1-2 c =
    let s = c.args.self in
    let n : 1 ≤ s.columns + s.rows = omega (arith, c.else-self-eq0.either) in
    c.ends_pinch.ensures
    ∙ sym
    (unit-nearest (floor_under s) s.x0 s.y0 s.x1 s.y1 s.ends (omega (arith, s.apart.columns_are)) (omega (arith, s.apart.rows_are))
    (long s n))
    ∙ sym (pick_no (still (drawn s)) None (nearest_pinch (floor_under s) (drawn s)) (moved s n))

pub returns : goal.returns
returns c =
    let s = c.args.self in
    let n : 1 ≤ s.columns + s.rows = omega (arith, c.else-self-eq0.either) in
    c.nearest_pinch.ensures ∙ sym (pick_no (still (drawn s)) None (nearest_pinch (floor_under s) (drawn s)) (moved s n))
