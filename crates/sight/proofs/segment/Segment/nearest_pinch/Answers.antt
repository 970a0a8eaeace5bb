-- `sight::segment::Segment::nearest_pinch` meets its contract: the vertices looked at are those passed, and each so far
-- is no pinch. Assumes nothing.
use Prim.Native.Nat.{ℕ, ◌+◌, ◌*◌, ◌/◌, ◌≤◌}
use mathlib.Core.Path.{◌≡◌, refl, sym, ap₂, ◌∙◌}
use native.Mathlib.Omega.{arith}
use native.Mathlib.Nat.{div-add-mod', mul-le-mul}
use native.Mathlib.Numerals.{add-one}
use Rattle.sight.specs.Obstacle.{first, nearest_pinch}
use Rattle.sight.specs.Travel.{pinch_there}
use Rattle.sight.specs.Drawn.{floor_under, drawn}
use Rattle.sight.proofs.Common.{common-some, common-le}
use Rattle.sight.proofs.Drawn.{wide, high}
use Rattle.sight.proofs.First.{looked-none, looked-more, looked-all, looked-stop}
use Rattle.sight.proofs.Nearest.{common-nearest}
use Rattle.sight.proofs.segment.Segment.nearest_pinch.Goals.{After-common-n}
use Rattle.sight.proofs.segment.Segment.nearest_pinch.Goals as goal

nearest : (c : After-common-n)
    → let s = c.args.self in
    let n = c.common-n.result in
    nearest_pinch (floor_under s) (drawn s)
    ≡ first (n + 1) (λ i. pinch_there (floor_under s) (drawn s) (i * (s.columns / n)) (i * (s.rows / n)))
nearest c =
    let s = c.args.self in
    rw add-one
    (common-nearest (floor_under s) s.x0 s.y0 s.x1 s.y1 s.ends c.common-n.ensures s.apart.columns_are s.apart.rows_are
    c.requires)

pub overflow_add-k-end : goal.overflow_add-k-end
overflow_add-k-end c = omega (arith, wide c.args.self, high c.args.self, common-le c.common-n.ensures c.requires)

-- So many steps lead no farther than the ends are apart.
steps-le : (k n a : ℕ) → k ≤ n → k * (a / n) ≤ a
steps-le k n a l = omega (arith, mul-le-mul {n₁ = k} {m₁ = a / n} {n₂ = n} {m₂ = a / n} l (omega arith), div-add-mod' a n)

pub overflow_add-c : goal.overflow_add-c
overflow_add-c c =
    let s = c.args.self in
    let n = c.common-n.result in
    omega (
      arith,
      c.loop-k.invariant.0.column,
      steps-le c.loop-k.k n s.columns (omega arith),
      steps-le 1 n s.columns (common-some c.common-n.ensures c.requires),
      wide s,
    )

pub overflow_add-r : goal.overflow_add-r
overflow_add-r c =
    let s = c.args.self in
    let n = c.common-n.result in
    omega (
      arith,
      c.loop-k.invariant.0.row,
      steps-le c.loop-k.k n s.rows (omega arith),
      steps-le 1 n s.rows (common-some c.common-n.ensures c.requires),
      high s,
    )

pub loop-k-init : goal.loop-k-init
loop-k-init c = (record { column = omega arith; row = omega arith }, looked-none _ _)

pub returns-in-Some : goal.returns-in-Some
returns-in-Some c =
    let s = c.args.self in
    let S = c.loop-k.invariant.0 in
    looked-stop c.loop-k.invariant.1 (omega arith)
    (sym (ap₂ (pinch_there (floor_under s) (drawn s)) S.column S.row) ∙ sym c.in-Some.ensures) refl
    ∙ sym (nearest (goal.at.returns-in-Some c).After-common-n)

pub loop-k-preserved : goal.loop-k-preserved
loop-k-preserved c =
    let s = c.args.self in
    let n = c.common-n.result in
    let k = c.loop-k.k in
    let S = c.loop-k.invariant.0 in (
      record { column = omega (arith, S.column); row = omega (arith, S.row) },
      looked-more c.loop-k.invariant.1 (omega arith)
          (sym (ap₂ (pinch_there (floor_under s) (drawn s)) S.column S.row) ∙ sym c.pinch_there.ensures ∙ c.in_default.is),
    )

pub returns : goal.returns
returns c =
    looked-all c.loop-k.invariant.1 (omega arith) ∙ sym (nearest (goal.at.returns c).After-common-n)
