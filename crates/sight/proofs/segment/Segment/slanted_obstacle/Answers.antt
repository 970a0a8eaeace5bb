-- `sight::segment::Segment::slanted_obstacle` meets its contract: the rows passed have nothing in the way, and the
-- crossing of the next row line is known. Assumes nothing.
use Prim.Native.Nat.{◌+◌}
use mathlib.Core.Path.{refl, sym, ◌∙◌}
use native.Mathlib.Omega.{arith}
use native.Mathlib.Nat.{mod-lt, div-le_self}
use Rattle.sight.specs.Obstacle.{span}
use Rattle.sight.specs.Travel.{Crosses}
use Rattle.sight.proofs.Drawn.{wide, high, some-rows, in-row}
use Rattle.sight.proofs.First.{looked-none, looked-more, looked-stop}
use Rattle.sight.proofs.Runs.{crosses-first, crosses-next, crosses-inside}
use Rattle.sight.proofs.segment.Segment.slanted_obstacle.Goals.{After-next-next}
use Rattle.sight.proofs.segment.Segment.slanted_obstacle.Goals as goal

pub loop-r-init : goal.loop-r-init
loop-r-init c = (looked-none _ _, crosses-first _ _ (some-rows c.args.self c.requires))

pub next-next-requires : goal.next-next-requires
next-next-requires c =
    let s = c.args.self in
    let at = c.loop-r.invariant.1 in
    let row = in-row s {r = c.loop-r.r} (omega arith) in (
      omega (arith, wide s, s.apart.columns_are, crosses-inside at (omega arith)),
      omega (arith, wide s, div-le_self s.columns s.rows),
      omega (arith, at.below, s.apart.rows_are),
      mod-lt s.columns c.requires,
      high s,
    )

-- The crossing of the row's second line.
crossed : (c : After-next-next)
    → let s = c.args.self in
    let to = c.next-next.result in
    Crosses (span s.x0 s.x1) (span s.y0 s.y1) (c.loop-r.r + 1) to.column to.rest
crossed c =
    crosses-next c.args.self.apart.columns_are c.args.self.apart.rows_are c.loop-r.invariant.1
    c.next-next.ensures

pub past-requires : goal.past-requires
past-requires c =
    let s = c.args.self in
    let row = in-row s {r = c.loop-r.r} (omega arith) in
    omega (arith, wide s, s.apart.columns_are, crosses-inside (crossed c) (omega arith))

pub row_obstacle-requires : goal.row_obstacle-requires
row_obstacle-requires c =
    let s = c.args.self in
    let r = c.loop-r.r in (
      omega arith,
      c.past.ensures s.x0 s.y0 s.x1 s.y1 r (in-row s (omega arith)) c.loop-r.invariant.1
          (crossed (goal.at.row_obstacle-requires c).After-next-next),
    )

pub returns-in-Some : goal.returns-in-Some
returns-in-Some c = looked-stop c.loop-r.invariant.0 (omega arith) (sym c.in-Some.ensures) refl

pub loop-r-preserved : goal.loop-r-preserved
loop-r-preserved c = (
  looked-more c.loop-r.invariant.0 (omega arith) (sym c.row_obstacle.ensures ∙ c.in_default.is),
  crossed (goal.at.loop-r-preserved c).After-next-next,
)
