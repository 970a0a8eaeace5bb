-- `sight::segment::Segment::steep_obstacle` meets its contract: the rows passed have nothing in the way, the crossing of
-- the next row line is known, and a row's run is one cell or two. Assumes nothing.
use mathlib.Core.Path.{◌≡◌, refl, sym, ◌∙◌}
use native.Mathlib.Omega.{arith}
use Rattle.std.specs.Prelude.{None}
use Rattle.sight.proofs.Drawn.{high, some-rows, inside, second-inside, next-same, next-over, row-first, row-same, row-corner, row-second}
use Rattle.sight.proofs.First.{looked-none, looked-more, looked-stop}
use Rattle.sight.proofs.Runs.{crosses-first}
use Rattle.sight.proofs.segment.Segment.steep_obstacle.Goals.{
  then-self-at+else-at-ne0,
  else-at-ne0-via-else-at-ne0,
  else-at-ne0-via-then-at-ne0+in-None-1,
  else-self-at,
}
use Rattle.sight.proofs.segment.Segment.steep_obstacle.Goals as goal

pub loop-r-init : goal.loop-r-init
loop-r-init c = (looked-none _ _, crosses-first _ _ (some-rows c.args.self (omega (arith, c.requires))))

pub cell_there-requires : goal.cell_there-requires
cell_there-requires c =
    (inside c.args.self c.requires (omega arith) c.loop-r.invariant.1, omega arith)

pub returns-in-Some : goal.returns-in-Some
returns-in-Some c =
    let l = c.loop-r.invariant in
    looked-stop l.0 (omega arith) (row-first c.args.self c.requires (omega arith) l.1 c.in-Some.ensures) refl

pub overflow_add-at : goal.overflow_add-at
overflow_add-at c =
    let s = c.args.self in
    omega (arith, high s, s.apart.rows_are, c.loop-r.invariant.1.below, c.requires)

pub cell_there-requires-then-self-at : goal.cell_there-requires-then-self-at
cell_there-requires-then-self-at c =
    (second-inside c.args.self c.requires (omega arith) c.loop-r.invariant.1 c.if-self-at.true c.if-at-ne0.true, omega arith)

pub returns-then-self-at : goal.returns-then-self-at
returns-then-self-at c =
    let l = c.loop-r.invariant in
    looked-stop l.0 (omega arith)
    (row-second c.args.self c.requires (omega arith) l.1 (sym c.cell_there.ensures ∙ c.in_default.is) c.if-self-at.true
    c.if-at-ne0.true c.in-Some-cell_there.ensures) refl

pub loop-r-preserved : goal.loop-r-preserved
loop-r-preserved c =
    let s = c.args.self in
    let l = c.loop-r.invariant in
    let n = c.requires in
    let e = sym c.cell_there.ensures ∙ c.in_default.is in
    elim c.if-self-at.branch [
      | then-self-at+else-at-ne0 w ↦
          rw w.at-is (
            looked-more l.0 (omega arith)
                (elim w.else-at-ne0.branch [
                  | else-at-ne0-via-else-at-ne0 w' ↦ row-corner s n (omega arith) l.1 e w.if-self-at.true w'.if-at-ne0.false
                  | else-at-ne0-via-then-at-ne0+in-None-1 w' ↦
                      let q : w'.cell_there-then-self-at.result ≡ None = cc in
                      row-second s n (omega arith) l.1 e w.if-self-at.true w'.if-at-ne0.true (sym q ∙ w'.cell_there-then-self-at.ensures)
                ]),
            next-over s n (omega arith) l.1 w.if-self-at.true,
          )
      | else-self-at w ↦
          rw w.at-is (
            looked-more l.0 (omega arith) (row-same s n (omega arith) l.1 e w.if-self-at.false),
            next-same s n (omega arith) l.1 w.if-self-at.false,
          )
    ]
