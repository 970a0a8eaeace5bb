-- `sight::pinches::pinch_at` meets its contract: on the edge by the law of the edge, elsewhere by the four cells that
-- are read. Assumes nothing.
use mathlib.Core.Path.{◌≡◌, sym, ◌∙◌}
use mathlib.Core.Bool.{Bool, beq, not, true, true≢false}
use Rattle.floor.specs.Plan.{floor_on}
use Rattle.sight.specs.Sight.{pinch}
use Rattle.sight.proofs.Passed.{edge-left, edge-above, edge-right, edge-below, pinch_of, pinch-tests, pinch-read}
use Rattle.sight.proofs.pinches.pinch_at.Goals.{
  After-blocked_at-d,
  then-x-eq0-via-then-x-eq0,
  then-x-eq0-via-else-x-eq0+then-y-eq0,
  then-x-eq0-via-else-x-eq0+else-y-eq0+then-floor-x,
  then-x-eq0-via-else-x-eq0+else-y-eq0+else-floor-x+then-floor-y,
  then-a-c,
  else-a-c,
}
use Rattle.sight.proofs.pinches.pinch_at.Goals as goal

pub returns-then-x-eq0 : goal.returns-then-x-eq0
returns-then-x-eq0 c =
    let f = floor_on c.args.floor in
    let x = c.args.x in
    let y = c.args.y in
    elim c.then-x-eq0.branch [
      | then-x-eq0-via-then-x-eq0 w ↦ sym (edge-left f x y w.if-x-eq0.true)
      | then-x-eq0-via-else-x-eq0+then-y-eq0 w ↦ sym (edge-above f x y w.if-y-eq0.true)
      | then-x-eq0-via-else-x-eq0+else-y-eq0+then-floor-x w ↦ sym (edge-right f x y w.if-floor-x.true)
      | then-x-eq0-via-else-x-eq0+else-y-eq0+else-floor-x+then-floor-y w ↦ sym (edge-below f x y w.if-floor-y.true)
    ]

-- The four cells, read.
read : (c : After-blocked_at-d) {r : Bool}
    → r ≡ pinch_of c.blocked_at-a.result c.blocked_at-b.result c.blocked_at-c.result c.blocked_at-d.result
    → r ≡ pinch (floor_on c.args.floor) c.args.x c.args.y
read c e =
    pinch-read (floor_on c.args.floor) c.args.x c.args.y c.blocked_at-a.ensures c.blocked_at-b.ensures
    c.blocked_at-c.ensures c.blocked_at-d.ensures e

pub returns-then-a-b : goal.returns-then-a-b
returns-then-a-b c =
    let k = pinch-tests c.blocked_at-a.result c.blocked_at-b.result c.blocked_at-c.result c.blocked_at-d.result in
    read (goal.at.returns-then-a-b c).After-blocked_at-d
    (elim c.if-a-c.branch [
      | then-a-c w ↦ let t : not (beq c.blocked_at-a.result c.blocked_at-c.result) ≡ true = w.if-a-c.true in
          rw (t, sym w.value-is ∙ c.if-a-b.true) at k
      | else-a-c w ↦ absurd (true≢false (sym c.if-a-b.true ∙ w.value-is ∙ w.if-a-c.false))
    ])

pub returns-else-a-b : goal.returns-else-a-b
returns-else-a-b c =
    let k = pinch-tests c.blocked_at-a.result c.blocked_at-b.result c.blocked_at-c.result c.blocked_at-d.result in
    read (goal.at.returns-else-a-b c).After-blocked_at-d
    (elim c.if-a-c.branch [
      | then-a-c w ↦ c.if-a-b.false ∙ (rw (w.if-a-c.true, sym w.value-is ∙ c.if-a-b.false) at k)
      | else-a-c w ↦ c.if-a-b.false ∙ (rw w.if-a-c.false at k)
    ])
