-- `given_costs::costs_true` meets its contract: the start costs 0, and the rows passed are right; `above` and `here`
-- are the windows of the lines above y and at y. Assumes nothing.
use Prim.Native.Nat.{◌+◌, ◌-◌}
use mathlib.Core.Path.{◌≡◌, ap, ◌∙◌}
use mathlib.Core.Bool.{not}
use native.Mathlib.Omega.{arith}
use native.Mathlib.Numerals.{add-one}
use Rattle.basics.proofs.Scan.{passed_none, passed-stop, passed-more, passed-all}
use Rattle.given_costs.proofs.Tested.{start-false, rows_true}
use Rattle.given_costs.proofs.costs_true.Goals as goal

pub returns-then-d-a-ne0 : goal.returns-then-d-a-ne0
returns-then-d-a-ne0 c = start-false c.requires.0 _ c.requires.1 c.if-d-a-ne0.true

pub loop-y-init : goal.loop-y-init
loop-y-init c = (passed_none _ _, c.window_row-above.ensures, c.window_row-above.ensures)

pub leaving_between-leaving-requires : goal.leaving_between-leaving-requires
leaving_between-leaving-requires c =
    let p = c.requires in (
      omega arith,
      p.0.listed,
      c.window_masks-windows.ensures,
      record { upper = c.loop-y.invariant.1; middle = c.loop-y.invariant.2; lower = rw add-one at c.window_row-below.ensures },
    )

pub returns-then-not-row_right : goal.returns-then-not-row_right
returns-then-not-row_right c =
    passed-stop c.row_right.result c.loop-y.invariant.0 (omega arith) c.row_right.ensures (ap not c.if-not-row_right.true)
    ∙ rows_true c.requires.0 _ c.requires.1 c.if-d-a-ne0.false

pub loop-y-preserved : goal.loop-y-preserved
loop-y-preserved c =
    let back : c.loop-y.y ≡ c.loop-y.y + 1 - 1 = omega arith in (
      passed-more c.row_right.result c.loop-y.invariant.0 (omega arith) c.row_right.ensures (ap not c.if-not-row_right.false),
      rw back at c.loop-y.invariant.2,
      c.window_row-below.ensures,
    )

pub returns : goal.returns
returns c =
    passed-all c.loop-y.invariant.0 (omega arith) ∙ rows_true c.requires.0 _ c.requires.1 c.if-d-a-ne0.false
