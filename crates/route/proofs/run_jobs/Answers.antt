-- `route::run_jobs` meets its contract: before each turn the text from its cursor on is due, and each turn but the last
-- moves the cursor on, so that less of the input is left; the costs keep their length.
use mathlib.Core.Path.{refl, ◌∙◌}
use native.Mathlib.Omega.{arith}
use lib.ListN.{length-take}
use Rattle.route.proofs.Running.{cells-lent, jobs-small, jobs-due, due-on, sent-more}
use Rattle.route.proofs.run_jobs.Goals as goal

pub copy_cells-requires : goal.copy_cells-requires
copy_cells-requires c =
    cells-lent _ _ _ c.requires.0.found _ c.requires.1

pub loop-sent-init : goal.loop-sent-init
loop-sent-init c = (
  jobs-due _ _ _ c.requires.0.found _ c.copy_cells.ensures c.requires.0.sure
      (omega (arith, c.requires.0.room, length-take c.args.first.count c.args.input.now)),
  jobs-small _ _ _ c.requires.0.found _ c.copy_cells.ensures,
  c.requires.2,
  c.requires.0.room,
  c.requires.0.within,
  refl,
)

pub read_for-r-requires : goal.read_for-r-requires
read_for-r-requires c =
    let i = c.loop-sent.invariant in
    (i.4, i.3, i.0.reached)

pub lend_turn-requires : goal.lend_turn-requires
lend_turn-requires c =
    let i = c.loop-sent.invariant in
    let d = due-on i.0 c.read_for-r.ensures (omega (arith, i.3, c.read_for-r.auto.input)) in
    (d, c.read_for-r.ensures.sure, i.1, i.2)

pub loop-sent-smaller : goal.loop-sent-smaller
loop-sent-smaller c =
    let g = sent-more c.lend_turn.ensures c.in_ok-sent.was c.in-Some.is in
    omega (arith, g.0, g.1.place, g.1.short)

pub loop-sent-preserved : goal.loop-sent-preserved
loop-sent-preserved c =
    let i = c.loop-sent.invariant in
    let g = sent-more c.lend_turn.ensures c.in_ok-sent.was c.in-Some.is in (
      g.1,
      i.1,
      c.lend_turn.auto.d ∙ i.2,
      c.read_for-r.auto.input ∙ i.3,
      c.read_for-r.ensures.within,
      c.read_for-r.auto.input ∙ i.5,
    )
