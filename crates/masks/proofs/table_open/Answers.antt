-- `masks::table_open` meets its contract: the mask has the open directions of the moves before m. Assumes nothing.
use mathlib.Core.Path.{◌≡◌}
use native.Mathlib.Omega.{arith}
use native.Mathlib.Numerals.{add-one}
use Rattle.masks.proofs.Windows.{gathered_none, gathered-all, move_needs, gathered-open}
use Rattle.masks.proofs.table_open.Goals as goal

pub loop-m-init : goal.loop-m-init
loop-m-init g c = (gathered_none, omega arith)

pub dir_open-mask-requires : goal.dir_open-mask-requires
dir_open-mask-requires g c =
    let p = c.requires in
    let n = move_needs p.0 c.loop-m.m (omega (arith, p.1)) c.move_at-t.ensures in
    (n.0, n.1, c.dir_at.ensures.1, p.2)

pub loop-m-preserved : goal.loop-m-preserved
loop-m-preserved g c = (
  rw add-one
      (gathered-open c.requires.0 c.loop-m.m (omega (arith, c.requires.1)) c.move_at-t.ensures c.args.b
      c.loop-m.invariant.0
      c.dir_at.ensures.0 c.dir_open-mask.ensures),
  omega arith,
)

pub returns : goal.returns
returns g c =
    let e : c.loop-m.m ≡ c.args.table.count = omega (arith, c.loop-m.invariant.1, c.requires.1) in
    gathered-all c.requires.0 c.requires.2 (rw e at c.loop-m.invariant.0)
