-- `neighbours::row_passes` meets its contract: the flag says whether the vertices before column x pass. Assumes nothing.
use mathlib.Core.Path.{◌≡◌, refl}
use native.Mathlib.Omega.{arith}
use Prim.Native.Nat.{suc}
use Rattle.basics.specs.Bounded.{every}
use Rattle.neighbours.proofs.Columns.{flag-more}
use Rattle.neighbours.proofs.row_passes.Goals as goal

pub loop-x-init : goal.loop-x-init
unfolding every
loop-x-init g c = λ p h. refl

pub loop-x-preserved : goal.loop-x-preserved
loop-x-preserved g c = λ p h. flag-more p c.loop-x.x (c.loop-x.invariant p h) (h c.loop-x.x _ (omega arith) c.passes-right.ensures)

pub returns : goal.returns
returns g c = λ p h. let e : c.loop-x.x ≡ suc c.args.w = omega arith in rw e at (c.loop-x.invariant p h)
