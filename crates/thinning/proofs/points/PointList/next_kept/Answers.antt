-- `thinning::PointList::next_kept` meets its contract: the loop stops at the first position that is not seen. Assumes
-- nothing.
use mathlib.Core.Path.{sym, ◌∙◌}
use native.Mathlib.Omega.{arith}
use Rattle.thinning.specs.Thinning.{sees_next}
use Rattle.thinning.proofs.Kept.{seeing-first, seeing-more, seeing-stop, seeing-all}
use Rattle.thinning.proofs.points.PointList.next_kept.Goals as goal

pub loop-k-init : goal.loop-k-init
unfolding sees_next
loop-k-init c = seeing-first _ _ _ c.requires.more c.requires.sees

pub loop-k-preserved : goal.loop-k-preserved
loop-k-preserved c =
    seeing-more _ _ _ c.loop-k.invariant (omega arith) (sym c.sees.ensures ∙ c.if-not-sees.false)

pub returns-after-loop-k : goal.returns-after-loop-k
returns-after-loop-k c = seeing-all _ _ _ c.loop-k.invariant (omega arith)

pub returns-then-not-sees : goal.returns-then-not-sees
returns-then-not-sees c =
    seeing-stop _ _ _ c.loop-k.invariant (omega arith) (sym c.sees.ensures ∙ c.if-not-sees.true)
