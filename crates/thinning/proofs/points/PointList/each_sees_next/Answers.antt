-- `thinning::PointList::each_sees_next` meets its contract: `all` asks each position but the last. Assumes nothing.
use Prim.Native.Nat.{pred, ◌+◌, ◌-◌}
use mathlib.Core.Path.{refl, ◌∙◌}
use native.Mathlib.Omega.{arith}
use Rattle.std.proofs.Common.{rules, tests}
use Rattle.std.proofs.lemmas.Iterator.{YieldsList-from_range}
use Rattle.std.proofs.lemmas.Iterator.Search.{all_from_yields_List}
use Rattle.thinning.specs.Thinning.{sees_next}
use Rattle.thinning.specs.Points.{seen_in}
use Rattle.basics.proofs.Every.{all-pairs}
use Rattle.thinning.proofs.points.PointList.each_sees_next.Goals as goal

pub returns : goal.returns
unfolding sees_next
returns c =
    all_from_yields_List (λ k. seen_in c.args.self k (k + 1)) _ _ _ c.all.ensures.ran
    (YieldsList-from_range 0 (c.args.self.n - 1) (pred c.args.self.n) refl (omega arith))
    (λ x b q k. search (rules, tests))
    ∙ all-pairs (seen_in c.args.self) (pred c.args.self.n)
