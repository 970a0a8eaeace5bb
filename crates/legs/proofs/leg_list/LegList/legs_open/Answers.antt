-- `legs::LegList::legs_open` meets its contract: `all` asks each kept position but the last. Assumes nothing.
use Prim.Native.Nat.{pred, ◌+◌, ◌-◌}
use mathlib.Core.Path.{refl, ◌∙◌}
use native.Mathlib.Omega.{arith}
use lib.ListN.{get_or}
use Rattle.std.proofs.Common.{rules, tests}
use Rattle.std.proofs.lemmas.Iterator.{YieldsList-from_range}
use Rattle.std.proofs.lemmas.Iterator.Search.{all_from_yields_List}
use Rattle.basics.proofs.Every.{all-pairs}
use Rattle.legs.specs.Choices.{is_leg}
use Rattle.legs.specs.Lists.{sight_in}
use Rattle.legs.proofs.leg_list.LegList.legs_open.Goals as goal

pub returns : goal.returns
returns c =
    all_from_yields_List
    (λ k. is_leg (sight_in c.args.self) c.args.self.points.n (get_or c.args.kept.now k 0)
    (get_or c.args.kept.now (k + 1) 0)) _ _ _ c.all.ensures.ran
    (YieldsList-from_range 0 (c.args.count - 1) (pred c.args.count) refl (omega arith))
    (λ x b q k. search (rules, tests))
    ∙ all-pairs
    (λ i j. is_leg (sight_in c.args.self) c.args.self.points.n (get_or c.args.kept.now i 0) (get_or c.args.kept.now j 0))
    (pred c.args.count)
