-- `legs::checking::zero_from` meets its contract: `all` tests the numbers from place k on. Assumes nothing.
use mathlib.Core.Path.{◌∙◌}
use lib.Dec.{eqb}
use Rattle.std.proofs.Common.{rules, tests}
use Rattle.std.proofs.lemmas.Iterator.{YieldsList-from_slice}
use Rattle.std.proofs.lemmas.Iterator.Adapters.{YieldsList-from_skip}
use Rattle.std.proofs.lemmas.Iterator.Consumers.{YieldsList-at}
use Rattle.std.proofs.lemmas.Iterator.Search.{all_from_yields_List}
use Rattle.legs.proofs.Tests.{zero-all}
use Rattle.legs.proofs.checking.zero_from.Goals as goal

pub returns : goal.returns
returns c =
    all_from_yields_List (λ x. eqb x 0) _ _ _ c.all.ensures.ran
    (YieldsList-from_skip c.args.k
    (YieldsList-at c.skip.ensures.source (YieldsList-from_slice c.args.s.now c.iter.ensures.rest))
    c.skip.ensures.count) (λ x b q k. search (rules, tests))
    ∙ zero-all c.args.k c.args.s.now
