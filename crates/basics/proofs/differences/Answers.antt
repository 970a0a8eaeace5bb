-- `basics::differences` meets its contract: of the pairs, place by place, those that are not equal are counted. Assumes
-- nothing.
use mathlib.Core.Bool.{not}
use mathlib.Core.Path.{◌∙◌}
use Rattle.std.proofs.Common.{rules, tests}
use Rattle.std.specs.List.{zip}
use Rattle.std.proofs.lemmas.Iterator.{YieldsList-from_slice, YieldsList-from_zip}
use Rattle.std.proofs.lemmas.Iterator.Consumers.{YieldsList-at, YieldsList-from_filter, count_from_yields_List}
use Rattle.std.proofs.lemmas.List.Sums.{length-filter}
use Rattle.basics.proofs.differences.Goals as goal

pub returns : goal.returns
returns g c =
    let s = c.args.s.now in
    let t = c.args.t.now in
    count_from_yields_List c.filter.result _ c.count.ensures.ran
    (YieldsList-from_filter _ (λ p. not (g.T.PartialEq.eq p.0 p.1))
    (YieldsList-at c.filter.ensures.source (YieldsList-from_zip
    (YieldsList-at c.zip.ensures.first (YieldsList-from_slice s c.iter.ensures.rest))
    (YieldsList-at c.zip.ensures.second (YieldsList-from_slice t c.iter-2.ensures.rest)))) c.filter.ensures.closure
    (λ x b q k. search (rules, tests)))
    ∙ length-filter (λ p. not (g.T.PartialEq.eq p.0 p.1)) (zip s t)
