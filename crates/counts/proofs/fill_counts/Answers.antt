-- `counts::fill_counts` meets its contract: the vertices kept are those on the way; the pass from b goes along them
-- from the front and the pass from a from the back; and where the first pass answers true, the total fits. Assumes
-- nothing.
use mathlib.Core.Path.{◌≡◌, sym, ap, ◌∙◌, subst}
use Rattle.std.proofs.Common.{rules}
use native.Mathlib.Omega.{arith}
use lib.ListN.{length, length-replicate}
use Rattle.basics.specs.Lists.{zeros}
use Rattle.counts.specs.Passes.{Summed}
use Rattle.counts.proofs.Filling.{
  input-kept,
  input-other,
  passable-back,
  passable-forth,
  filled-both,
  filled_none,
}
use Rattle.counts.proofs.fill_counts.Goals as goal

pub count_along-requires : goal.count_along-requires
count_along-requires c =
    let p = c.requires in
    (input-other p.1 (input-kept c.keep_on_way-kept.ensures p.0), p.5 ∙ ap zeros (sym p.1))

pub count_along-requires-then-count_along : goal.count_along-requires-then-count_along
count_along-requires-then-count_along c =
    (input-kept c.keep_on_way-kept.ensures c.requires.0, c.requires.4)

pub returns-then-count_along : goal.returns-then-count_along
returns-then-count_along c =
    λ g K.
    let A = c.requires.0 in
    let R = c.keep_on_way-kept.ensures in
    filled-both K A R c.count_along-then-count_along.result
    (subst (Summed g c.args.b c.args.a _) c.if-count_along.true
    (c.count_along.ensures g c.args.a (passable-back K A R)))
    (omega (arith, c.type_inv.back c.args.a))
    (c.count_along-then-count_along.ensures g c.args.b (passable-forth K A R))

pub returns : goal.returns
returns c =
    λ g K.
    let A = c.requires.0 in
    let R = c.keep_on_way-kept.ensures in
    let same = c.count_along.auto.f in
    let cleared : c.fill.new.self ≡ zeros (length c.count_along.new.f) = search rules in
    filled_none K A R
    (subst (Summed g c.args.b c.args.a _) c.if-count_along.false
    (c.count_along.ensures g c.args.a (passable-back K A R)))
    c.requires.4 (same ∙ ap length c.requires.5 ∙ length-replicate _ 0) cleared
