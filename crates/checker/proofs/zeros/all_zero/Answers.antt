-- `checker::zeros::all_zero` meets its contract: `fold` asks each place. Assumes nothing.
use mathlib.Core.Path.{◌≡◌, refl}
use lib.Dec.{eqb}
use Rattle.std.proofs.Common.{rules, tests}
use Rattle.std.specs.List.{list_all}
use Rattle.std.proofs.lemmas.Fn.{fold_over, slice_gives, fronts}
use Rattle.checker.proofs.Blank.{all-push, zeros-range}
use Rattle.checker.proofs.zeros.all_zero.Goals as goal

pub returns : goal.returns
returns c =
    let a = c.args in
    let read = fold_over fronts (λ y. y.now) _ (λ ys r. r ≡ list_all (λ x. eqb x 0) ys) _
    (λ ys q x b f j k. let more = all-push (λ x. eqb x 0) ys x.now in search (rules, tests))
    _ _ _ _ (slice_gives c.iter.result) refl c.fold.ensures.ran in
    rw (read, c.iter.ensures.rest) (zeros-range a.s.now a.first a.past c.requires.0 c.requires.1)
