-- `counts::keep_on_way` meets its contract: after i turns the vertices on the way among the first i are kept, and from
-- place i on the slice is as it was. Assumes nothing.
use Prim.Native.Nat.{◌+◌}
use mathlib.Core.Path.{◌≡◌, ap, ◌∙◌, subst}
use native.Mathlib.Omega.{arith}
use Rattle.basics.specs.Bounded.{pick}
use Rattle.counts.specs.Passes.{sums_to}
use Rattle.counts.proofs.Keeping.{kept-one, kept-none, kept_more, kept-all}
use Rattle.counts.proofs.keep_on_way.Goals as goal

pub loop-i-init : goal.loop-i-init
loop-i-init c = (omega arith, kept-none)

pub copy_settled-u-requires : goal.copy_settled-u-requires
copy_settled-u-requires c =
    let K = c.loop-i.invariant.1 in
    let n = c.requires.0 in
    (omega (arith, K.len), omega (arith, K.len, K.few))

pub sums_to-requires : goal.sums_to-requires
sums_to-requires c =
    let p = c.requires in
    let same = c.loop-i.invariant.1.rest c.loop-i.i (omega arith) in
    let in-d = p.2 c.loop-i.i (omega arith) in
    (omega (arith, c.copy_settled-u.ensures.0), omega (arith, c.copy_settled-u.ensures.0, p.1))

pub loop-i-preserved : goal.loop-i-preserved
loop-i-preserved c =
    let a = c.args in
    let test = subst (λ u. c.sums_to.result ≡ sums_to a.d.now a.e.now a.whole u)
    c.copy_settled-u.ensures.0 c.sums_to.ensures in
    let one = c.from-kept.ensures ∙ kept-one _ ∙ ap (λ b. pick b 1 0) test in (
      omega arith,
      rw c.copy_settled-u.ensures.1
          (kept_more c.loop-i.invariant.1 (omega (arith, c.requires.0)) (ap (λ x. c.loop-i.kept + x) one)),
    )

pub shape_of-work : goal.shape_of-work
shape_of-work c = c.loop-i.invariant.1.len

pub returns : goal.returns
returns c = kept-all c.loop-i.invariant.1 (omega arith) (omega arith)
