-- `legs::proposing::fill_legs` meets its contract: from i on each number is the fewest legs. Assumes nothing.
use Prim.Native.Nat.{◌+◌, ◌-◌}
use native.Mathlib.Omega.{arith}
use Rattle.thinning.specs.Points.{seen_in}
use Rattle.legs.proofs.Least.{least-fewest}
use Rattle.legs.proofs.Filling.{filling-first, filling-more, filling-done}
use Rattle.legs.proofs.proposing.fill_legs.Goals as goal

pub loop-i-init : goal.loop-i-init
loop-i-init c =
    let p = c.args.points in
    filling-first (seen_in p) p.n _ c.requires.0.sees c.fill.new.self (c.fill.ensures.after (λ y e. e)) c.requires.1
    (p.n - 1) (omega (arith, c.requires.0.some))

pub loop-i-preserved : goal.loop-i-preserved
loop-i-preserved c =
    let p = c.args.points in
    let h = c.loop-i.invariant in
    let m = c.loop-i.i - 1 in
    filling-more (seen_in p) p.n _ c.loop-i.i m (c.least_ahead-least.result + 1) c.loop-i.legs h (omega arith)
    (least-fewest (seen_in p) p.n c.loop-i.legs m c.requires.0.sees (omega (arith, h.inside))
    (λ k a b. h.right k (omega arith) b) c.least_ahead-least.result c.least_ahead-least.ensures)

pub returns : goal.returns
returns c =
    let done = filling-done _ _ _ c.loop-i.i c.loop-i.legs c.loop-i.invariant (omega arith) in
    record { output = rw (← c.fill.ensures.len) done }
