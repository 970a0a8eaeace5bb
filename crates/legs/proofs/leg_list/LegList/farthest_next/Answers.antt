-- `legs::LegList::farthest_next` meets its contract: the search has not passed the position, and there is one.
-- Assumes nothing.
use Prim.Native.Nat.{◌-◌}
use native.Mathlib.Omega.{arith}
use Rattle.legs.specs.Lists.{sight_in}
use Rattle.legs.proofs.Farthest.{seeking-first, seeking-found, seeking-more}
use Rattle.legs.proofs.leg_list.LegList.farthest_next.Goals as goal

pub loop-j-init : goal.loop-j-init
loop-j-init c =
    let p = c.args.self in
    seeking-first (sight_in p) p.points.n p.joined.sees c.args.i c.requires.0

pub returns-then-goes_on : goal.returns-then-goes_on
returns-then-goes_on c =
    let p = c.args.self in
    seeking-found (sight_in p) p.points.n p.legs.now c.requires.1 c.args.i (c.loop-j.j - 1) c.loop-j.invariant
    (omega arith) c.goes_on.ensures (omega arith) c.if-goes_on.true

pub loop-j-preserved : goal.loop-j-preserved
loop-j-preserved c =
    let p = c.args.self in
    seeking-more (sight_in p) p.points.n p.legs.now c.requires.1 c.args.i (c.loop-j.j - 1) c.loop-j.invariant
    (omega arith) c.goes_on.ensures (omega arith) c.if-goes_on.false

pub unreachable-requires : goal.unreachable-requires
unreachable-requires c = let h = c.loop-j.invariant in omega (arith, h.reach, h.far.leg.later)
