-- `planner::route::write_route` meets its contract: the n points written are those of the route before `at`. Assumes
-- nothing.
use Prim.Native.Nat.{◌<◌}
use native.Mathlib.Omega.{arith}
use lib.ListN.{length}
use Rattle.planner.proofs.Walking.{step_start, step-more, step_end, next-len, walking-room}
use Rattle.planner.proofs.route.write_route.Goals.{At-loop-at}
use Rattle.planner.proofs.route.write_route.Goals as goal

inside : (c : At-loop-at) → c.loop-at.at < 16384
inside c = omega (arith, (c.loop-at.invariant.walking (c.requires.0) (c.requires.1)).inside, (c.requires.1).few)

room : (c : At-loop-at) → c.loop-at.n < 16384
room c = omega (arith, walking-room (c.requires.1) (c.loop-at.invariant.walking (c.requires.0) (c.requires.1)), (c.requires.1).few)

fits : (c : At-loop-at) → c.loop-at.n < length c.loop-at.route
fits c = omega (arith, walking-room (c.requires.1) (c.loop-at.invariant.walking (c.requires.0) (c.requires.1)), (c.loop-at.invariant.walking (c.requires.0) (c.requires.1)).len)

pub loop-at-init : goal.loop-at-init
loop-at-init c = step_start

pub overflow_cast-route : goal.overflow_cast-route
overflow_cast-route c = omega (arith, inside (goal.at.overflow_cast-route c).At-loop-at)

pub offset_bounds-route-n : goal.offset_bounds-route-n
offset_bounds-route-n c = omega (arith, room (goal.at.offset_bounds-route-n c).At-loop-at)

pub bounds-route-n : goal.bounds-route-n
bounds-route-n c = fits (goal.at.bounds-route-n c).At-loop-at

pub overflow_add-n : goal.overflow_add-n
overflow_add-n c = omega (arith, room (goal.at.overflow_add-n c).At-loop-at)

pub offset_bounds-next-at : goal.offset_bounds-next-at
offset_bounds-next-at c = omega (arith, inside (goal.at.offset_bounds-next-at c).At-loop-at)

pub bounds-next-at : goal.bounds-next-at
bounds-next-at c =
    omega (arith, (c.loop-at.invariant.walking (c.requires.0) (c.requires.1)).inside, next-len (c.requires.1))

pub loop-at-smaller : goal.loop-at-smaller
loop-at-smaller c =
    omega (arith, walking-room (c.requires.1) (c.loop-at.invariant.walking (c.requires.0) (c.requires.1)), next-len (c.requires.1))

pub loop-at-preserved : goal.loop-at-preserved
loop-at-preserved c =
    step-more c.loop-at.invariant c.loop-at-test.true c.from-at.result c.from-at.ensures

pub overflow_cast-route-2 : goal.overflow_cast-route-2
overflow_cast-route-2 c = omega (arith, inside (goal.at.overflow_cast-route-2 c).At-loop-at)

pub offset_bounds-route-n-2 : goal.offset_bounds-route-n-2
offset_bounds-route-n-2 c = omega (arith, room (goal.at.offset_bounds-route-n-2 c).At-loop-at)

pub bounds-route-n-2 : goal.bounds-route-n-2
bounds-route-n-2 c = fits (goal.at.bounds-route-n-2 c).At-loop-at

pub overflow_add-result : goal.overflow_add-result
overflow_add-result c = omega (arith, room (goal.at.overflow_add-result c).At-loop-at)

pub returns : goal.returns
returns c = step_end c.loop-at.invariant c.loop-at-test.false
