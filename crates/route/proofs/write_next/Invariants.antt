-- `route::write_next` meets its contract: what is left of the part stands at the place that it is written to, and in
-- each turn of the loop some of it is written, or there is one try more.
use Prim.Native.Nat.{◌+◌, ◌-◌, ◌≤◌}
use lib.ListN.{length}
use Rattle.route.proofs.write_next.Given as goal

abbrev pub invariant-loop-done : goal.invariant-loop-done
invariant-loop-done l = (l.done ≤ length l.part) × (l.tries ≤ 1000000000000000)

abbrev pub decreases-loop-done : goal.decreases-loop-done
decreases-loop-done l = (length l.part - l.done) + (1000000000000000 - l.tries)
