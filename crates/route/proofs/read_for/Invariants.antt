-- `route::read_for` meets its contract: each read leaves what is read before it, and the loop ends where the input is
-- over or what is read settles what stands at the cursor.
use Prim.Native.Nat.{◌+◌, ◌-◌}
use mathlib.Core.Path.{◌≡◌}
use lib.ListN.{length}
use Rattle.route.proofs.Settling.{open_reads, ReadOn}
use Rattle.route.proofs.read_for.Given as goal

abbrev pub invariant-loop-r : goal.invariant-loop-r
invariant-loop-r l = ReadOn l.initial.input l.initial.r l.input l.r × (length l.input ≡ length l.initial.input)

abbrev pub decreases-loop-r : goal.decreases-loop-r
decreases-loop-r l = (length l.input - l.r.count) + open_reads l.r.over
