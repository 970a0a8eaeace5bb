-- `replay::read_log` meets its contract: the stops are taken one by one, until the end or a bad record. The measure is
-- the number of bytes left of the log. Assumes nothing.
use Prim.Native.Nat.{◌-◌}
use lib.ListN.{length}
use Rattle.replay.proofs.Reached.{Reached}
use Rattle.replay.proofs.read_log.Given as goal

abbrev pub invariant-loop-v : goal.invariant-loop-v
invariant-loop-v l = Reached l.floor.w l.floor.h l.floor.map.now l.dirs l.log l.drive l.cursor

abbrev pub decreases-loop-v : goal.decreases-loop-v
decreases-loop-v l = length l.log - l.cursor.at
