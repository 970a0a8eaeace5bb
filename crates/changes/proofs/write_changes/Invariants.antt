-- `changes::write_changes` meets its contract: the places before `v` hold their changes. Assumes nothing.
use lib.ListN.{length}
use Rattle.changes.proofs.Changing.{Writing}
use Rattle.changes.proofs.write_changes.Given as goal

abbrev pub invariant-loop-v : goal.invariant-loop-v
invariant-loop-v l = Writing l.costs l.costs2 (length l.initial.changes) l.v-end l.v l.changes
