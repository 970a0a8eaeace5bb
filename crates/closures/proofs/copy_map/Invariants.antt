-- `closures::copy_map` meets its contract: the places before `at` are copied. Assumes nothing.
use lib.ListN.{length, get_or}
use Rattle.floor.proofs.Rewriting.{Rewriting}
use Rattle.closures.proofs.copy_map.Given as goal

abbrev pub invariant-loop-at : goal.invariant-loop-at
invariant-loop-at l = Rewriting (λ k. get_or l.base k 0) l.initial.map (length l.initial.map) l.at-end l.at l.map
