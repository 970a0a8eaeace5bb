-- `distances::dijkstra::settle_begun` meets its contract: at each turn `Running` holds of the four classes and their
-- three positions, on any graph that the algorithm can run on. A turn of the last position is two turns of the law.
-- Assumes nothing.
use mathlib.Core.List.{[], ◌∷◌}
use lib.ListN.{length}
use Rattle.distances.specs.Dijkstra.{remaining}
use Rattle.distances.proofs.Turn.{RunningOn}
use Rattle.distances.proofs.dijkstra.settle_begun.Given as goal

abbrev pub invariant-loop-d : goal.invariant-loop-d
invariant-loop-d o l =
    RunningOn l.shifts l.n l.classes (l.p0 ∷ l.p1 ∷ l.p2 ∷ l.p2 ∷ []) l.initial.d l.d l.initial.work l.work

abbrev pub decreases-loop-d : goal.decreases-loop-d
decreases-loop-d o l = remaining (length l.initial.d) (l.p0 ∷ l.p1 ∷ l.p2 ∷ l.p2 ∷ [])
