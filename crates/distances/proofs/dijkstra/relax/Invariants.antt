-- `distances::dijkstra::relax` meets its contract: on any graph that it can run on, the far ends of the moves
-- of the first j directions of the class were offered the key. Assumes nothing.
use Prim.Native.Nat.{◌≤◌}
use Rattle.distances.proofs.Relax.{RelaxedOn}
use Rattle.distances.proofs.dijkstra.relax.Given as goal

abbrev pub invariant-loop-j : goal.invariant-loop-j
invariant-loop-j o l =
    RelaxedOn l.shifts l.class l.p l.j l.key l.n l.k l.initial.d l.d l.initial.work l.work × (l.j ≤ 4)
