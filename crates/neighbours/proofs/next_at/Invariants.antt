-- `neighbours::next_at` meets its contract: of the candidates passed the best is kept, with its count. Assumes nothing.
use Rattle.neighbours.specs.Choice.{candidate_of, traversal_of}
use Rattle.neighbours.proofs.Choice.{BestScan}
use Rattle.neighbours.proofs.next_at.Given as goal

abbrev pub invariant-loop-m : goal.invariant-loop-m
invariant-loop-m l =
    BestScan (traversal_of l.f l.b) (candidate_of l.dirs l.shifts l.mask l.d l.e l.goal l.v) l.dirs.count l.m l.best.0 l.high
