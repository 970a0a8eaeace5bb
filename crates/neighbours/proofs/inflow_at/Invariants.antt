-- `neighbours::inflow_at` meets its contract: the sum is what the moves passed add, and fits 64 bits. Assumes nothing.
use lib.ListN.{length}
use Rattle.paths.specs.Local.{entry}
use Rattle.neighbours.specs.Reading.{mask_graph}
use Rattle.neighbours.proofs.Sums.{SumScan}
use Rattle.neighbours.proofs.inflow_at.Given as goal

abbrev pub invariant-loop-m : goal.invariant-loop-m
invariant-loop-m l =
    SumScan (mask_graph (length l.d) l.dirs l.shifts l.mask) (entry l.d) (entry l.f) l.v l.m l.s
