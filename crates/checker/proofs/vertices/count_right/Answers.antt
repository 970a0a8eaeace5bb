-- `checker::vertices::count_right` meets its contract: a sum above 2^64 - 1 equals no number of the slice. Assumes
-- nothing.
use native.Mathlib.Omega.{arith}
use lib.ListN.{length}
use Rattle.std.proofs.Common.{rules}
use Rattle.paths.specs.Local.{entry, count_at}
use Rattle.neighbours.specs.Reading.{mask_graph}
use Rattle.checker.proofs.Counts.{count-found}
use Rattle.checker.proofs.vertices.count_right.Goals as goal

pub returns-then-not-on : goal.returns-then-not-on
unfolding count_at
returns-then-not-on c = search rules

pub returns-then-v-source : goal.returns-then-v-source
unfolding count_at
returns-then-v-source c = search rules

pub returns : goal.returns
returns c =
    let a = c.args in
    rw (c.eq.ensures, c.inflow_at.ensures)
    (count-found (mask_graph (length a.d.now) a.dirs a.shifts.now a.mask) a.source a.on (entry a.d.now) (entry a.f.now) a.v
    (c.if-not-on.false) c.if-v-source.false (omega (arith, c.type_inv.f a.v)))
