-- `sight::scan::Crossing::past` meets its contract, by whether the second crossing is a vertex. Assumes nothing.
use Rattle.sight.proofs.Runs.{run-corner, run-across}
use Rattle.sight.proofs.scan.Crossing.past.Goals as goal

pub returns-then-to-eq0 : goal.returns-then-to-eq0
returns-then-to-eq0 c = run-corner c.if-to-eq0.true

pub returns : goal.returns
returns c = run-across c.if-to-eq0.false
