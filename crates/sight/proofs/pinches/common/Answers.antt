-- `sight::pinches::common` meets its contract, by Euclid's argument. Assumes nothing.
use Rattle.sight.proofs.Common.{euclid-turn, euclid-end}
use Rattle.sight.proofs.pinches.common.Goals as goal

pub loop-m-preserved : goal.loop-m-preserved
loop-m-preserved c = euclid-turn c.loop-m.invariant

pub returns : goal.returns
returns c = euclid-end c.loop-m.invariant c.loop-m-test.false
