-- `legs::LegList::goes_on` meets its contract: sight is asked only where one leg fewer is left. Assumes nothing.
use native.Mathlib.Omega.{arith}
use Rattle.legs.specs.Lists.{sight_in}
use Rattle.legs.proofs.Farthest.{goes-seen}
use Rattle.legs.proofs.leg_list.LegList.goes_on.Goals as goal

pub returns-then-number : goal.returns-then-number
returns-then-number c =
    let p = c.args.self in
    goes-seen (sight_in p) p.points.n p.legs.now c.args.i c.args.j c.requires.0 c.requires.1
    (omega (arith, c.number.ensures.0, c.number-2.ensures.0)) c.sees.ensures
