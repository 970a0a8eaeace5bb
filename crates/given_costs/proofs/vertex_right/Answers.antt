-- `given_costs::vertex_right` meets its contract: the test by the least that a move gives is that of the moves of the
-- mask. Assumes nothing.
use native.Mathlib.Omega.{arith}
use Rattle.paths.specs.Local.{entry}
use Rattle.neighbours.proofs.Classed.{classes-lent}
use Rattle.given_costs.proofs.Tested.{vertex-tested}
use Rattle.given_costs.proofs.vertex_right.Goals as goal

pub cost_right-requires : goal.cost_right-requires
cost_right-requires c = let p = c.requires in classes-lent p.1 _ _ _ p.0

pub returns : goal.returns
returns c =
    let a = c.args in
    vertex-tested c.requires.0 c.requires.1 a.a (entry a.d.now)
    (omega (arith, c.type_inv.d a.v)) c.cost_right.ensures
