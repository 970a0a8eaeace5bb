-- `program_text::route_text` meets its contract: of a joined list thinning keeps the kept positions, and a route line
-- has at most 160 bytes, so both lines fit. Assumes nothing.
use native.Mathlib.Omega.{arith}
use Rattle.floor.specs.Plan.{floor_on}
use Rattle.program_text.proofs.Thinned.{KeptOf, thinned, route-written}
use Rattle.program_text.proofs.route_text.Goals.{After-unwrap_or-k}
use Rattle.program_text.proofs.route_text.Goals as goal

thinned-to : (c : After-unwrap_or-k) → (KeptOf (floor_on c.args.floor) c.args.points.now c.args.plan.points c.args.kept.now c.unwrap_or-k.result c.thin.new.out)
thinned-to c = thinned c.requires c.thin.ensures c.unwrap_or-k.ensures

pub put_at-requires : goal.put_at-requires
put_at-requires c =
    let t = thinned-to (goal.at.put_at-requires c).After-unwrap_or-k in
    record { kept = t.inside; k_in_bounds = omega (arith, c.requires.room, t.few, c.put_route-next.ensures.upper_bound) }

pub returns : goal.returns
returns c =
    route-written (thinned-to (goal.at.returns c).After-unwrap_or-k) c.put_route-next.ensures.written c.put_at.ensures
