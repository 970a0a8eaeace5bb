-- `thinning::list_shape` meets its contract: past the first test the floor is good. Assumes nothing.
use mathlib.Core.Path.{sym}
use Rattle.floor.proofs.Shapes.{good-floor}
use Rattle.thinning.proofs.list_shape.Goals as goal

pub invariant_of-joined : goal.invariant_of-joined
invariant_of-joined c =
    record { sized = (good-floor c.args.w c.args.h c.args.map.now (sym c.in_ok-floor_shape.ensures)).sized }
