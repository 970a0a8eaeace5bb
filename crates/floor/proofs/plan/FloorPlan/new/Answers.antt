-- `floor::FloorPlan::new` meets its contract: the sides and the map of a floor of good shape are `Sized`. Assumes
-- nothing.
use mathlib.Core.Path.{sym, ◌∙◌}
use Rattle.floor.proofs.Shapes.{good-floor}
use Rattle.floor.proofs.plan.FloorPlan.new.Goals as goal

pub invariant_of-result : goal.invariant_of-result
invariant_of-result c =
    let a = c.args in
    record { sized = (good-floor a.w a.h a.map.now (sym c.floor_shape.ensures ∙ c.in_ok-floor_shape.was)).sized }
