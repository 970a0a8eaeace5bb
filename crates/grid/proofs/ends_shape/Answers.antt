-- `grid::ends_shape` meets its contract: an end is tested for a pinch once it is a vertex. Assumes nothing.
use mathlib.Core.Path.{sym, ◌∙◌}
use Rattle.floor.proofs.Shapes.{good-end}
use Rattle.grid.proofs.ends_shape.Goals as goal

pub pinch_shape-requires : goal.pinch_shape-requires
pinch_shape-requires c = good-end _ _ _ (sym c.end_shape.ensures ∙ c.in_ok-end_shape.was)

pub pinch_shape-requires-2 : goal.pinch_shape-requires-2
pinch_shape-requires-2 c = good-end _ _ _ (sym c.end_shape-2.ensures ∙ c.in_ok-end_shape-2.was)
