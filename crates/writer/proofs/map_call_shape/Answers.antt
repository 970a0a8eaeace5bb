-- `writer::map_call_shape` meets its contract: a map that is not refused has at most 961 cells. Assumes nothing.
use mathlib.Core.Path.{◌≡◌, sym, ◌∙◌}
use native.Mathlib.Omega.{arith}
use Rattle.std.specs.Prelude.{Ok}
use Rattle.writer.specs.Writing.{map_shape}
use Rattle.writer.proofs.Shapes.{good-map, cells-few, map-in-turn}
use Rattle.writer.proofs.map_call_shape.Goals.{In_ok-map_shape}
use Rattle.writer.proofs.map_call_shape.Goals as goal

-- After the first test the map is good.
given-good : (t : In_ok-map_shape) → map_shape t.args.w t.args.h t.args.map.now ≡ Ok tt
given-good t = sym t.map_shape.ensures ∙ t.in_ok-map_shape.was

pub overflow_mul-w : goal.overflow_mul-w
overflow_mul-w c = omega (arith, cells-few _ _ _ (good-map _ _ _ (given-good (goal.at.overflow_mul-w c).In_ok-map_shape)))

pub overflow_add-w : goal.overflow_add-w
overflow_add-w c = omega (arith, cells-few _ _ _ (good-map _ _ _ (given-good (goal.at.overflow_add-w c).In_ok-map_shape)))

pub returns : goal.returns
returns c =
    c.room_shape.ensures
    ∙ map-in-turn _ _ _ _ _ (given-good (goal.at.returns c).In_ok-map_shape) c.if-writer-ne0.false
