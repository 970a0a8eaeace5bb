-- `capi::lurfanzi_obstacle` meets its contract: the place answered, the number of a cell or vertex of the floor, fits in
-- 32 bits. Assumes nothing.
use mathlib.Core.Path.{sym, ◌∙◌}
use native.Mathlib.Omega.{arith}
use Rattle.capi.proofs.Places.{place-lt}
use Rattle.capi.proofs.lurfanzi_obstacle.Goals as goal

pub overflow_cast-result : goal.overflow_cast-result
overflow_cast-result c =
    let a = c.args in
    omega (
      arith,
      c.obstacle_place.ensures,
      place-lt a.width a.height a.map.now a.a a.b (sym c.in-Ok.is ∙ c.ask-found.ensures),
    )
