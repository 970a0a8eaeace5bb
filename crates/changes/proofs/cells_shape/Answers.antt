-- `changes::cells_shape` meets its contract: the number of cells fits. Assumes nothing.
use mathlib.Core.Path.{sym, ◌∙◌}
use native.Mathlib.Omega.{arith}
use Rattle.floor.proofs.Numbers.{cells-le}
use Rattle.changes.proofs.Shaped.{good-floors}
use Rattle.changes.proofs.cells_shape.Goals as goal

pub overflow_mul-w : goal.overflow_mul-w
overflow_mul-w c =
    let s = (good-floors _ _ (sym c.floors_shape.ensures ∙ c.in_ok-floors_shape.was)).first.sized in
    omega (arith, cells-le s.wide s.high)
