-- `sight::ask` meets its contract: each return is one case of the answer. Assumes nothing.
use mathlib.Core.Path.{sym, ◌∙◌}
use Rattle.floor.proofs.Shapes.{good-end}
use Rattle.sight.proofs.ask.Goals as goal

pub look-requires : goal.look-requires
look-requires c =
    let a = c.args in
    let p = c.in_ok-floor.ensures.plan in
    rw (p.0, p.1) (
      good-end a.w a.h a.a (sym c.end_shape.ensures ∙ c.in_ok-end_shape.was),
      good-end a.w a.h a.b (sym c.end_shape-2.ensures ∙ c.in_ok-end_shape-2.was),
    )
