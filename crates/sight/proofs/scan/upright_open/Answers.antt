-- `sight::scan::upright_open` meets its contract: it reads both cells beside the step. Assumes nothing.
use mathlib.Core.Path.{◌≡◌, ap, ap₂, ◌∙◌}
use mathlib.Core.Bool.{not, ◌&&◌}
use native.Mathlib.Numerals.{add-one}
use Rattle.floor.specs.Floor.{blocked}
use Rattle.floor.specs.Plan.{floor_on}
use Rattle.sight.proofs.scan.upright_open.Goals.{Joined-left, then-left, else-left}
use Rattle.sight.proofs.scan.upright_open.Goals as goal

both : (c : Joined-left) → c.if-left.result ≡ (c.blocked_at-left.result && c.blocked_at-right.result)
both c =
    elim c.if-left.branch [
      | then-left w ↦ rw w.if-left.true w.result-is
      | else-left w ↦ rw w.if-left.false (w.result-is ∙ w.if-left.false)
    ]

pub returns : goal.returns
returns c =
    let f = floor_on c.args.floor in
    ap not
    (both c
    ∙ ap₂ (λ p q. p && q) c.blocked_at-left.ensures
    (c.blocked_at-right.ensures ∙ ap (λ x. blocked f x c.args.y) (add-one c.args.x)))
