-- `sight::scan::level_open` meets its contract: a cell outside the floor is blocked, and one on the floor is read.
-- Assumes nothing.
use Prim.Native.Nat.{suc}
use mathlib.Core.Path.{◌≡◌, sym, ap, ap₂, ◌∙◌}
use mathlib.Core.Bool.{not, ◌&&◌}
use native.Mathlib.Omega.{arith}
use native.Mathlib.Numerals.{add-one}
use borrow.Author.Tests.{eq-eqb, le-leb}
use Rattle.floor.specs.Floor.{blocked}
use Rattle.floor.specs.Plan.{floor_on}
use Rattle.floor.proofs.Cells.{blocked-above, blocked-below}
use Rattle.sight.proofs.scan.level_open.Goals.{
  Joined-above,
  then-y-eq0,
  else-y-eq0,
  then-floor-y,
  else-floor-y,
  then-above,
  else-above,
}
use Rattle.sight.proofs.scan.level_open.Goals as goal

first : (c : Joined-above) → c.if-y-eq0.above ≡ blocked (floor_on c.args.floor) c.args.x c.args.y
first c =
    elim c.if-y-eq0.branch [
      | then-y-eq0 w ↦ w.above-is ∙ eq-eqb c.args.y 0 w.if-y-eq0.true
          ∙ sym (blocked-above (floor_on c.args.floor) c.args.x c.args.y w.if-y-eq0.true)
      | else-y-eq0 w ↦ w.above-is ∙ w.inside_blocked-above.ensures
    ]

second : (c : Joined-above) → c.if-floor-y.below ≡ blocked (floor_on c.args.floor) c.args.x (suc c.args.y)
second c =
    elim c.if-floor-y.branch [
      | then-floor-y w ↦ w.below-is ∙ le-leb c.args.floor.h c.args.y w.if-floor-y.true
          ∙ sym (blocked-below (floor_on c.args.floor) c.args.x (suc c.args.y) (omega (arith, w.if-floor-y.true)))
      | else-floor-y w ↦ w.below-is ∙ w.inside_blocked-below.ensures ∙ ap (blocked (floor_on c.args.floor) c.args.x) (add-one c.args.y)
    ]

both : (c : Joined-above) → c.if-above.result ≡ (c.if-y-eq0.above && c.if-floor-y.below)
both c =
    elim c.if-above.branch [
      | then-above w ↦ rw w.if-above.true w.result-is
      | else-above w ↦ rw w.if-above.false (w.result-is ∙ w.if-above.false)
    ]

pub returns : goal.returns
returns c = ap not (both c ∙ ap₂ (λ p q. p && q) (first c) (second c))
