-- `neighbours::cost_right` meets its contract: the least of the classes decides. Assumes nothing.
use mathlib.Core.Path.{◌≡◌, ◌∙◌}
use Rattle.paths.specs.Local.{entry}
use Rattle.neighbours.specs.Least.{least_at}
use Rattle.neighbours.proofs.Least.{by_two, by-four, right-found}
use Rattle.neighbours.proofs.cost_right.Goals.{Joined-classes-ne0, then-classes-ne0, else-classes-ne0}
use Rattle.neighbours.proofs.cost_right.Goals as goal

-- the least by all classes, after the branch
least : (c : Joined-classes-ne0)
    → let a = c.args in
    c.if-classes-ne0.least ≡ least_at a.shifts.now a.classes a.mask (entry a.d.now) a.v
least c =
    let a = c.args in
    elim c.if-classes-ne0.branch [
      | then-classes-ne0 w ↦ w.least-is ∙ by-four a.shifts.now a.classes a.mask (entry a.d.now) a.v w.if-classes-ne0.true
          c.least_two-least.ensures w.least_two.ensures w.min-least.ensures
      | else-classes-ne0 w ↦ w.least-is ∙ by_two a.shifts.now a.classes a.mask (entry a.d.now) a.v w.if-classes-ne0.false
          c.least_two-least.ensures
    ]

pub returns : goal.returns
returns c = right-found _ _ _ (least (goal.at.returns c).Joined-classes-ne0) c.right_by.ensures
