-- `neighbours::costs_right` meets its contract, cost by cost. Assumes nothing.
use Prim.Native.Nat.{ℕ}
use mathlib.Core.Path.{◌≡◌, sym, ◌∙◌}
use mathlib.Core.List.{List}
use Rattle.paths.specs.Local.{entry}
use Rattle.neighbours.specs.Least.{least_first, least_at, right_least}
use Rattle.neighbours.proofs.Least.{min-found, by_two, by-four, right-found}
use Rattle.neighbours.proofs.costs_right.Goals.{After-min-e_least, After-right_by, Joined-classes-ne0, then-classes-ne0, else-classes-ne0}
use Rattle.neighbours.proofs.costs_right.Goals as goal

-- the least by the first two classes, and by all, of the costs l
abbrev first : After-min-e_least → List ℕ → ℕ
first c l = let a = c.args in least_first a.shifts.now a.classes a.mask (entry l) a.v

abbrev least : After-min-e_least → List ℕ → ℕ
least c l = let a = c.args in least_at a.shifts.now a.classes a.mask (entry l) a.v

d-first : (c : After-min-e_least) → c.min-d_least.result ≡ first c c.args.d.now
d-first c =
    min-found c.least_by-d_first.ensures c.least_by-d_second.ensures
    c.min-d_least.ensures

e-first : (c : After-min-e_least) → c.min-e_least.result ≡ first c c.args.e.now
e-first c =
    min-found c.least_by-e_first.ensures c.least_by-e_second.ensures c.min-e_least.ensures

-- the least by all classes, after the branch
d-least : (c : Joined-classes-ne0) → c.if-classes-ne0.d_least ≡ least (goal.at.Joined-classes-ne0 c).After-min-e_least c.args.d.now
d-least c =
    let a = c.args in
    let first = d-first (goal.at.Joined-classes-ne0 c).After-min-e_least in
    elim c.if-classes-ne0.branch [
      | then-classes-ne0 w ↦ w.d_least-is ∙ by-four a.shifts.now a.classes a.mask (entry a.d.now) a.v w.if-classes-ne0.true first
          (min-found w.least_by-d_third.ensures w.least_by-d_fourth.ensures w.min.ensures) w.min-d_least-then-classes-ne0.ensures
      | else-classes-ne0 w ↦ w.d_least-is ∙ by_two a.shifts.now a.classes a.mask (entry a.d.now) a.v w.if-classes-ne0.false first
    ]

e-least : (c : Joined-classes-ne0) → c.if-classes-ne0.e_least ≡ least (goal.at.Joined-classes-ne0 c).After-min-e_least c.args.e.now
e-least c =
    let a = c.args in
    let first = e-first (goal.at.Joined-classes-ne0 c).After-min-e_least in
    elim c.if-classes-ne0.branch [
      | then-classes-ne0 w ↦ w.e_least-is ∙ by-four a.shifts.now a.classes a.mask (entry a.e.now) a.v w.if-classes-ne0.true first
          (min-found w.least_by-e_third.ensures w.least_by-e_fourth.ensures w.min-then-classes-ne0.ensures) w.min-e_least-then-classes-ne0.ensures
      | else-classes-ne0 w ↦ w.e_least-is ∙ by_two a.shifts.now a.classes a.mask (entry a.e.now) a.v w.if-classes-ne0.false first
    ]

-- the test of d(v), as the code answers it
d-right : (c : After-right_by)
    → let a = c.args in
    c.right_by.result ≡ right_least a.shifts.now a.classes a.mask a.a (entry a.d.now) a.v
d-right c = right-found _ _ _ (d-least (goal.at.After-right_by c).Joined-classes-ne0) c.right_by.ensures

pub returns-then-right_by : goal.returns-then-right_by
returns-then-right_by c =
    rw (sym (d-right (goal.at.returns-then-right_by c).After-right_by) ∙ c.if-right_by.true)
    (right-found _ _ _ (e-least (goal.at.returns-then-right_by c).Joined-classes-ne0) c.right_by-then-right_by.ensures)

pub returns-else-right_by : goal.returns-else-right_by
returns-else-right_by c = rw (sym (d-right (goal.at.returns-else-right_by c).After-right_by)) (rw c.if-right_by.false)
