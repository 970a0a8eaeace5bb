-- `neighbours::inflow_at` meets its contract: the sum is what the moves passed add, and fits 64 bits. Assumes nothing.
use Prim.Native.Nat.{◌<◌}
use mathlib.Core.Path.{◌≡◌, sym, ◌∙◌}
use mathlib.Core.Option.{some}
use native.Mathlib.Omega.{arith}
use Rattle.neighbours.specs.Reading.{read_step}
use Rattle.neighbours.proofs.Steps.{end-shut, end-at}
use Rattle.neighbours.proofs.Sums.{sum-start, sum-off, sum-slack, sum-tight, sum-passes, sum-end}
use Rattle.neighbours.proofs.inflow_at.Goals.{In-Some, In-loop-m, then-cost_at-move_cost+in_ok-s, else-cost_at-move_cost}
use Rattle.neighbours.proofs.inflow_at.Goals as goal

turn : (c : In-loop-m) → c.loop-m.m < c.args.dirs.count
turn c = omega arith

-- the far end of the move, once it is known to be there
goes : (c : In-Some)
    → let a = c.args in
    read_step a.dirs a.shifts.now a.mask a.v c.loop-m.m ≡ some
    c.in-Some.w.0
goes c = end-at _ _ (sym c.far_end.ensures ∙ c.in-Some.is)

pub loop-m-init : goal.loop-m-init
loop-m-init c = sum-start

pub loop-m-preserved-in_default : goal.loop-m-preserved-in_default
loop-m-preserved-in_default c =
    sum-off c.loop-m.invariant (turn (goal.at.loop-m-preserved-in_default c).In-loop-m)
    (end-shut _ (sym c.far_end.ensures ∙ c.in_default.is))

pub returns-in_err-s : goal.returns-in_err-s
returns-in_err-s c =
    let here = (goal.at.returns-in_err-s c).In-Some in
    let over = rw c.in_err-s.was at c.checked_add.ensures in
    c.from_residual.ensures
    ∙ sum-passes c.in-Some.w.0 c.loop-m.invariant (turn (goal.at.In-Some here).In-loop-m) (goes here) (omega arith)
    (omega (arith, over))

pub loop-m-preserved : goal.loop-m-preserved
loop-m-preserved c =
    let here = (goal.at.loop-m-preserved c).In-Some in
    let i = c.loop-m.invariant in
    let l = turn (goal.at.In-Some here).In-loop-m in
    elim c.if-cost_at-move_cost.branch [
      | then-cost_at-move_cost+in_ok-s w ↦
          let sum = rw w.in_ok-s.was at w.checked_add.ensures in
          rw (w.s-is ∙ sum.1) (sum-tight c.in-Some.w.0 i l (goes here) (omega arith) sum.0)
      | else-cost_at-move_cost w ↦ rw w.s-is (sum-slack c.in-Some.w.0 i l (goes here) (λ e. omega arith))
    ]

pub returns : goal.returns
returns c = sum-end c.loop-m.invariant (omega arith)
