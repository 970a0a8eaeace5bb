-- `neighbours::next_at` meets its contract: of the candidates passed the best is kept, with its count. Assumes nothing.
use Prim.Native.Nat.{ℕ, ◌<◌}
use mathlib.Core.Path.{◌≡◌, sym, ap, ◌∙◌}
use mathlib.Core.Option.{some}
use native.Mathlib.Omega.{arith}
use Rattle.moves.specs.Moves.{move_at}
use Rattle.paths.specs.Route.{on_shortest, next_vertex}
use Rattle.paths.specs.Local.{entry}
use Rattle.neighbours.specs.Reading.{read_step}
use Rattle.neighbours.specs.Choice.{candidate_of, follows_by}
use Rattle.neighbours.proofs.Steps.{end-shut, end-at}
use Rattle.neighbours.proofs.Choice.{best-off, best-lower, best-higher, best-end}
use Rattle.neighbours.proofs.Choice.{candidate-none, candidate-off, candidate-on}
use Rattle.neighbours.proofs.next_at.Goals.{After-follows, Else-not-follows, In-Some, In-loop-m}
use Rattle.neighbours.proofs.next_at.Goals as goal

turn : (c : In-loop-m) → c.loop-m.m < c.args.dirs.count
turn c = omega arith

-- the far end of the move, once it is known to be there
goes : (c : In-Some)
    → let a = c.args in
    read_step a.dirs a.shifts.now a.mask a.v c.loop-m.m ≡ some
    c.in-Some.w.0
goes c = end-at _ _ (sym c.far_end.ensures ∙ c.in-Some.is)

-- the test of the far end, as the code answers it
follows_is : (c : After-follows)
    → let a = c.args in
    c.follows.result ≡ follows_by (on_shortest (entry a.d.now) (entry a.e.now) a.goal) (entry a.d.now)
    a.v c.in-Some.w.0 (move_at a.dirs c.loop-m.m).cost
follows_is c =
    let a = c.args in
    c.follows.ensures
    ∙ ap (λ (n : ℕ). follows_by (on_shortest (entry a.d.now) (entry a.e.now) a.goal) (entry a.d.now) a.v
    c.in-Some.w.0 n) c.move_cost.ensures.0

-- the far end as a candidate, once it is known to be one
taken : (c : Else-not-follows)
    → let a = c.args in
    candidate_of a.dirs a.shifts.now a.mask a.d.now a.e.now a.goal a.v c.loop-m.m
    ≡ some c.in-Some.w.0
taken c =
    candidate-on _ _ _ _ _ _ (goes (goal.at.Else-not-follows c).In-Some) (sym (follows_is (goal.at.Else-not-follows c).After-follows) ∙ c.if-not-follows.false)

pub loop-m-preserved-in_default : goal.loop-m-preserved-in_default
loop-m-preserved-in_default c =
    best-off c.loop-m.invariant (turn (goal.at.loop-m-preserved-in_default c).In-loop-m) (candidate-none _ _ _ _ _ (end-shut _
    (sym c.far_end.ensures ∙ c.in_default.is)))

pub loop-m-preserved-then-not-follows : goal.loop-m-preserved-then-not-follows
loop-m-preserved-then-not-follows c =
    best-off c.loop-m.invariant (turn (goal.at.loop-m-preserved-then-not-follows c).In-loop-m)
    (candidate-off _ _ _ _ _ _ (goes (goal.at.loop-m-preserved-then-not-follows c).In-Some) (sym (follows_is (goal.at.loop-m-preserved-then-not-follows c).After-follows) ∙ c.if-not-follows.true))

pub loop-m-preserved-then-x-high : goal.loop-m-preserved-then-x-high
loop-m-preserved-then-x-high c =
    best-lower c.loop-m.invariant (turn (goal.at.loop-m-preserved-then-x-high c).In-loop-m) c.in-Some.w.0 c.traversal_at-x.result
    (taken (goal.at.loop-m-preserved-then-x-high c).Else-not-follows) c.traversal_at-x.ensures (omega arith)

pub loop-m-preserved : goal.loop-m-preserved
loop-m-preserved c =
    best-higher c.loop-m.invariant (turn (goal.at.loop-m-preserved c).In-loop-m) c.in-Some.w.0 c.traversal_at-x.result
    (taken (goal.at.loop-m-preserved c).Else-not-follows) c.traversal_at-x.ensures (omega arith)

pub returns : goal.returns
unfolding next_vertex
returns c =
    let o = c.requires.2 in
    best-end c.loop-m.invariant (omega arith) o.move o.to o.below o.leads o.counted
