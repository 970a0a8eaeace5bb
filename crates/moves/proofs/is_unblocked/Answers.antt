-- `moves::is_unblocked` meets its contract: past the step the answer is that of `sight::is_unblocked` on the segment to
-- the far end. Assumes nothing.
use Prim.Native.Nat.{◌<◌}
use mathlib.Core.Path.{sym, subst, ap₂, ◌∙◌}
use mathlib.Core.Logic.{inl, inr, ⊎_elim}
use Rattle.floor.specs.Floor.{vertices, column, row}
use Rattle.floor.specs.Plan.{floor_on}
use Rattle.floor.proofs.Numbers.{number_lt, number_of}
use Rattle.sight.specs.Sight.{segment_of, unblocked}
use Rattle.moves.specs.Moves.{move_of}
use Rattle.moves.specs.Table.{Reaches}
use Rattle.moves.proofs.Signs.{back, narrow_one}
use Rattle.moves.proofs.Steps.{step-some, shifted-span, far-spot, reaches-on, end-there}
use Rattle.moves.proofs.is_unblocked.Goals.{In-Some}
use Rattle.moves.proofs.is_unblocked.Goals as goal

-- The step leads to the vertex in this column and row.
reached : (c : In-Some)
    → let a = c.args in
    let to = c.in-Some.to.0 in
    Reaches a.floor.w a.floor.h (move_of a.dx a.dy 0) a.x a.y (column a.floor.w to) (row a.floor.w to)
reached c =
    let a = c.args in
    far-spot a.floor.w a.floor.h a.x a.y c.in-Some.to.0 (move_of a.dx a.dy 0)
    (step-some _ _
    (sym (rw (back a.dx c.requires.1.columns, back a.dy c.requires.1.rows) at c.step_from.ensures) ∙ c.in-Some.is))

pub row_of-j-requires : goal.row_of-j-requires
row_of-j-requires c =
    let w = c.args.floor.w in
    let h = c.args.floor.h in
    let to = c.in-Some.to.0 in
    let on = reaches-on c.requires.0 (reached (goal.at.row_of-j-requires c).In-Some) in
    (on.wide, subst (λ k. k < vertices w h) (number_of w to) (number_lt w h (column w to) (row w to) on.column on.row))

pub is_unblocked-requires : goal.is_unblocked-requires
is_unblocked-requires c =
    let a = c.args in
    let r = reached (goal.at.is_unblocked-requires c).In-Some in
    let from = c.requires.0 in
    let to = reaches-on from r in
    let across = rw (back a.dx c.requires.1.columns) at c.length_of.ensures in
    let down = rw (back a.dy c.requires.1.rows) at c.length_of-2.ensures in
    rw (c.column_of-i.ensures.0, c.row_of-j.ensures.0) (
      record { x_first = from.column; y_first = from.row; x_last = to.column; y_last = to.row },
      record {
        columns_are = across ∙ shifted-span a.floor.w a.x _ a.dx r.columns;
        rows_are = down ∙ shifted-span a.floor.h a.y _ a.dy r.rows;
      },
      record {
        columns_few = rw across c.requires.1.columns;
        rows_few = rw down c.requires.1.rows;
        one = ⊎_elim (λ h. inl (across ∙ h)) (λ h. inr (down ∙ h)) (narrow_one (move_of a.dx a.dy 0) c.requires.2);
      },
    )

pub returns : goal.returns
returns c =
    let a = c.args in
    let f = floor_on a.floor in
    c.is_unblocked.ensures
    ∙ ap₂ (λ i j. unblocked f (segment_of a.x a.y i j)) c.column_of-i.ensures.0 c.row_of-j.ensures.0
    ∙ end-there unblocked f (move_of a.dx a.dy 0) a.x a.y _ _ c.requires.0.column
    (reached (goal.at.returns c).In-Some)
