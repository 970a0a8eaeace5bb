-- `masks::clear_back` meets its contract: off the floor nothing is cleared, and of a vertex the bit of the direction
-- that leads back. Assumes nothing.
use Prim.Native.Nat.{◌<◌}
use mathlib.Core.Path.{◌≡◌, sym, ap, ◌∙◌}
use mathlib.Core.Option.{some}
use lib.ListN.{length}
use native.Mathlib.Omega.{arith}
use Rattle.moves.specs.declared.Move.{Move}
use Rattle.moves.specs.Moves.{dir_at}
use Rattle.moves.specs.Steps.{far_end_at, step_of}
use Rattle.moves.specs.Table.{Short}
use Rattle.moves.proofs.Signs.{handed-back}
use Rattle.moves.proofs.Steps.{step-none, step-some, offsets-end}
use Rattle.moves.proofs.Table.{move-short, listed-lawful}
use Rattle.masks.specs.Masks.{dir_end_at}
use Rattle.masks.proofs.Clearing.{end-inside, move-off, move-cleared}
use Rattle.masks.proofs.clear_back.Goals.{After-move_at-t, After-step_from, In-Some}
use Rattle.masks.proofs.clear_back.Goals as goal

short : (c : After-move_at-t) → Short c.move_at-t.result
short c =
    move-short c.args.dirs c.args.m (listed-lawful c.requires.1) c.requires.2 c.move_at-t.ensures

pub step_from-requires : goal.step_from-requires
step_from-requires c =
    let s = short (goal.at.step_from-requires c).After-move_at-t in
    rw (handed-back s) (c.requires.0, record { columns = s.columns; rows = s.rows })

-- Where the move leads.
far : (c : After-step_from)
    → c.step_from.result
    ≡ step_of (dir_end_at c.args.w c.args.h c.args.x c.args.y (dir_at c.args.dirs c.args.m))
far c =
    let a = c.args in
    rw (handed-back (short (goal.at.After-step_from c).After-move_at-t)) at c.step_from.ensures
    ∙ ap step_of (offsets-end a.w a.h a.x a.y c.move_at-t.result
    ∙ ap (λ (m : Move). far_end_at a.w a.h m a.x a.y) c.move_at-t.ensures)

pub returns-in_default : goal.returns-in_default
returns-in_default c = move-off (step-none _ (sym (far (goal.at.returns-in_default c).After-step_from) ∙ c.in_default.is))

-- The move leads to the vertex u.
found : (c : In-Some)
    → let a = c.args in
    dir_end_at a.w a.h a.x a.y (dir_at a.dirs a.m) ≡ some c.in-Some.u.0
found c = step-some _ c.in-Some.u (sym (far (goal.at.In-Some c).After-step_from) ∙ c.in-Some.is)

below : (c : In-Some)
    → c.in-Some.u.0 < length c.args.masks.now
below c =
    let a = c.args in
    rw c.requires.3 (end-inside a.w a.h a.x a.y (dir_at a.dirs a.m) _ (found c))

pub offset_bounds-masks-at : goal.offset_bounds-masks-at
offset_bounds-masks-at c = omega (arith, below (goal.at.offset_bounds-masks-at c).In-Some)

pub bounds-masks-at : goal.bounds-masks-at
bounds-masks-at c = below (goal.at.bounds-masks-at c).In-Some

pub offset_bounds-masks-at-2 : goal.offset_bounds-masks-at-2
offset_bounds-masks-at-2 c = omega (arith, below (goal.at.offset_bounds-masks-at-2 c).In-Some)

pub bounds-masks-at-2 : goal.bounds-masks-at-2
bounds-masks-at-2 c = below (goal.at.bounds-masks-at-2 c).In-Some

pub returns : goal.returns
returns c =
    move-cleared (found (goal.at.returns c).In-Some) (below (goal.at.returns c).In-Some) (rw c.turned_dir.ensures.0 at c.without.ensures)
