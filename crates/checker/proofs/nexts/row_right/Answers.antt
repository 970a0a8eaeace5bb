-- `checker::nexts::row_right` meets its contract: `row_passes` asks each vertex of the row. Assumes nothing.
use Prim.Native.Nat.{ℕ, ◌+◌, ◌*◌, ◌≤◌}
use mathlib.Core.Path.{◌≡◌, sym, ap, ◌∙◌}
use native.Mathlib.Omega.{arith}
use native.Mathlib.Numerals.{add-one}
use lib.ListN.{length, get_or}
use Rattle.std.proofs.Common.{rules}
use Rattle.floor.specs.Floor.{number}
use Rattle.floor.specs.Plan.{floor_on}
use Rattle.moves.specs.Table.{OnFloor}
use Rattle.paths.specs.Local.{right_next}
use Rattle.paths.specs.Sheet.{sheet_in}
use Rattle.grid.specs.Grid.{floor_graph}
use Rattle.neighbours.specs.Reading.{mask_graph}
use Rattle.checker.specs.Tests.{next_column_test}
use Rattle.checker.proofs.Choices.{next-row-blank, next-choosing, next-leads, next-column}
use Rattle.checker.proofs.nexts.row_right.Goals.{Start}
use Rattle.checker.proofs.nexts.row_right.Goals as goal

-- The vertex in column x is on the floor, and the code has its number.
on_row : (s : Start) (x : ℕ) → x ≤ s.args.floor.w → OnFloor s.args.floor.w s.args.floor.h x s.args.y
on_row s x l =
    let z = s.requires.0.input.job.sized in record { wide = z.wide; high = z.high; column = l; row = s.requires.1 }

at-number : (w y x : ℕ) → y * (w + 1) + x ≡ number w x y
at-number w y x = ap (λ z. y * z + x) (add-one w)

pub returns-then-not-any_on_way : goal.returns-then-not-any_on_way
returns-then-not-any_on_way c =
    let a = c.args in
    next-row-blank (floor_graph (floor_on a.floor) a.dirs) a.b (sheet_in a.sheet) a.floor.w a.y
    (ap (λ z. a.y * z) (add-one a.floor.w)) (ap (λ z. a.y * (a.floor.w + 1) + z) (add-one a.floor.w))
    (c.any_on_way.ensures c.if-not-any_on_way.true) c.all_zero.result c.all_zero.ensures

pub row_passes-requires-clause-calls : goal.row_passes-requires-clause-calls
row_passes-requires-clause-calls c = λ x l.
    let a = c.args in
    let p = c.requires.0 in
    let o = on_row (goal.at.row_passes-requires-clause-calls c).Start x l in
    let mask = c.leaving_row-leaving.ensures.at x (omega arith) in
    let choosing = next-choosing p c.requires.3 o mask (at-number a.floor.w a.y x) in
    let counted = p.counted in
    let leads = next-leads p c.requires.3 o mask (at-number a.floor.w a.y x) in
    let listed = p.input.shape.next ∙ sym p.input.shape.d in
    search rules

pub returns : goal.returns
returns c =
    let a = c.args in
    let s = (goal.at.returns c).Start in
    c.row_passes.ensures
    (next_column_test (floor_graph (floor_on a.floor) a.dirs) a.b (sheet_in a.sheet) a.floor.w a.y)
    (λ x b l k.
    let mask = get_or c.leaving_row-leaving.result x 0 in
    let is : b ≡ right_next (mask_graph (length a.sheet.d.now) a.dirs a.shifts.now mask) a.b (sheet_in a.sheet)
    (a.y * (a.floor.w + 1) + x) = search rules in
    next-column c.requires.0 c.requires.3 (on_row s x l) (c.leaving_row-leaving.ensures.at x (omega arith))
    (at-number a.floor.w a.y x) is)
