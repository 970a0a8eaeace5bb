-- `checker::vertices::row_right` meets its contract: `row_passes` asks each vertex of the row. Assumes nothing.
use Prim.Native.Nat.{ℕ, ◌+◌, ◌*◌, ◌≤◌, ◌<◌}
use mathlib.Core.Path.{◌≡◌, ap}
use native.Mathlib.Omega.{arith}
use native.Mathlib.Numerals.{add-one}
use lib.ListN.{length, get_or}
use Rattle.std.proofs.Common.{rules}
use Rattle.floor.specs.Floor.{number}
use Rattle.floor.specs.Plan.{floor_on}
use Rattle.moves.specs.Table.{OnFloor}
use Rattle.paths.specs.Sheet.{sheet_in}
use Rattle.grid.specs.Leaving.{leaving_graph}
use Rattle.neighbours.specs.Reading.{mask_graph}
use Rattle.checker.specs.Tests.{vertex_test, column_test}
use Rattle.checker.proofs.CheckInput.{input-shaped}
use Rattle.checker.proofs.Passes.{column-readable, column-passes}
use Rattle.checker.proofs.vertices.row_right.Goals.{Start}
use Rattle.checker.proofs.vertices.row_right.Goals as goal

-- The vertex in column x is on the floor, and the code has its number.
on_row : (s : Start) (x : ℕ) → x ≤ s.args.floor.w → OnFloor s.args.floor.w s.args.floor.h x s.args.y
on_row s x l =
    let z = s.requires.0.job.sized in record { wide = z.wide; high = z.high; column = l; row = s.requires.1 }

at-number : (w y x : ℕ) → y * (w + 1) + x ≡ number w x y
at-number w y x = ap (λ z. y * z + x) (add-one w)

pub row_passes-requires-clause-calls : goal.row_passes-requires-clause-calls
row_passes-requires-clause-calls c = λ x l.
    let a = c.args in
    let p = c.requires.0 in
    let s = (goal.at.row_passes-requires-clause-calls c).Start in
    let readable = column-readable p c.requires.3 (on_row s x l) (c.leaving_row-leaving.ensures.at x (omega arith))
    (at-number a.floor.w a.y x) in
    let classes = c.classes_of-classes.ensures.0 in
    let goal_in : a.b < length a.sheet.d.now = omega (arith, p.job.goal_in, p.shape.d) in
    let shaped = input-shaped p in
    search rules

pub returns : goal.returns
returns c =
    let a = c.args in
    let s = (goal.at.returns c).Start in
    c.row_passes.ensures
    (column_test a.joined (leaving_graph (floor_on a.floor) a.dirs) a.a a.b (sheet_in a.sheet) a.floor.w a.y)
    (λ x b l k.
    let mask = get_or c.leaving_row-leaving.result x 0 in
    let is : b ≡ vertex_test a.joined (mask_graph (length a.sheet.d.now) a.dirs a.shifts.now mask) a.a a.b
    (sheet_in a.sheet) (a.y * (a.floor.w + 1) + x) = search rules in
    column-passes c.requires.0 c.requires.3 (on_row s x l) (c.leaving_row-leaving.ensures.at x (omega arith))
    (at-number a.floor.w a.y x) a.joined is)
