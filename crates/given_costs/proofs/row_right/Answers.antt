-- `given_costs::row_right` meets its contract: `row_passes` asks each vertex of the row. Assumes nothing.
use Prim.Native.Nat.{ℕ, ◌+◌, ◌*◌, ◌≤◌}
use mathlib.Core.Path.{◌≡◌, ap}
use native.Mathlib.Omega.{arith}
use native.Mathlib.Numerals.{add-one}
use lib.ListN.{length, get_or}
use Rattle.std.proofs.Common.{rules}
use Rattle.floor.specs.Floor.{number}
use Rattle.floor.specs.Plan.{floor_on}
use Rattle.moves.specs.Table.{OnFloor}
use Rattle.paths.specs.Local.{entry}
use Rattle.grid.specs.Leaving.{leaving_graph}
use Rattle.neighbours.specs.Reading.{mask_graph}
use Rattle.neighbours.specs.Least.{right_cost_in}
use Rattle.given_costs.specs.Tests.{column_test}
use Rattle.given_costs.proofs.Tested.{column-readable, column-right}
use Rattle.given_costs.proofs.row_right.Goals.{Start}
use Rattle.given_costs.proofs.row_right.Goals as goal

-- The vertex in column x is on the floor, and the code has its number.
on_row : (s : Start) (x : ℕ) → x ≤ s.args.floor.w → OnFloor s.args.floor.w s.args.floor.h x s.args.y
on_row s x l =
    let z = s.requires.0.sized in record { wide = z.wide; high = z.high; column = l; row = s.requires.2 }

at-number : (w y x : ℕ) → y * (w + 1) + x ≡ number w x y
at-number w y x = ap (λ z. y * z + x) (add-one w)

pub row_passes-requires-clause-calls : goal.row_passes-requires-clause-calls
row_passes-requires-clause-calls c = λ x l.
    let a = c.args in
    let p = c.requires in
    let o = on_row (goal.at.row_passes-requires-clause-calls c).Start x l in
    let readable = column-readable p.0 c.shifts_of-shifts.ensures o (p.3.at x (omega arith))
    (at-number a.floor.w a.y x) p.1 in
    let classes = c.classes_of-classes.ensures.0 in
    search rules

pub returns : goal.returns
returns c =
    let a = c.args in
    let p = c.requires in
    let s = (goal.at.returns c).Start in
    c.row_passes.ensures (column_test (leaving_graph (floor_on a.floor) a.dirs) a.a a.d.now a.floor.w a.y)
    (λ x b l k.
    let mask = get_or a.leaving x 0 in
    let is : b ≡ right_cost_in (mask_graph (length a.d.now) a.dirs c.shifts_of-shifts.result mask) a.a (entry a.d.now)
    (a.y * (a.floor.w + 1) + x) = search rules in
    column-right p.0 c.shifts_of-shifts.ensures (on_row s x l) (p.3.at x (omega arith)) (at-number a.floor.w a.y x)
    a.d.now p.1 is)
