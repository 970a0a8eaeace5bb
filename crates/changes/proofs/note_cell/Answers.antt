-- `changes::note_cell` meets its contract: a cell that differs is stored where the numbers listed end. Assumes nothing.
use Prim.Native.Nat.{◌+◌, ◌≤◌, ◌<◌}
use native.Mathlib.Omega.{arith}
use lib.ListN.{length}
use Rattle.changes.proofs.Noting.{noted-room, noted-same, noted-closed, noted-opened}
use Rattle.changes.proofs.note_cell.Goals.{After-is_blocked-is_blocked}
use Rattle.changes.proofs.note_cell.Goals as goal

-- There is a place for the number.
room : (c : After-is_blocked-is_blocked) → let a = c.args in
    (a.t.closed + a.t.opened < length a.cells.now) × (a.t.closed + a.t.opened ≤ 16129)
room c =
    let N = c.requires.0 in
    let r = noted-room N in
    (omega arith, omega (arith, N.maps.few))

pub returns-then-was_blocked-is_blocked : goal.returns-then-was_blocked-is_blocked
returns-then-was_blocked-is_blocked c =
    noted-same c.requires.0 c.requires.1 c.is_blocked-was_blocked.ensures c.is_blocked-is_blocked.ensures
    c.if-was_blocked-is_blocked.true

pub overflow_add-at : goal.overflow_add-at
overflow_add-at c = omega (arith, room (goal.at.overflow_add-at c).After-is_blocked-is_blocked)

pub offset_bounds-cells-at : goal.offset_bounds-cells-at
offset_bounds-cells-at c = omega (arith, room (goal.at.offset_bounds-cells-at c).After-is_blocked-is_blocked)

pub bounds-cells-at : goal.bounds-cells-at
bounds-cells-at c = (room (goal.at.bounds-cells-at c).After-is_blocked-is_blocked).0

pub overflow_add-result : goal.overflow_add-result
overflow_add-result c = omega (arith, room (goal.at.overflow_add-result c).After-is_blocked-is_blocked)

pub returns-then-is_blocked : goal.returns-then-is_blocked
returns-then-is_blocked c =
    noted-closed c.requires.0 c.requires.1 c.is_blocked-was_blocked.ensures c.is_blocked-is_blocked.ensures
    c.if-was_blocked-is_blocked.false c.if-is_blocked.true

pub overflow_add-result-2 : goal.overflow_add-result-2
overflow_add-result-2 c = omega (arith, room (goal.at.overflow_add-result-2 c).After-is_blocked-is_blocked)

pub returns : goal.returns
returns c =
    noted-opened c.requires.0 c.requires.1 c.is_blocked-was_blocked.ensures c.is_blocked-is_blocked.ensures
    c.if-was_blocked-is_blocked.false c.if-is_blocked.false
