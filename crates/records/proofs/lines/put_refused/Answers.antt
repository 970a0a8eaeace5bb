-- `records::lines::put_refused` meets its contract: a number has at most 20 digits, so each field leaves room for the
-- next. Assumes nothing.
use Prim.Native.Nat.{◌+◌, ◌≤◌}
use native.Mathlib.Omega.{arith}
use lib.ListN.{length}
use Rattle.records.proofs.Decimal.{decimal-u64}
use Rattle.records.proofs.Writing.{written-length, written-more, room_after}
use Rattle.records.proofs.lines.put_refused.Goals.{After-put_field-p1, After-put_field-p2}
use Rattle.records.proofs.lines.put_refused.Goals as goal

room1 : (c : After-put_field-p1) → c.put_field-p1.result + 40 ≤ length c.put_field-p1.new.buf
room1 c =
    room_after c.put_field-p1.ensures 24 40 (omega (arith, decimal-u64 c.args.n (omega arith)))
    c.requires

room2 : (c : After-put_field-p2) → c.put_field-p2.result + 10 ≤ length c.put_field-p2.new.buf
room2 c =
    room_after c.put_field-p2.ensures 30 10 (omega (arith, decimal-u64 c.from.result (omega arith)))
    (room1 (goal.at.After-put_field-p2 c).After-put_field-p1)

pub put_field-p1-requires : goal.put_field-p1-requires
put_field-p1-requires c =
    omega (arith, c.requires, decimal-u64 c.args.n (omega arith))

pub put_field-p2-requires : goal.put_field-p2-requires
put_field-p2-requires c =
    omega (arith, room1 (goal.at.put_field-p2-requires c).After-put_field-p1, decimal-u64 c.from.result (omega arith))

pub put_text-requires : goal.put_text-requires
put_text-requires c = omega (arith, room2 (goal.at.put_text-requires c).After-put_field-p2)

pub returns : goal.returns
returns c =
    let w1 = c.put_field-p1.ensures in
    let w2 = written-more w1 (rw c.from.ensures at c.put_field-p2.ensures) in
    written-more w2 c.put_text.ensures

pub shape_of-buf : goal.shape_of-buf
shape_of-buf c = written-length (returns c)
