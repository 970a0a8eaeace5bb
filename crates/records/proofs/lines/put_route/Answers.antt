-- `records::lines::put_route` meets its contract: a number has at most 20 digits, so each field leaves room for the
-- next. Assumes nothing.
use Prim.Native.Nat.{◌+◌, ◌≤◌}
use native.Mathlib.Omega.{arith}
use lib.ListN.{length}
use Rattle.records.proofs.Decimal.{decimal-u64}
use Rattle.records.proofs.Writing.{written-length, written-more, room_after}
use Rattle.records.proofs.lines.put_route.Goals.{After-put_field-p1, After-put_field-p2, After-put_field-p3, After-put_field-p4, After-put_field-p5}
use Rattle.records.proofs.lines.put_route.Goals as goal

room1 : (c : After-put_field-p1) → c.put_field-p1.result + 136 ≤ length c.put_field-p1.new.buf
room1 c =
    let few = decimal-u64 c.args.n (omega (arith, c.ranges.n)) in
    room_after c.put_field-p1.ensures 24 136 (omega arith) c.requires

room2 : (c : After-put_field-p2) → c.put_field-p2.result + 109 ≤ length c.put_field-p2.new.buf
room2 c =
    let few = decimal-u64 c.from.result (omega (arith, c.ranges.cost)) in
    room_after c.put_field-p2.ensures 27 109 (omega arith) (room1 (goal.at.After-put_field-p2 c).After-put_field-p1)

room3 : (c : After-put_field-p3) → c.put_field-p3.result + 81 ≤ length c.put_field-p3.new.buf
room3 c =
    let few = decimal-u64 c.args.routes (omega (arith, c.ranges.routes)) in
    room_after c.put_field-p3.ensures 28 81 (omega arith) (room2 (goal.at.After-put_field-p3 c).After-put_field-p2)

room4 : (c : After-put_field-p4) → c.put_field-p4.result + 53 ≤ length c.put_field-p4.new.buf
room4 c =
    let few = decimal-u64 c.args.points (omega (arith, c.ranges.points)) in
    room_after c.put_field-p4.ensures 28 53 (omega arith) (room3 (goal.at.After-put_field-p4 c).After-put_field-p3)

room5 : (c : After-put_field-p5) → c.put_field-p5.result + 27 ≤ length c.put_field-p5.new.buf
room5 c =
    let few = decimal-u64 c.args.kept (omega (arith, c.ranges.kept)) in
    room_after c.put_field-p5.ensures 26 27 (omega arith) (room4 (goal.at.After-put_field-p5 c).After-put_field-p4)

pub put_field-p1-requires : goal.put_field-p1-requires
put_field-p1-requires c =
    omega (arith, c.requires, decimal-u64 c.args.n (omega arith))

pub put_field-p2-requires : goal.put_field-p2-requires
put_field-p2-requires c =
    omega (arith, room1 (goal.at.put_field-p2-requires c).After-put_field-p1, decimal-u64 c.from.result (omega (arith, c.ranges.cost)))

pub put_field-p3-requires : goal.put_field-p3-requires
put_field-p3-requires c =
    omega (arith, room2 (goal.at.put_field-p3-requires c).After-put_field-p2, decimal-u64 c.args.routes (omega (arith, c.ranges.routes)))

pub put_field-p4-requires : goal.put_field-p4-requires
put_field-p4-requires c =
    omega (arith, room3 (goal.at.put_field-p4-requires c).After-put_field-p3, decimal-u64 c.args.points (omega (arith, c.ranges.points)))

pub put_field-p5-requires : goal.put_field-p5-requires
put_field-p5-requires c =
    omega (arith, room4 (goal.at.put_field-p5-requires c).After-put_field-p4, decimal-u64 c.args.kept (omega (arith, c.ranges.kept)))

pub put_text-requires : goal.put_text-requires
put_text-requires c = omega (arith, room5 (goal.at.put_text-requires c).After-put_field-p5)

pub returns-clause-written : goal.returns-clause-written
returns-clause-written c =
    let w1 = c.put_field-p1.ensures in
    let w2 = written-more w1 (rw c.from.ensures at c.put_field-p2.ensures) in
    let w3 = written-more w2 c.put_field-p3.ensures in
    let w4 = written-more w3 c.put_field-p4.ensures in
    let w5 = written-more w4 c.put_field-p5.ensures in
    written-more w5 c.put_text.ensures

pub returns-clause-upper_bound : goal.returns-clause-upper_bound
returns-clause-upper_bound c = omega (
  arith,
  c.put_field-p1.ensures.place,
  c.put_field-p2.ensures.place,
  c.put_field-p3.ensures.place,
  c.put_field-p4.ensures.place,
  c.put_field-p5.ensures.place,
  c.put_text.ensures.place,
  decimal-u64 c.args.n (omega (arith, c.ranges.n)),
  decimal-u64 c.from.result (omega arith),
  decimal-u64 c.args.routes (omega (arith, c.ranges.routes)),
  decimal-u64 c.args.points (omega (arith, c.ranges.points)),
  decimal-u64 c.args.kept (omega (arith, c.ranges.kept)),
)

pub shape_of-buf : goal.shape_of-buf
shape_of-buf c = written-length (returns-clause-written c)
