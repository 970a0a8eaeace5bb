-- `records::lines::put_bad` meets its contract: a number has at most 20 digits, so the line fits. Assumes nothing.
use Prim.Native.Nat.{◌+◌, ◌≤◌}
use native.Mathlib.Omega.{arith}
use lib.ListN.{length}
use Rattle.records.proofs.Decimal.{decimal-u64}
use Rattle.records.proofs.Writing.{written-more, room_after}
use Rattle.records.proofs.lines.put_bad.Goals.{After-put_field-p1}
use Rattle.records.proofs.lines.put_bad.Goals as goal

room1 : (c : After-put_field-p1) → c.put_field-p1.result + 30 ≤ length c.put_field-p1.new.buf
room1 c =
    room_after c.put_field-p1.ensures 34 30 (omega (arith, decimal-u64 c.args.k (omega arith)))
    c.requires

pub put_field-p1-requires : goal.put_field-p1-requires
put_field-p1-requires c =
    omega (arith, c.requires, decimal-u64 c.args.k (omega arith))

pub put_text-requires : goal.put_text-requires
put_text-requires c = omega (arith, room1 (goal.at.put_text-requires c).After-put_field-p1)

pub returns : goal.returns
returns c =
    let w1 = c.put_field-p1.ensures in
    written-more w1 c.put_text.ensures
