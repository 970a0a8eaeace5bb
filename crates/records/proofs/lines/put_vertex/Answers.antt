-- `records::lines::put_vertex` meets its contract: a 16-bit number has at most 5 digits. Assumes nothing.
use native.Mathlib.Omega.{arith}
use Rattle.records.proofs.Decimal.{decimal-u16}
use Rattle.records.proofs.lines.put_vertex.Goals as goal

pub put_field-requires : goal.put_field-requires
put_field-requires c =
    omega (arith, c.requires, decimal-u16 c.from.result (omega arith))
