-- `records::lines::put_decimal` meets its contract: 20 digits are enough. Assumes nothing.
use native.Mathlib.Omega.{arith}
use Rattle.records.proofs.Decimal.{decimal-u64}
use Rattle.records.proofs.lines.put_decimal.Goals as goal

pub put_digits-requires : goal.put_digits-requires
put_digits-requires c =
    omega (arith, c.requires, decimal-u64 c.args.n (omega arith))
