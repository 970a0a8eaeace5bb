-- `records::lines::put_digits` meets its contract: below 10 the digit is n, from 10 on the digits of n / 10 come first.
-- The measure is n. Assumes nothing.
use mathlib.Core.Path.{sym}
use native.Mathlib.Omega.{arith}
use Rattle.records.proofs.Decimal.{decimal-small, decimal-large, decimal-some, decimal-longer}
use Rattle.records.proofs.Writing.{written-length, written-more, written_one, written_as}
use Rattle.records.proofs.lines.+put_digits.Goals as goal

pub bounds-buf-at : goal.bounds-buf-at
bounds-buf-at t c = omega (arith, decimal-some c.args.n)

pub returns-then-n-lt10 : goal.returns-then-n-lt10
returns-then-n-lt10 t c =
    written_as (sym (decimal-small c.args.n (omega arith)))
    (written_one c.args.buf.now c.args.at _ (omega (arith, decimal-some c.args.n)))

pub put_digits-last-requires : goal.put_digits-last-requires
put_digits-last-requires t c = (omega arith, omega (arith, decimal-longer c.args.n (omega arith)))

pub bounds-buf-last : goal.bounds-buf-last
bounds-buf-last t c =
    let w = c.put_digits-last.ensures in
    omega (arith, decimal-longer c.args.n (omega arith), w.place, written-length w)

pub returns : goal.returns
returns t c =
    let w = c.put_digits-last.ensures in
    written_as (sym (decimal-large c.args.n (omega arith)))
    (written-more w
    (written_one c.put_digits-last.new.buf c.put_digits-last.result _
    (omega (arith, decimal-longer c.args.n (omega arith), w.place, written-length w))))
