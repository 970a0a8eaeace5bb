-- `records::lines::put_field` meets its contract: the text is written, then the digits. Assumes nothing.
use native.Mathlib.Omega.{arith}
use lib.ListN.{length-append}
use Rattle.records.proofs.Writing.{written-length, written-more}
use Rattle.records.proofs.lines.put_field.Goals as goal

pub put_text-next-requires : goal.put_text-next-requires
put_text-next-requires c =
    omega (arith, simp length-append at c.requires)

pub put_digits-requires : goal.put_digits-requires
put_digits-requires c =
    let w = c.put_text-next.ensures in
    omega (arith, simp length-append at c.requires, w.place, written-length w)

pub returns : goal.returns
returns c =
    written-more c.put_text-next.ensures c.put_digits.ensures
