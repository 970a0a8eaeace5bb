-- `records::lines::put_digits` meets its contract: below 10 the digit is n, from 10 on the digits of n / 10 come first.
-- The measure is n. Assumes nothing.
use Rattle.records.proofs.lines.+put_digits.Given as goal

abbrev pub decreases-put_digits : goal.decreases-put_digits
decreases-put_digits l = l.n
