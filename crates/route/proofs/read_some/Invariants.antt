-- `route::read_some` meets its contract: a read puts no more into the buffer than it holds, and each turn of the loop
-- is one try more.
use mathlib.Core.Path.{◌≡◌}
use lib.ListN.{length}
use Rattle.route.proofs.read_some.Given as goal

abbrev pub invariant-loop : goal.invariant-loop
invariant-loop l = length l.buf ≡ length l.initial.buf
