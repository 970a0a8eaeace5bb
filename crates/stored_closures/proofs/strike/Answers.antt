-- `stored_closures::strike` meets its contract: the slot is one of the sixteen where the answer is no refusal. Assumes
-- nothing.
use mathlib.Core.Path.{sym, ◌∙◌}
use Rattle.closures.proofs.Shapes.{good-strike}
use Rattle.stored_closures.specs.Stored.{stored_in}
use Rattle.stored_closures.proofs.Answered.{striking}
use Rattle.stored_closures.proofs.strike.Goals as goal

pub store-requires : goal.store-requires
store-requires c =
    let a = c.args in
    good-strike a.w a.h (stored_in a.slots.now) a.k
    (sym (striking c.table_of.ensures c.struck-done.ensures) ∙ c.in_ok-done.was)
