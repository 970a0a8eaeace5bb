-- `stored_closures::table_of` meets its contract: the slot numbered k is read by the call at k. Assumes nothing.
use mathlib.Core.Path.{◌≡◌}
use Rattle.std.proofs.Common.{rules}
use Rattle.stored_closures.specs.Stored.{stored_in}
use Rattle.stored_closures.proofs.Table.{from_fn-at, table-stands}
use Rattle.stored_closures.proofs.table_of.Goals as goal

pub returns : goal.returns
returns c =
    let a = c.args in
    let made = c.from_fn.result in
    table-stands a.w a.h a.slots.now made c.from_fn.ensures.items.long
    (from_fn-at _ (λ k y. y ≡ stored_in a.slots.now k) _ (λ k y q call. search rules) made 16
    c.from_fn.ensures.items.each)
