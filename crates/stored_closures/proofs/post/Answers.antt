-- `stored_closures::post` meets its contract: the slot that is stored is one of the sixteen, and the rectangle's numbers
-- are stored there. Assumes nothing.
use mathlib.Core.Path.{sym, ◌∙◌}
use Rattle.closures.proofs.Shapes.{posted-slot}
use Rattle.stored_closures.specs.Stored.{rectangle_of, stored_in}
use Rattle.stored_closures.proofs.Answered.{posting, posts-in}
use Rattle.stored_closures.proofs.post.Goals as goal

pub store-requires : goal.store-requires
store-requires c =
    let a = c.args in
    posted-slot a.w a.h (stored_in a.slots.now) (rectangle_of a.column a.row a.columns a.rows) c.in_ok-k.k
    (sym (posting c.table_of.ensures c.posted-done.ensures c.rectangle.ensures) ∙ c.in_ok-k.was)

pub returns : goal.returns
returns c =
    let a = c.args in
    posts-in a.w a.h a.slots.now (rectangle_of a.column a.row a.columns a.rows)
    (sym (posting c.table_of.ensures c.posted-done.ensures c.rectangle.ensures) ∙ c.in_ok-k.was) c.store.ensures
