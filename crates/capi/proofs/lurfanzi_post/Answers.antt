-- `capi::lurfanzi_post` meets its contract: the slot answered, at most 15, fits in 32 bits. Assumes nothing.
use mathlib.Core.Path.{◌≡◌, ap}
use native.Mathlib.Omega.{arith}
use Rattle.std.proofs.Common.{rules}
use Rattle.closures.specs.Plain.{post_slot}
use Rattle.stored_closures.specs.Stored.{rectangle_of, stored_in}
use Rattle.capi.proofs.Places.{slot_lt}
use Rattle.capi.proofs.lurfanzi_post.Goals as goal

pub overflow_cast-result : goal.overflow_cast-result
overflow_cast-result c =
    let a = c.args in
    let e : c.unwrap_or.result ≡ post_slot c.post-posted.result = search rules in
    omega (
      arith,
      e,
      ap post_slot c.post-posted.ensures.answers,
      slot_lt a.width a.height (stored_in a.slots.now) (rectangle_of a.column a.row a.columns a.rows),
    )
