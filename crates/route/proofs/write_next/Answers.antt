-- `route::write_next` meets its contract: what is left of the part stands at the place that it is written to, and in
-- each turn of the loop some of it is written, or there is one try more.
use Rattle.route.proofs.Sending.{next-rest}
use Rattle.route.proofs.write_next.Goals as goal

pub write_some-requires : goal.write_some-requires
write_some-requires c =
    next-rest c.loop-done.done c.loop-done.invariant.0 c.requires
