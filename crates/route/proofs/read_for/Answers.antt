-- `route::read_for` meets its contract: each read leaves what is read before it, and the loop ends where the input is
-- over or what is read settles what stands at the cursor.
use mathlib.Core.Path.{◌∙◌}
use Rattle.route.proofs.Settling.{read-then, room-left}
use Rattle.route.proofs.read_for.Goals as goal

pub read_more-r-requires : goal.read_more-r-requires
read_more-r-requires c =
    room-left c.loop-r.input c.loop-r.r.count c.args.c c.is_settled.ensures c.if-is_settled.false
    c.requires.2 (c.loop-r.invariant.1 ∙ c.requires.1) c.loop-r.invariant.0.within

pub loop-r-preserved : goal.loop-r-preserved
loop-r-preserved c =
    (read-then c.loop-r.invariant.0 c.if-r.false c.read_more-r.ensures, c.read_more-r.auto.input ∙ c.loop-r.invariant.1)
