-- `legs::proposing::fill` meets its contract: the numbers that are filled are right. Assumes nothing.
use Rattle.legs.proofs.Filling.{filled-right}
use Rattle.legs.proofs.proposing.fill.Goals as goal

pub record_kept-requires : goal.record_kept-requires
record_kept-requires c = (c.requires.1, filled-right c.fill_legs.ensures c.requires.2)
