-- `route::write_bad` meets its contract: the line is all of the program's text.
use Rattle.route.proofs.Sending.{bad-next, bad-all}
use Rattle.route.proofs.write_bad.Goals as goal

pub write_next-requires : goal.write_next-requires
write_next-requires c =
    bad-next c.requires.0.sure c.requires.0.found c.put_bad-n.ensures c.requires.1

pub returns : goal.returns
returns c =
    record { ends = bad-all c.requires.0.sure c.requires.0.found c.put_bad-n.ensures }
