-- `program_text::answer_text` meets its contract: a refusal's line, or, where the answer is a route, the route slice
-- holds a list that can be thinned. Assumes nothing.
use Rattle.program_text.proofs.Lines.{planned-as, routable, refused-written, found-written}
use Rattle.program_text.proofs.answer_text.Goals as goal

pub route_text-requires : goal.route_text-requires
route_text-requires c =
    routable c.args.job c.requires.0 (planned-as c.in-Ok.is c.requires.1)

pub returns-in-Err : goal.returns-in-Err
returns-in-Err c =
    refused-written c.args.job c.requires.0 (planned-as c.in-Err.is c.requires.1)
    c.from.ensures c.put_refused.ensures

pub returns-in-Ok : goal.returns-in-Ok
returns-in-Ok c =
    found-written c.args.job c.requires.0 (planned-as c.in-Ok.is c.requires.1) c.route_text.ensures
