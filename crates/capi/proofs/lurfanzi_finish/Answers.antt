-- `capi::lurfanzi_finish` meets its contract: it hands its numbers and slices on to `planner::finish`. Assumes nothing.
use Rattle.std.proofs.Common.{rules}
use Rattle.capi.proofs.Given.{finishes-to}
use Rattle.capi.proofs.lurfanzi_finish.Goals as goal

pub returns : goal.returns
returns c =
    finishes-to c.finish-p.ensures (search rules) (search rules) (search rules) c.answer_number.ensures
