-- `replay::replay_log` meets its contract: the answer of the reading is that of the log. Assumes nothing.
use Rattle.replay.proofs.Shaped.{answered}
use Rattle.replay.proofs.replay_log.Goals as goal

pub returns : goal.returns
returns c =
    answered c.read_log-r.ensures c.judge-cheapest.ensures c.answer_with.ensures
