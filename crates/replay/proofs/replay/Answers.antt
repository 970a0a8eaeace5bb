-- `replay::replay` meets its contract: a log of good shape is replayed. Assumes nothing.
use mathlib.Core.Path.{sym, ◌∙◌}
use Rattle.replay.proofs.Shaped.{job-replayable, replays-fit}
use Rattle.replay.proofs.replay.Goals as goal

pub invariant_of-replay_log : goal.invariant_of-replay_log
invariant_of-replay_log c =
    let a = c.args in
    let r = job-replayable a.w a.h a.map.now a.nb a.log.now a.costs.now a.work.now c.in_ok-dirs.dirs
    (sym c.replay_shape.ensures ∙ c.in_ok-dirs.was) in
    record { sized = r.good.sized }

pub replay_log-requires : goal.replay_log-requires
replay_log-requires c =
    let a = c.args in
    job-replayable a.w a.h a.map.now a.nb a.log.now a.costs.now a.work.now
    c.in_ok-dirs.dirs (sym c.replay_shape.ensures ∙ c.in_ok-dirs.was)

pub returns : goal.returns
returns c = replays-fit (sym c.replay_shape.ensures ∙ c.in_ok-dirs.was) c.replay_log.ensures
