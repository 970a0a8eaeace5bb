-- `replay::judge` meets its contract: a log with a fault leaves both slices 0, and from the first record of any other
-- the costs are filled. Assumes nothing.
use mathlib.Core.Path.{◌≡◌, sym, ◌∙◌}
use lib.ListN.{length}
use Rattle.std.proofs.Common.{rules}
use Rattle.basics.specs.Lists.{zeros}
use Rattle.replay.proofs.Shaped.{faulty-judged, start-good, faultless-judged}
use Rattle.replay.proofs.judge.Goals as goal

pub returns-in_default : goal.returns-in_default
returns-in_default c =
    let a = c.args in
    let e : c.fill.new.self ≡ zeros (length a.costs.now) = search rules in
    let k : c.fill-in_default.new.self ≡ zeros (length a.work.now) = search rules in
    faulty-judged c.requires.log_read a.costs.now a.work.now (sym c.sound_ends.ensures ∙ c.in_default.is)
    c.requires.replayable e k

pub costs_from-requires : goal.costs_from-requires
costs_from-requires c =
    record {
      job = start-good c.requires.log_read (sym c.sound_ends.ensures ∙ c.in-Some.is) c.requires.replayable.good;
      d_len = c.requires.replayable.costs_len;
      work_len = c.requires.replayable.work_len;
    }

pub returns : goal.returns
returns c =
    faultless-judged c.requires.log_read (sym c.sound_ends.ensures ∙ c.in-Some.is) c.costs_from.ensures
