-- `thinning::record` meets its contract: `Recording` says what the loop has recorded. Assumes nothing.
use native.Mathlib.Omega.{arith}
use lib.ListN.{length}
use Rattle.thinning.proofs.Recording.{recording-first, recording-more, recording-count, recording-done}
use Rattle.thinning.proofs.record.Goals as goal

pub loop-i-init : goal.loop-i-init
loop-i-init g c = record {
  inside = c.requires.room.0;
  counted = omega arith;
  told = λ next h. rw (c.fill.ensures.len, c.fill.ensures.after (λ y e. e))
      (recording-first next c.args.n (length c.args.out.now) c.requires.room.0 c.requires.room.2);
}

pub loop-i-preserved : goal.loop-i-preserved
loop-i-preserved g c =
    let i = c.loop-i.i in
    let j = c.next-i.result in
    let later = c.requires.steps.later i j (omega arith) c.next-i.ensures in
    let within = c.requires.steps.within i j (omega arith) c.next-i.ensures in
    record {
      inside = within;
      counted = omega (arith, c.loop-i.invariant.counted);
      told = λ next h. recording-more _ _ (c.loop-i.invariant.told next h) (omega arith) j later within
          (h i j (omega arith) c.next-i.ensures);
    }

pub returns : goal.returns
returns g c = record {
  count = λ next h. recording-count _ _ (c.loop-i.invariant.told next h) (omega arith);
  output = λ next h. rw (← c.fill.ensures.len) (recording-done _ _ (c.loop-i.invariant.told next h) (omega arith));
}
