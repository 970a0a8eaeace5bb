-- `writer::Writer::put_job` meets its contract: a refusal changes neither writer nor buffer, and otherwise the record
-- is written. Assumes nothing.
use mathlib.Core.Path.{◌≡◌, sym, ◌∙◌}
use lib.ListN.{length}
use Rattle.std.specs.Prelude.{Ok}
use Rattle.writer.specs.Records.{job_of}
use Rattle.writer.specs.Writing.{put_job, call_shape}
use Rattle.writer.proofs.Shapes.{accepted, due-few}
use Rattle.writer.proofs.Outcome.{refused-writes, record-writes}
use Rattle.writer.proofs.Writer.put_job.Goals.{In-Ok}
use Rattle.writer.proofs.Writer.put_job.Goals as goal

-- After the test the call is not refused.
call-good : (t : In-Ok)
    → call_shape t.args.self (put_job (job_of t.args.nb t.args.a t.args.b)) (length t.args.buf.now) ≡ Ok tt
call-good t = let e = t.job_call_shape.ensures in sym (e _) ∙ t.in-Ok.is

pub put_job_record-next-requires : goal.put_job_record-next-requires
put_job_record-next-requires c =
    (accepted _ _ _ (call-good (goal.at.put_job_record-next-requires c).In-Ok)).room

pub past_record-requires : goal.past_record-requires
past_record-requires c = due-few _ _ _ (call-good (goal.at.past_record-requires c).In-Ok)

pub returns-in-Err : goal.returns-in-Err
returns-in-Err c =
    let e = c.job_call_shape.ensures in
    refused-writes _ _ _ (sym (e _) ∙ c.in-Err.is) c.refused.ensures.0 c.refused.ensures.1

pub returns-in-Ok : goal.returns-in-Ok
returns-in-Ok c =
    record-writes _ _ _ (call-good (goal.at.returns-in-Ok c).In-Ok) c.put_job_record-next.ensures
    c.past_record.ensures
