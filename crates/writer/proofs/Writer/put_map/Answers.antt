-- `writer::Writer::put_map` meets its contract: a refusal changes neither writer nor buffer, and otherwise the record
-- is written. Assumes nothing.
use mathlib.Core.Path.{◌≡◌, sym, ◌∙◌}
use lib.ListN.{length}
use Rattle.std.specs.Prelude.{Ok}
use Rattle.floor.proofs.Shapes.{good-floor}
use Rattle.writer.specs.Writing.{put_map, call_shape}
use Rattle.writer.proofs.Shapes.{good-map, map-fits, due-few}
use Rattle.writer.proofs.Outcome.{refused-writes, record-writes}
use Rattle.writer.proofs.Writer.put_map.Goals.{In-Ok}
use Rattle.writer.proofs.Writer.put_map.Goals as goal

-- After the test the call is not refused.
call-good : (t : In-Ok)
    → call_shape t.args.self (put_map t.args.w t.args.h t.args.map.now) (length t.args.buf.now) ≡ Ok tt
call-good t = sym t.map_call_shape.ensures ∙ t.in-Ok.is

pub invariant_of-put_map_record : goal.invariant_of-put_map_record
invariant_of-put_map_record c =
    let fits = map-fits _ _ _ _ _ (call-good (goal.at.invariant_of-put_map_record c).In-Ok) in
    record { sized = (good-floor _ _ _ (good-map _ _ _ fits.good).floor).sized }

pub put_map_record-next-requires : goal.put_map_record-next-requires
put_map_record-next-requires c =
    map-fits _ _ _ _ _ (call-good (goal.at.put_map_record-next-requires c).In-Ok)

pub past_record-requires : goal.past_record-requires
past_record-requires c = due-few _ _ _ (call-good (goal.at.past_record-requires c).In-Ok)

pub returns-in-Err : goal.returns-in-Err
returns-in-Err c =
    refused-writes _ _ _ (sym c.map_call_shape.ensures ∙ c.in-Err.is) c.refused.ensures.0 c.refused.ensures.1

pub returns-in-Ok : goal.returns-in-Ok
returns-in-Ok c =
    record-writes _ _ _ (call-good (goal.at.returns-in-Ok c).In-Ok) c.put_map_record-next.ensures
    c.past_record.ensures
