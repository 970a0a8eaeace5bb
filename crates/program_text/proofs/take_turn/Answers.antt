-- `program_text::take_turn` meets its contract: each return is a case of the record at the cursor. Assumes nothing.
use mathlib.Core.Path.{◌≡◌, sym, ◌∙◌}
use Rattle.records.specs.Format.{gives_map, gives_job, gives_end, gives_bad, record_at}
use Rattle.program_text.proofs.Turns.{turn-job, turn-bad, turn_end, turn-map}
use Rattle.program_text.proofs.take_turn.Goals as goal

pub returns-in-Ok-Some-Job-default : goal.returns-in-Ok-Some-Job-default
returns-in-Ok-Some-Job-default c =
    let e : record_at c.args.s.now c.args.c ≡ gives_job c.in-Ok-Some-Job-default.job c.in-Ok-Some-Job-default.past = cc in
    turn-job e c.job_text-bytes.ensures

pub returns-in-Ok-Some-Map-default : goal.returns-in-Ok-Some-Map-default
returns-in-Ok-Some-Map-default c =
    let a = c.in-Ok-Some-Map-default in
    let e : record_at c.args.s.now c.args.c ≡ gives_map a.field-0-0-0-0 a.field-0-0-1 = cc in
    turn-map _ c.requires.0 e

pub returns-in-Ok-None : goal.returns-in-Ok-None
returns-in-Ok-None c =
    let e : record_at c.args.s.now c.args.c ≡ gives_end = cc in
    turn_end _ e

pub returns-in-Err : goal.returns-in-Err
returns-in-Err c =
    let e : record_at c.args.s.now c.args.c ≡ gives_bad c.in-Err.bad.at = sym c.step.ensures ∙ c.in-Err.is in
    turn-bad e c.put_bad-bytes.ensures
