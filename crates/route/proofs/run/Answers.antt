-- `route::run` meets its contract: what the first step finds is handed on as such.
use mathlib.Core.Path.{◌≡◌}
use lib.ListN.{take}
use native.Mathlib.Omega.{arith}
use Rattle.records.specs.Format.{gives_job, gives_end, record_at, start_cursor}
use Rattle.route.proofs.Running.{first-reached}
use Rattle.route.proofs.Sending.{never-end, never-job}
use Rattle.route.proofs.run.Goals as goal

pub read_for-first-requires : goal.read_for-first-requires
read_for-first-requires c =
    (omega arith, c.requires, first-reached c.new-c.ensures)

pub returns-in-Ok-None : goal.returns-in-Ok-None
returns-in-Ok-None c =
    let e : record_at (take c.read_for-first.result.count c.read_for-first.new.input) start_cursor ≡ gives_end = cc in
    never-end _ e

pub returns-in-Ok-Some-Job-default : goal.returns-in-Ok-Some-Job-default
returns-in-Ok-Some-Job-default c =
    let a = c.in-Ok-Some-Job-default in
    let e : record_at (take c.read_for-first.result.count c.read_for-first.new.input) start_cursor
    ≡ gives_job a.field-0-0-0-0 a.field-0-0-1 = cc in
    never-job _ e
