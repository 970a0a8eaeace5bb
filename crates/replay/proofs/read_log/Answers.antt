-- `replay::read_log` meets its contract: the stops are taken one by one, until the end or a bad record. The measure is
-- the number of bytes left of the log. Assumes nothing.
use mathlib.Core.Path.{ap, ◌∙◌}
use Rattle.std.proofs.Common.{Ok}
use Rattle.replay.proofs.Reached.{starts, takes, goes_on, falls, ends, breaks}
use Rattle.replay.proofs.read_log.Goals as goal

pub loop-v-init : goal.loop-v-init
loop-v-init c =
    let a = c.args in
    starts a.floor.w a.floor.h a.floor.map.now a.dirs a.log.now c.new-cursor.result c.new-cursor.ensures

pub returns-in-Ok-None : goal.returns-in-Ok-None
returns-in-Ok-None c =
    let a = c.args in
    ends a.floor.w a.floor.h a.floor.map.now a.dirs a.log.now c.loop-v.invariant
    c.vertex_count-count.ensures.0 c.step.ensures c.requires.1 (c.in-Ok-None.is ∙ ap Ok c.in-Ok-None.field-0-is)

pub returns-in-Err : goal.returns-in-Err
returns-in-Err c =
    let a = c.args in
    breaks a.floor.w a.floor.h a.floor.map.now a.dirs a.log.now c.loop-v.invariant
    c.vertex_count-count.ensures.0 c.step.ensures c.in-Err.field-0 c.requires.1 c.in-Err.is

pub take_stop-drive-requires : goal.take_stop-drive-requires
take_stop-drive-requires c =
    let a = c.args in
    takes a.floor.w a.floor.h a.floor.map.now a.dirs a.log.now c.loop-v.invariant
    c.vertex_count-count.ensures.0 c.step.ensures c.in-Ok-Some.v c.in-Ok-Some.next (c.in-Ok-Some.is ∙ ap Ok c.in-Ok-Some.field-0-is)
    c.requires.0 c.requires.1

pub loop-v-smaller : goal.loop-v-smaller
loop-v-smaller c =
    let a = c.args in
    falls a.floor.w a.floor.h a.floor.map.now a.dirs a.log.now c.loop-v.invariant
    c.vertex_count-count.ensures.0 c.step.ensures c.in-Ok-Some.v c.in-Ok-Some.next (c.in-Ok-Some.is ∙ ap Ok c.in-Ok-Some.field-0-is)

pub loop-v-preserved : goal.loop-v-preserved
loop-v-preserved c =
    let a = c.args in
    goes_on a.floor.w a.floor.h a.floor.map.now a.dirs a.log.now c.loop-v.invariant
    c.vertex_count-count.ensures.0 c.step.ensures c.in-Ok-Some.v c.in-Ok-Some.next (c.in-Ok-Some.is ∙ ap Ok c.in-Ok-Some.field-0-is)
    c.requires.0 c.take_stop-drive.result c.take_stop-drive.ensures
