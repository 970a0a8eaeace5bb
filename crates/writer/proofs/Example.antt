-- The example of docs/RULES.md, section 16, written: the calls of its map and its job leave its input in a buffer of
-- twelve bytes.
use mathlib.Core.Path.{◌≡◌, refl}
use mathlib.Core.List.{[], ◌∷◌}
use Rattle.basics.specs.Bounded.{bounded-opened}
use Rattle.basics.specs.Lists.{zeros, lists-opened}
use Rattle.floor.specs.Floor.{floor-opened}
use Rattle.floor.specs.Refusals.{sides_shape, unused_clear, floor_shape}
use Rattle.records.proofs.Example.{input}
use Rattle.writer.specs.Records.{job_of}
use Rattle.writer.specs.Writing.{put_map, put_job, map_shape, room_shape, call_shape}
use Rattle.writer.specs.Calls.{fresh, after}

pub example-written : after (fresh (zeros 12)) (put_map 1 1 (0 ∷ []) ∷ put_job (job_of 4 0 3) ∷ [])
    ≡ record { writer = record { at = 12; due = 2 }; buffer = input }
unfolding bounded-opened lists-opened floor-opened sides_shape unused_clear floor_shape map_shape room_shape call_shape after
example-written = refl
