-- docs/RULES.md, 17.2 to 17.5: what one call of the writer answers, and the writer and the buffer afterwards.
--
--   Call                == a call: `put_map w h l` of a packed floor, or `put_job j`
--   call_bytes x        == the bytes of the record that the call x writes; in a map record a byte for each cell
--   map_shape w h l     == the first refusal of 1 to 3 that applies to a map: a side that is not 1 to 31, the map's
--                          length, its unused bits
--   given_shape x       == `map_shape` of the map of the call x; good for a job
--   in_turn k x         == the call x may write record k: a map is record 0, and jobs are records 1 to 1,000
--   turn_shape b        == refusal 20 where b, that the record is in turn, is false
--   room_shape p k n    == refusal 18 where a record of k bytes from place p on does not fit in a buffer of n bytes
--   call_shape c x n    == the first refusal of the call x by the writer c in a buffer of n bytes: 1, 2 and 3 of a map,
--                          then 20, then 18
--   fresh_writer        == a writer that has written nothing
--   writer_left c x n   == the writer after the call: past the record, with one more record counted; unchanged at a
--                          refusal
--   buffer_left c x buf == the buffer after the call: the record at the writer's place, and all else unchanged;
--                          unchanged at a refusal
--   Writes c x buf r b' == the promise of both operations: the answer r and the buffer b' afterwards, for every input
use Rattle.std.specs.Prelude.{ℕ, ◌+◌, ◌≡◌, Bool, ◌&&◌, List, ◌++◌, leb, eqb, length, take, drop, Ok, Err}
use Rattle.basics.specs.Bounded.{pick}
use Rattle.floor.specs.Floor.{floor_of, cell_bytes}
use Rattle.floor.specs.Refusals.{Shape, floor_shape, and_then, left_by}
use Rattle.floor.specs.declared.Refusal.TheVariants.{Size, NoRoom, OutOfTurn}
use Rattle.records.specs.Format.{map_side}
use Rattle.writer.specs.Records.{Job, map_bytes, job_bytes}
use Rattle.writer.specs.declared.Writer.{Writer}
use Rattle.writer.specs.declared.AfterWrite.{AfterWrite}

pub data Call : Type 0 where
  put_map : ℕ → ℕ → List ℕ → Call
  put_job : Job → Call

abbrev pub call_bytes : Call → List ℕ
call_bytes (put_map w h l) = map_bytes w h (cell_bytes (floor_of w h l))
call_bytes (put_job j) = job_bytes j

-- ---- the refusals

-- The sides of a map record are 1 to 31.
unfoldable pub map_shape : ℕ → ℕ → List ℕ → Shape
map_shape w h l = and_then (pick (map_side w && map_side h) (Ok tt) (Err Size)) (floor_shape w h l)

-- A job may have any numbers.
abbrev pub given_shape : Call → Shape
given_shape (put_map w h l) = map_shape w h l
given_shape (put_job j) = Ok tt

abbrev pub in_turn : ℕ → Call → Bool
in_turn k (put_map w h l) = eqb k 0
in_turn k (put_job j) = leb 1 k && leb k 1000

abbrev pub turn_shape : Bool → Shape
turn_shape b = pick b (Ok tt) (Err OutOfTurn)

unfoldable pub room_shape : ℕ → ℕ → ℕ → Shape
room_shape p k n = pick (leb (p + k) n) (Ok tt) (Err NoRoom)

unfoldable pub call_shape : Writer → Call → ℕ → Shape
call_shape c x n =
    and_then (given_shape x)
    (and_then (turn_shape (in_turn c.due x)) (room_shape c.at (length (call_bytes x)) n))

-- ---- what a call answers and leaves

abbrev pub fresh_writer : Writer
fresh_writer = record { at = 0; due = 0 }

abbrev pub writer_left : Writer → Call → ℕ → Writer
writer_left c x n =
    left_by (call_shape c x n) (record { at = c.at + length (call_bytes x); due = c.due + 1 }) c

abbrev pub buffer_left : Writer → Call → List ℕ → List ℕ
buffer_left c x buf =
    left_by (call_shape c x (length buf))
    (take c.at buf ++ call_bytes x ++ drop (c.at + length (call_bytes x)) buf) buf

pub record Writes (c : Writer) (x : Call) (buf : List ℕ) (r : AfterWrite) (buf' : List ℕ) : Type 0 where
  pub answer : r.answer ≡ call_shape c x (length buf)
  pub writer : r.writer ≡ writer_left c x (length buf)
  pub left : buf' ≡ buffer_left c x buf
