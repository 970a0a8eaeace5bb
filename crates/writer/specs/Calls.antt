-- docs/RULES.md, 17.6 and 17.7: any calls on one buffer that is written by nothing else, each with the writer that the
-- call before it answered; what was written; and what is read of a stream, as calls. proofs/RoundTrips.antt proves both
-- round trips.
--
--   State              == a writer and the buffer that it writes
--   fresh buf          == a fresh writer on the buffer buf
--   after_one s x      == the state after the call x, by the promise of the operation
--   after s xs         == the state after the calls xs, one after the other
--   taken s xs         == those of the calls xs from the state s on that are not refused
--   written s          == the buffer up to the place of the writer
--   job_calls js       == the calls that write the jobs js
--   numbered_job k j   == the job j as the reader gives it, with number k
--   numbered k js      == the jobs js as the reader gives them, numbered from k on
--   map_read w h       == a map of w by h cells as the reader gives it
--   stream_read w h js == the stream of a map of w by h cells and the jobs js, with no bad record
--   ReadBack buf xs    == of the calls xs, made from a fresh writer on, those that are not refused are a map and jobs,
--                         and reading what was written gives the same floor and the same jobs
--   bare_job j         == the neighbourhood and the ends of a job that the reader gives
--   end_in s o         == the place of the bad record o; the length of s where there is none
--   read_end s         == the place where reading the stream s ends: at its bad record, or at its end
--   calls_in s o js    == the calls that write the map o and the jobs js, read of the stream s; none without a map
--   calls_read s       == the calls that write what is read of the stream s before any bad record: the map, packed, and
--                         the jobs
--   Given x            == the numbers of the call x have the widths that the operations take
--   WrittenBack s buf  == the calls that write what is read of the stream s into buf, from a fresh writer on: none is
--                         refused, they write the same bytes, and the rest of buf is unchanged
use Rattle.std.specs.Prelude.{ℕ, suc, ◌<◌, ◌≡◌, length, get_or, take, drop}
use mathlib.Core.List.{List, [], ◌∷◌, map, Memᴰ}
use Rattle.std.proofs.Math.Option.{Option, some, none}
use Rattle.floor.specs.Floor.{floor_of, stored_cells, cell_bytes}
use Rattle.floor.specs.Refusals.{left_by}
use Rattle.records.specs.Format.{Stream, stream_of, cells_of}
use Rattle.records.specs.declared.stream.MapRecord.{MapRecord}
use Rattle.records.specs.declared.stream.JobRecord.{JobRecord}
use Rattle.writer.specs.Records.{Job, job_of}
use Rattle.writer.specs.Writing.{Call, put_map, put_job, call_shape, fresh_writer, writer_left, buffer_left}
use Rattle.writer.specs.declared.Writer.{Writer}

-- ---- any calls

pub record State : Type 0 where
  pub writer : Writer
  pub buffer : List ℕ

abbrev pub fresh : List ℕ → State
fresh buf = record { writer = fresh_writer; buffer = buf }

abbrev pub after_one : State → Call → State
after_one s x = record {
  writer = writer_left s.writer x (length s.buffer);
  buffer = buffer_left s.writer x s.buffer;
}

unfoldable pub after : State → List Call → State
after s [] = s
after s (x ∷ xs) = after (after_one s x) xs

unfoldable pub taken : State → List Call → List Call
taken s [] = []
taken s (x ∷ xs) =
    left_by (call_shape s.writer x (length s.buffer)) (x ∷ taken (after_one s x) xs) (taken (after_one s x) xs)

abbrev pub written : State → List ℕ
written s = take s.writer.at s.buffer

-- ---- what was written, read

abbrev pub job_calls : List Job → List Call
job_calls js = map put_job js

abbrev pub numbered_job : ℕ → Job → JobRecord
numbered_job k j = record { number = k; neighbourhood = j.neighbourhood; start = j.start; end = j.end }

unfoldable pub numbered : ℕ → List Job → List JobRecord
numbered k [] = []
numbered k (j ∷ js) = numbered_job k j ∷ numbered (suc k) js

-- The cells of the map begin after its mark and its two sides.
abbrev pub map_read : ℕ → ℕ → MapRecord
map_read w h = record { wide = w; high = h; cells = 4 }

abbrev pub stream_read : ℕ → ℕ → List Job → Stream
stream_read w h js = record { map = some (map_read w h); jobs = numbered 1 js; bad = none }

-- The cells that are read, stored packed as the program stores them (`stored_cells`), are the map of the call, where its
-- numbers are bytes.
pub record ReadBack (buf : List ℕ) (xs : List Call) : Type 0 where
  pub wide : ℕ
  pub high : ℕ
  pub packed : List ℕ
  pub jobs : List Job
  pub calls : taken (fresh buf) xs ≡ put_map wide high packed ∷ job_calls jobs
  pub stream : stream_of (written (after (fresh buf) xs)) ≡ stream_read wide high jobs
  pub cells : cells_of (written (after (fresh buf) xs)) (map_read wide high) ≡ cell_bytes (floor_of wide high packed)
  pub stored : ((k : ℕ) → get_or packed k 0 < 256)
      → stored_cells (cells_of (written (after (fresh buf) xs)) (map_read wide high)) ≡ packed

-- ---- what is read, written

abbrev pub bare_job : JobRecord → Job
bare_job j = job_of j.neighbourhood j.start j.end

abbrev pub end_in : List ℕ → Option ℕ → ℕ
end_in s none = length s
end_in s (some p) = p

abbrev pub read_end : List ℕ → ℕ
read_end s = end_in s (stream_of s).bad

abbrev pub calls_in : List ℕ → Option MapRecord → List JobRecord → List Call
calls_in s none js = []
calls_in s (some m) js = put_map m.wide m.high (stored_cells (cells_of s m)) ∷ job_calls (map bare_job js)

abbrev pub calls_read : List ℕ → List Call
calls_read s = calls_in s (stream_of s).map (stream_of s).jobs

abbrev pub Given : Call → Type 0
Given (put_map w h l) = (k : ℕ) → get_or l k 0 < 256
Given (put_job j) = (j.neighbourhood < 256) × (j.start < 65536) × (j.end < 65536)

pub record WrittenBack (s buf : List ℕ) : Type 0 where
  pub given : (x : Call) → Memᴰ x (calls_read s) → Given x
  pub calls : taken (fresh buf) (calls_read s) ≡ calls_read s
  pub bytes : written (after (fresh buf) (calls_read s)) ≡ take (read_end s) s
  pub rest : drop (read_end s) (after (fresh buf) (calls_read s)).buffer ≡ drop (read_end s) buf
