-- docs/RULES.md, 16.1 to 16.5: the byte stream of one map record and up to 1,000 job records.
--
--   word_at s p              == the 16-bit little-endian number at place p of the bytes s
--   marked_at s p a b        == the two bytes at p are a and b
--   whole_at s p n           == s has the n bytes from place p on
--   wide_at s p, high_at s p == the sides of a map record at place p
--   good_map s p, good_job s p == the bytes from place p on are a good map record, and a good job record
--   map_in, past_map, job_in, past_job == the map or the job of a good record, and the cursor past it
--   Record, BadRecord        == the code's: a map or a job; and the place of a bad record
--   Step                     == what a step finds: a record with the cursor past it, nothing at the end of the input,
--                               or a bad record
--   gives_map m d, gives_job j d, gives_end, gives_bad p == each kind of step
--   bad_record p             == the bad record at place p
--   map_at s p               == the record at place p where the map is due: the map with the cursor past it, or a bad
--                               record
--   job_at s p k             == the record at place p where job k is due: the job with the cursor past it, or a bad
--                               record
--   found r                  == the step that finds r
--   record_at s c            == what a step of the cursor c finds in s
--   start_cursor             == the cursor at the start of a stream
--   cells_of s m             == the bytes of the cells of the map m, row by row
--   Stream                   == what is read of a stream: its map, its jobs, and the place of a bad record
--   ended, bad_at p          == the stream of which nothing is left to read, and one that goes on with a bad record at
--                               p
--   with_map m t, with_job j t == the stream t with the map m, and with the job j in front of its jobs
--   stream_from s c          == what is read from the cursor c on: the map, the jobs in order, the place of the bad
--                               record
--   stream_of s              == what is read of the whole input s
--
-- A cursor has the place of the next record, `at`, and the number of that record, `due`: 0 for the map, k for job k. A
-- cursor past the end of the input finds what one at the end finds. A byte past the end reads as 0, which is no mark
-- and no side.
use Rattle.std.specs.Prelude.{ℕ, zero, suc, ◌+◌, ◌-◌, ◌*◌, Bool, ◌&&◌, List, [], ◌∷◌, leb, eqb, length, get_or, take, drop}
use Rattle.std.specs.Prelude.{Result, Ok, Err, Some, None}
use Rattle.std.specs.Prelude.{Option as Maybe}
use Rattle.std.proofs.Math.Option.{Option, some, none}
use Rattle.basics.specs.Bounded.{pick, every}
use Rattle.records.specs.declared.stream.Cursor.{Cursor}
use Rattle.records.specs.declared.stream.MapRecord.{MapRecord}
use Rattle.records.specs.declared.stream.JobRecord.{JobRecord}
use Rattle.records.specs.declared.stream.Record.{Record}
use Rattle.records.specs.declared.stream.Record.TheVariants.{Map, Job}
use Rattle.records.specs.declared.stream.BadRecord.{BadRecord}

abbrev pub Step : Type 0
Step = Result (Maybe (Record × Cursor)) BadRecord

abbrev pub bad_record : ℕ → BadRecord
bad_record p = record { at = p }

abbrev pub gives_map : MapRecord → Cursor → Step
gives_map m d = Ok (Some (Map m, d))

abbrev pub gives_job : JobRecord → Cursor → Step
gives_job j d = Ok (Some (Job j, d))

abbrev pub gives_end : Step
gives_end = Ok None

abbrev pub gives_bad : ℕ → Step
gives_bad p = Err (bad_record p)

abbrev pub word_at : List ℕ → ℕ → ℕ
word_at s p = get_or s p 0 + 256 * get_or s (p + 1) 0

abbrev pub marked_at : List ℕ → ℕ → ℕ → ℕ → Bool
marked_at s p a b = eqb (get_or s p 0) a && eqb (get_or s (p + 1) 0) b

abbrev pub whole_at : List ℕ → ℕ → ℕ → Bool
whole_at s p n = leb (p + n) (length s)

-- A map: 4D 50 hex, the sides W and H, then W * H cells.
abbrev pub wide_at : List ℕ → ℕ → ℕ
wide_at s p = get_or s (p + 2) 0

abbrev pub high_at : List ℕ → ℕ → ℕ
high_at s p = get_or s (p + 3) 0

-- A side is 1 to 31.
abbrev pub map_side : ℕ → Bool
map_side n = leb 1 n && leb n 31

-- Cell k of the cells that start at p is 0 or 1.
abbrev pub cell_byte : List ℕ → ℕ → ℕ → Bool
cell_byte s p k = leb (get_or s (p + k) 0) 1

unfoldable pub good_map : List ℕ → ℕ → Bool
good_map s p =
    marked_at s p 0x4D 0x50 && map_side (wide_at s p) && map_side (high_at s p) && whole_at s p (4 + wide_at s p * high_at s p)
    && every (wide_at s p * high_at s p) (cell_byte s (p + 4))

abbrev pub map_in : List ℕ → ℕ → MapRecord
map_in s p = record { wide = wide_at s p; high = high_at s p; cells = p + 4 }

abbrev pub past_map : List ℕ → ℕ → Cursor
past_map s p = record { at = p + 4 + wide_at s p * high_at s p; due = 1 }

unfoldable pub map_at : List ℕ → ℕ → Result (Record × Cursor) BadRecord
map_at s p = pick (good_map s p) (Ok (Map (map_in s p), past_map s p)) (Err (bad_record p))

-- A job: 4A 42 hex, the neighbourhood, the two ends.
unfoldable pub good_job : List ℕ → ℕ → Bool
good_job s p = marked_at s p 0x4A 0x42 && whole_at s p 7

abbrev pub job_in : List ℕ → ℕ → ℕ → JobRecord
job_in s p k = record { number = k; neighbourhood = get_or s (p + 2) 0; start = word_at s (p + 3); end = word_at s (p + 5) }

abbrev pub past_job : ℕ → ℕ → Cursor
past_job p k = record { at = p + 7; due = k + 1 }

unfoldable pub job_at : List ℕ → ℕ → ℕ → Result (Record × Cursor) BadRecord
job_at s p k = pick (good_job s p) (Ok (Job (job_in s p k), past_job p k)) (Err (bad_record p))

abbrev pub found : Result (Record × Cursor) BadRecord → Step
found (Ok r) = Ok (Some r)
found (Err e) = Err e

-- The map comes first; after it the input may end, and after 1,000 jobs it must.
unfoldable pub record_at : List ℕ → Cursor → Step
record_at s c =
    pick (eqb c.due 0) (found (map_at s c.at))
    (pick (leb (length s) c.at) gives_end
    (pick (leb c.due 1000) (found (job_at s c.at c.due)) (gives_bad c.at)))

abbrev pub start_cursor : Cursor
start_cursor = record { at = 0; due = 0 }

abbrev pub cells_of : List ℕ → MapRecord → List ℕ
cells_of s m = take (m.wide * m.high) (drop m.cells s)

-- What is read of a stream. `bad` is the place of a bad record, at which reading stops; none where the input ends
-- properly.
pub record Stream : Type 0 where
  pub map : Option MapRecord
  pub jobs : List JobRecord
  pub bad : Option ℕ

abbrev pub ended : Stream
ended = record { map = none; jobs = []; bad = none }

abbrev pub bad_at : ℕ → Stream
bad_at p = record { map = none; jobs = []; bad = some p }

abbrev pub with_map : MapRecord → Stream → Stream
with_map m t = record { map = some m; jobs = t.jobs; bad = t.bad }

abbrev pub with_job : JobRecord → Stream → Stream
with_job j t = record { map = t.map; jobs = j ∷ t.jobs; bad = t.bad }

-- The record that a step finds before `rest`, the stream from the cursor past it.
abbrev pub and_rest : Step → (Cursor → Stream) → Stream
and_rest (Ok (Some (Map m, d))) rest = with_map m (rest d)
and_rest (Ok (Some (Job j, d))) rest = with_job j (rest d)
and_rest (Ok None) rest = ended
and_rest (Err e) rest = bad_at e.at

-- At most n steps. By the law `stream-step` of proofs/Streams, n is never used up.
unfoldable pub steps : ℕ → List ℕ → Cursor → Stream
steps zero s c = ended
steps (suc n) s c = and_rest (record_at s c) (steps n s)

-- A step for each record still due, and one more that finds the end or a bad record.
unfoldable pub stream_from : List ℕ → Cursor → Stream
stream_from s c = steps (suc (1001 - c.due)) s c

unfoldable pub stream_of : List ℕ → Stream
stream_of s = stream_from s start_cursor
