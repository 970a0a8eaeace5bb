-- Reading the input piece by piece into a buffer, whose first bytes are what is read.
-- Used by contracts between functions; nobody has to believe it: laws tie it to the definitions.
--
--   bytes_read input r == what the reading r has read, at the start of the buffer
--   ReadMore i n i' r  == one read past the first n bytes of the buffer, which leaves these as they are: a byte more at
--                         least, or the input is over and no byte was read
--   ReadFor i q i' r c == reading on from q to r: the whole input stays what q left possible, and what stands at the
--                         cursor c is sure
--   MapRead i r m c    == what stands first is the map m, past which the cursor c stands, and that is sure; the buffer
--                         holds all that can matter
--   BadRead i r k      == what stands first is a bad record at place k, and that is sure
--   Ended i r          == at the end of a run all of the text is written, or a part could not be written
use Rattle.std.specs.Prelude.{ℕ, ◌≤◌, ◌<◌, ◌≡◌, true, false, List, length, take, Result, Ok, Err}
use Rattle.records.specs.Format.{gives_map, gives_bad, record_at, start_cursor}
use Rattle.records.specs.Settled.{longest}
use Rattle.records.specs.declared.stream.Cursor.{Cursor}
use Rattle.records.specs.declared.stream.MapRecord.{MapRecord}
use Rattle.route.specs.declared.Reading.{Reading}
use Rattle.route.specs.declared.Whole.{Whole}
use Rattle.route.specs.declared.Cut.{Cut}
use Rattle.route.specs.Sent.{Input, Sure, AllSent}

abbrev pub bytes_read : List ℕ → Reading → List ℕ
bytes_read input r = take r.count input

pub record ReadMore (input : List ℕ) (n : ℕ) (input' : List ℕ) (r : Reading) : Type 0 where
  pub on : n ≤ r.count
  pub within : r.count ≤ length input'
  pub kept : take n input' ≡ take n input
  pub more : r.over ≡ false → n < r.count
  pub ends : r.over ≡ true → r.count ≡ n

pub record ReadFor (input : List ℕ) (q : Reading) (input' : List ℕ) (r : Reading) (c : Cursor) : Type 0 where
  pub on : q.count ≤ r.count
  pub within : r.count ≤ length input'
  pub still : (s : List ℕ) → Input (bytes_read input' r) r.over s → Input (bytes_read input q) q.over s
  pub sure : Sure (bytes_read input' r) r.over c

pub record MapRead (input : List ℕ) (r : Reading) (m : MapRecord) (c : Cursor) : Type 0 where
  pub room : length input ≡ longest
  pub within : r.count ≤ length input
  pub found : record_at (bytes_read input r) start_cursor ≡ gives_map m c
  pub sure : Sure (bytes_read input r) r.over start_cursor

pub record BadRead (input : List ℕ) (r : Reading) (k : ℕ) : Type 0 where
  pub within : r.count ≤ length input
  pub found : record_at (bytes_read input r) start_cursor ≡ gives_bad k
  pub sure : Sure (bytes_read input r) r.over start_cursor

abbrev pub EndsBy : List ℕ → Result Whole Cut → Type 0
EndsBy input (Ok t) = AllSent (bytes_read input t.reading) t.reading.over t.written
EndsBy input (Err e) = 0 ≤ 0

pub record Ended (input : List ℕ) (r : Result Whole Cut) : Type 0 where
  pub ends : EndsBy input r
