-- docs/RULES.md, 12.1 and 12.2: the bytes of a log, for each stop a record 56 54 hex and a 16-bit little-endian vertex
-- number.
--
--   cursor_at p     == the cursor at place p
--   bad_stop        == the bad record, of which nothing more is said
--   good_stop s v p == a whole record with the mark 56 54 hex stands at place p of s and names one of v vertices
--   LogStep         == what a step finds: a stop with the cursor moved past it, nothing at the end, or a bad record
--   stop_at s v c   == what a step of the cursor c finds; a bad record is cut short, has a wrong mark or names no vertex
--   Log             == the stops read in turn, and whether a bad record ended the reading
--   log_from s v c  == the log s read from the cursor c on
--   log_of s v      == the log s read from its start
use Rattle.std.specs.Prelude.{ℕ, zero, suc, ◌+◌, ◌-◌, Bool, true, false, ◌&&◌, List, [], ◌∷◌, leb, ltb, length, Result, Ok, Err, Option, Some, None}
use Rattle.basics.specs.Bounded.{pick}
use Rattle.records.specs.Format.{word_at, marked_at, whole_at}
use Rattle.logs.specs.declared.LogCursor.{LogCursor}
use Rattle.logs.specs.declared.BadStop.{BadStop}

abbrev pub LogStep : Type 0
LogStep = Result (Option (ℕ × LogCursor)) BadStop

abbrev pub bad_stop : BadStop
bad_stop = record {}

abbrev pub cursor_at : ℕ → LogCursor
cursor_at p = record { at = p }

unfoldable pub good_stop : List ℕ → ℕ → ℕ → Bool
good_stop s v p = marked_at s p 0x56 0x54 && whole_at s p 4 && ltb (word_at s (p + 2)) v

unfoldable pub stop_at : List ℕ → ℕ → LogCursor → LogStep
stop_at s v c =
    pick (leb (length s) c.at) (Ok None)
    (pick (good_stop s v c.at) (Ok (Some (word_at s (c.at + 2), cursor_at (c.at + 4)))) (Err bad_stop))

pub record Log : Type 0 where
  pub stops : List ℕ
  pub broken : Bool

abbrev pub closed : Bool → Log
closed b = record { stops = []; broken = b }

abbrev pub with_stop : ℕ → Log → Log
with_stop v l = record { stops = v ∷ l.stops; broken = l.broken }

-- What a step found, and after a stop the log that `rest` reads from the cursor handed back.
abbrev pub and_rest : LogStep → (LogCursor → Log) → Log
and_rest (Ok (Some (v, c))) rest = with_stop v (rest c)
and_rest (Ok None) rest = closed false
and_rest (Err e) rest = closed true

-- The log read in at most n steps. `log_from` never uses them up, by the law `log-step` of proofs/Steps.antt.
unfoldable pub steps : ℕ → List ℕ → ℕ → LogCursor → Log
steps zero s v c = closed false
steps (suc n) s v c = and_rest (stop_at s v c) (steps n s v)

-- One step more than bytes are left is enough, since a record has four bytes.
unfoldable pub log_from : List ℕ → ℕ → LogCursor → Log
log_from s v c = steps (suc (length s - c.at)) s v c

abbrev pub log_of : List ℕ → ℕ → Log
log_of s v = log_from s v (cursor_at 0)
