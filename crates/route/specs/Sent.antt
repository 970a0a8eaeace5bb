-- What of the program's text is written and what is still to be written, while p is what is read of the input.
--
--   Input p over s         == s may be the whole input: it begins with p, and is p where the input is over
--   Sure p over c          == what stands at the cursor c of p stands there in the whole input
--   Left text k rest       == k bytes of the text are written, and `rest` is still to be written
--   Next p over k part     == the bytes `part` stand at place k of the program's text, whatever the whole input is
--   Due p over w h map c k == k bytes are written, and the text from the cursor c on is still to be written, whatever
--                             the whole input is
--   AllSent p over k       == the program's text has k bytes, whatever the whole input is
--   turn_room              == the bytes that the text of one turn may take
--   most_sent              == no more bytes are written than that: turn_room * (longest + 1)
--   GoesOn .. c k o        == k bytes are written, and more is due from the cursor o on, which is later than c; all is
--                             written where there is none
--   SentTurn .. c r        == after the turn at the cursor c: more is due from a later cursor on, all is written, or a
--                             part could not be written
use Rattle.std.specs.Prelude.{ℕ, ◌+◌, ◌*◌, ◌≤◌, ◌<◌, ◌≡◌, Bool, true, List, [], ◌++◌, length, take, drop}
use Rattle.std.specs.Prelude.{Result, Ok, Err, Option, Some, None}
use Rattle.records.specs.Format.{record_at}
use Rattle.records.specs.Settled.{longest, Reached}
use Rattle.records.specs.declared.stream.Cursor.{Cursor}
use Rattle.program_text.specs.Text.{program_text}
use Rattle.program_text.specs.Contract.{text_from}
use Rattle.route.specs.declared.Sent.{Sent}
use Rattle.route.specs.declared.Cut.{Cut}

pub record Input (p : List ℕ) (over : Bool) (s : List ℕ) : Type 0 where
  pub rest : List ℕ
  pub begins : s ≡ p ++ rest
  pub none : over ≡ true → rest ≡ []

pub record Sure (p : List ℕ) (over : Bool) (c : Cursor) : Type 0 where
  pub same : (s : List ℕ) → Input p over s → record_at s c ≡ record_at p c

pub record Left (text : List ℕ) (k : ℕ) (rest : List ℕ) : Type 0 where
  pub from : drop k text ≡ rest
  pub size : k + length rest ≡ length text

abbrev pub turn_room : ℕ
turn_room = 6307

abbrev pub most_sent : ℕ
most_sent = 50247869

pub record Next (p : List ℕ) (over : Bool) (k : ℕ) (part : List ℕ) : Type 0 where
  pub stands : (s : List ℕ) → Input p over s → take (length part) (drop k (program_text s)) ≡ part
  pub few : k + length part ≤ most_sent

pub record Due (p : List ℕ) (over : Bool) (w h : ℕ) (map : List ℕ) (c : Cursor) (k : ℕ) : Type 0 where
  pub left : (s : List ℕ) → Input p over s → Left (program_text s) k (text_from s w h map c)
  pub job : 1 ≤ c.due
  pub reached : Reached c
  pub place : c.at ≤ length p
  pub short : length p ≤ longest
  pub few : k ≤ turn_room * c.at

pub record AllSent (p : List ℕ) (over : Bool) (k : ℕ) : Type 0 where
  pub all : (s : List ℕ) → Input p over s → k ≡ length (program_text s)

abbrev pub GoesOn : List ℕ → Bool → ℕ → ℕ → List ℕ → Cursor → ℕ → Option Cursor → Type 0
GoesOn p over w h map c k (Some d) = (c.at < d.at) × Due p over w h map d k
GoesOn p over w h map c k None = AllSent p over k

abbrev pub Follows : List ℕ → Bool → ℕ → ℕ → List ℕ → Cursor → Result Sent Cut → Type 0
Follows p over w h map c (Ok t) = GoesOn p over w h map c t.written t.next
Follows p over w h map c (Err e) = 0 ≤ 0

pub record SentTurn (p : List ℕ) (over : Bool) (w h : ℕ) (map : List ℕ) (c : Cursor) (r : Result Sent Cut) : Type 0 where
  pub follows : Follows p over w h map c r
