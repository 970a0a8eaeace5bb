-- Used by contracts between functions; nobody has to believe it: laws tie it to the definitions.
-- What the functions of the writer require and leave.
--
--   MapFits w h l at buf == the floor of width w and height h with the map l is good for a map record, and the record
--                           fits whole in the buffer from place `at` on
--   cell_byte l c        == the byte of cell c of the map l: 0 open, 1 blocked
--   past_record c next   == the answer of a call that wrote a record: the writer c past that record, which ends before
--                           place `next`
use Rattle.std.specs.Prelude.{ℕ, ◌+◌, ◌*◌, ◌≤◌, ◌≡◌, List, length, Ok}
use Rattle.basics.specs.Bounded.{pick}
use Rattle.floor.specs.Floor.{bit_at}
use Rattle.writer.specs.Writing.{map_shape}
use Rattle.writer.specs.declared.Writer.{Writer}
use Rattle.writer.specs.declared.AfterWrite.{AfterWrite}

pub record MapFits (w h : ℕ) (l : List ℕ) (at : ℕ) (buf : List ℕ) : Type 0 where
  pub good : map_shape w h l ≡ Ok tt
  pub room : at + (4 + w * h) ≤ length buf

abbrev pub cell_byte : List ℕ → ℕ → ℕ
cell_byte l c = pick (bit_at l c) 1 0

abbrev pub past_record : Writer → ℕ → AfterWrite
past_record c next = record { writer = record { at = next; due = c.due + 1 }; answer = Ok tt }
