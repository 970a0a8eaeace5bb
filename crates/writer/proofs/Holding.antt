-- A buffer that has the records of some calls at its start.
--
--   bytes_of xs    == the bytes of the records of the calls xs, one after the other
--   holding buf xs == the state in which the buffer buf has the records of the calls xs at its start and is unchanged
--                     after them
use Prim.Native.Nat.{ℕ}
use mathlib.Core.List.{List, [], ◌∷◌, ◌++◌}
use lib.ListN.{length, drop}
use Rattle.writer.specs.Writing.{Call, call_bytes}
use Rattle.writer.specs.Calls.{State}

unfoldable pub bytes_of : List Call → List ℕ
bytes_of [] = []
bytes_of (x ∷ xs) = call_bytes x ++ bytes_of xs

abbrev pub holding : List ℕ → List Call → State
holding buf xs = record {
  writer = record { at = length (bytes_of xs); due = length xs };
  buffer = bytes_of xs ++ drop (length (bytes_of xs)) buf;
}
