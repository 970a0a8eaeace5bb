-- The writer in the C interface: the answer of a call as a number, with the writer afterwards beside it.
--
--   write_result c x n == what the call x, of the writer c on a buffer of n bytes, answers
--   WritesRecordTo ..  == the statement of writing a record: the answer r, and the buffer afterwards
use Rattle.std.specs.Prelude.{ℕ, ◌≡◌, List, length}
use Rattle.floor.specs.Refusals.{answer_number}
use Rattle.writer.specs.Writing.{Call, call_shape, writer_left, buffer_left}
use Rattle.writer.specs.declared.Writer.{Writer}
use Rattle.capi.specs.declared.writing.WriteResult.{WriteResult}

abbrev pub write_result : Writer → Call → ℕ → WriteResult
write_result c x n = record { writer = writer_left c x n; answer = answer_number (call_shape c x n) }

pub record WritesRecordTo (c : Writer) (x : Call) (buf : List ℕ) (r : WriteResult) (buf' : List ℕ) : Type 0 where
  pub answer : r ≡ write_result c x (length buf)
  pub left : buf' ≡ buffer_left c x buf
