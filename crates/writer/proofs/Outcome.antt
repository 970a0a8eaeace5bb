-- `Writes`, the promise of both operations, by the shape of a call.
--
--   refused-writes == `Writes` where the call is refused: writer and buffer are unchanged
--   record-writes  == `Writes` where the call is not refused: the record is written, and the writer is past it
use Prim.Native.Nat.{ℕ, ◌+◌}
use mathlib.Core.Path.{◌≡◌, ap, ◌∙◌}
use mathlib.Core.List.{List}
use lib.ListN.{length}
use Rattle.std.specs.Prelude.{Ok, Err}
use Rattle.floor.specs.declared.Refusal.{Refusal}
use Rattle.records.specs.Known.{Written}
use Rattle.writer.specs.Writing.{Call, call_bytes, call_shape, Writes}
use Rattle.writer.specs.Known.{past_record}
use Rattle.writer.specs.declared.Writer.{Writer}
use Rattle.writer.specs.declared.AfterWrite.{AfterWrite}

module _ (c : Writer) (x : Call) (buf : List ℕ) where
  pub refused-writes : {why : Refusal} {r : AfterWrite} → call_shape c x (length buf) ≡ Err why
      → r.writer ≡ c → r.answer ≡ Err why → Writes c x buf r buf
  refused-writes e p q = record { answer = rw e q; writer = rw e p; left = rw e }

  pub record-writes : {buf' : List ℕ} {next : ℕ} {r : AfterWrite} → call_shape c x (length buf) ≡ Ok tt
      → Written buf c.at (call_bytes x) buf' next → r ≡ past_record c next → Writes c x buf r buf'
  record-writes {buf'} {next} {r} e w p = record {
    answer = rw e (ap (λ r. r.answer) p);
    writer = rw e (ap (λ r. r.writer) p ∙ ap (λ (k : ℕ). record { at = k; due = c.due + 1 }) w.place);
    left = rw e w.holds;
  }
