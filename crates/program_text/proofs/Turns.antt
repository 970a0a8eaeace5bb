-- One turn of the program, by the record at its cursor: its text and the text from the cursor that it answers are the
-- text from its cursor on. That holds for any input t with the same record there.
use Prim.Native.Nat.{ℕ, ◌≤◌}
use mathlib.Core.Path.{◌≡◌, sym, ap, ◌∙◌}
use mathlib.Core.List.{List, ◌++◌}
use native.Mathlib.Omega.{arith}
use Rattle.records.specs.Format.{gives_map, gives_job, gives_end, gives_bad, record_at}
use Rattle.records.specs.Lines.{bad_line}
use Rattle.records.specs.Known.{Written}
use Rattle.records.specs.declared.stream.Cursor.{Cursor}
use Rattle.records.specs.declared.stream.MapRecord.{MapRecord}
use Rattle.records.specs.declared.stream.JobRecord.{JobRecord}
use Rattle.records.proofs.Moved.{map-step, job-step}
use Rattle.records.proofs.Limit.{reached-job}
use Rattle.std.specs.Prelude.{Option, Some, None}
use Rattle.program_text.specs.declared.Turn.{Turn}
use Rattle.program_text.specs.Contract.{text_from, JobWritten, TurnWritten}
use Rattle.program_text.proofs.Start.{written-take, written-within}
use Rattle.program_text.proofs.Program.{text-job, text-end, text-bad}

abbrev turn : ℕ → Option Cursor → Turn
turn n o = record { bytes = n; next = o }

module _ {s : List ℕ} {w h : ℕ} {map : List ℕ} {c : Cursor} where
  pub turn-job : {j : JobRecord} {d : Cursor} {kept kept' out out' : List ℕ} {n : ℕ}
      → record_at s c ≡ gives_job j d → JobWritten w h map j kept out n kept' out' → TurnWritten s w h map c (turn n (Some d)) out'
  turn-job {j} {d} e told =
      let f = job-step s c j d e in
      record {
        text = λ t same.
            ap (λ l. l ++ text_from t w h map d) told.text ∙ sym (text-job t w h map c j d (same ∙ e));
        fits = written-within told.written;
        on = record { moved = (f.moved.on, f.moved.within, omega (arith, f.moved.next), reached-job s c j d e) };
      }

  pub turn-bad : {p : ℕ} {out out' : List ℕ} {n : ℕ} → record_at s c ≡ gives_bad p → Written out 0 (bad_line p) out' n
      → TurnWritten s w h map c (turn n None) out'
  turn-bad {p} e t = record {
    text = λ u same. written-take t ∙ sym (text-bad u w h map c p (same ∙ e));
    fits = written-within t;
    on = record { moved = omega arith };
  }

  pub turn_end : (out : List ℕ) → record_at s c ≡ gives_end → TurnWritten s w h map c (turn 0 None) out
  turn_end out e = record {
    text = λ t same. sym (text-end t w h map c (same ∙ e));
    fits = omega arith;
    on = record { moved = omega arith };
  }

  -- A map is found only where the first record is due.
  pub turn-map : (out : List ℕ) {m : MapRecord} {d : Cursor} → 1 ≤ c.due → record_at s c ≡ gives_map m d
      → TurnWritten s w h map c (turn 0 None) out
  turn-map out {m} {d} l e = absurd (omega (arith, (map-step s c m d e).due))
