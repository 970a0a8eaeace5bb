-- The stream is what the steps find: the bound on their number in its definition is never met.
--
--   stream-step   == stream_from s c = and_rest (record_at s c) (stream_from s)
--   stream-map, stream-job, stream_end, stream-bad == `stream-step` for each kind of record
use Prim.Native.Nat.{ℕ, suc, ◌+◌, ◌-◌}
use mathlib.Core.Path.{◌≡◌, refl, ap, ◌∙◌}
use mathlib.Core.List.{List}
use native.Mathlib.Omega.{arith}
use Rattle.records.specs.Format.{map_in, past_map, job_in, past_job, record_at, start_cursor}
use Rattle.records.specs.Format.{Step, gives_map, gives_job, gives_end, gives_bad}
use Rattle.records.specs.Format.{ended, bad_at, with_map, with_job, and_rest, steps, stream_from, stream_of}
use Rattle.records.specs.declared.stream.Cursor.{Cursor}
use Rattle.records.specs.declared.stream.MapRecord.{MapRecord}
use Rattle.records.specs.declared.stream.JobRecord.{JobRecord}
use Rattle.records.proofs.Found.{Finding, found_map, no-map, at-end, found-job, no-job, finding}

pub stream-first : (s : List ℕ) → stream_of s ≡ stream_from s start_cursor
unfolding stream_of
stream-first s = refl

pub stream-step : (s : List ℕ) (c : Cursor) → stream_from s c ≡ and_rest (record_at s c) (stream_from s)
unfolding stream_from steps
stream-step s c = cases (record_at s c) (finding s c)
  where
    cases : (r : Step) → Finding s c r
        → and_rest r (steps (1001 - c.due) s) ≡ and_rest r (λ d. steps (suc (1001 - d.due)) s d)
    cases _ (found_map z g) =
        let e : 1001 - c.due ≡ suc (1001 - 1) = omega arith in
        ap (λ n. with_map (map_in s c.at) (steps n s (past_map s c.at))) e
    cases _ (no-map z g) = refl
    cases _ (at-end a l) = refl
    cases _ (found-job a b g) =
        let e : 1001 - c.due ≡ suc (1001 - (c.due + 1)) = omega arith in
        ap (λ n. with_job (job_in s c.at c.due) (steps n s (past_job c.at c.due))) e
    cases _ (no-job a l g) = refl

module _ (s : List ℕ) (c : Cursor) where
  pub stream-map : (m : MapRecord) (d : Cursor) → record_at s c ≡ gives_map m d → stream_from s c ≡ with_map m (stream_from s d)
  stream-map m d e = stream-step s c ∙ ap (λ r. and_rest r (stream_from s)) e

  pub stream-job : (j : JobRecord) (d : Cursor) → record_at s c ≡ gives_job j d → stream_from s c ≡ with_job j (stream_from s d)
  stream-job j d e = stream-step s c ∙ ap (λ r. and_rest r (stream_from s)) e

  pub stream_end : record_at s c ≡ gives_end → stream_from s c ≡ ended
  stream_end e = stream-step s c ∙ ap (λ r. and_rest r (stream_from s)) e

  pub stream-bad : (p : ℕ) → record_at s c ≡ gives_bad p → stream_from s c ≡ bad_at p
  stream-bad p e = stream-step s c ∙ ap (λ r. and_rest r (stream_from s)) e
