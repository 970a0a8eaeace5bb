-- What the program writes, record by record.
--
--   text-job, text-end, text-bad == `text_from` at a cursor past the map, by the record there
--   program-map, program-bad     == `program_text` where the first record is a map, and where it is bad
--   program-limit                == program_text s = program_text (take longest s): only the first 7,966 bytes matter
use Prim.Native.Nat.{ℕ}
use mathlib.Core.Path.{◌≡◌, refl, ap, ◌∙◌}
use mathlib.Core.List.{List, [], ◌++◌, append_assoc}
use mathlib.Core.Option.{some, none}
use native.Mathlib.Omega.{arith}
use lib.ListN.{take}
use Rattle.floor.specs.Floor.{stored_cells}
use Rattle.records.specs.Format.{Step, gives_map, gives_job, gives_end, gives_bad, Stream, record_at, start_cursor, cells_of, stream_from, stream_of}
use Rattle.records.specs.Lines.{bad_line}
use Rattle.records.specs.Settled.{longest}
use Rattle.records.specs.declared.stream.Cursor.{Cursor}
use Rattle.records.specs.declared.stream.MapRecord.{MapRecord}
use Rattle.records.specs.declared.stream.JobRecord.{JobRecord}
use Rattle.records.specs.declared.stream.Record.TheVariants.{Map, Job}
use Rattle.std.specs.Prelude.{Ok, Err, Some, None}
use Rattle.records.proofs.Streams.{stream-first, stream-map, stream-job, stream_end, stream-bad}
use Rattle.records.proofs.Moved.{job-step}
use Rattle.records.proofs.Limit.{stream-limit, cells-limit}
use Rattle.program_text.specs.Text.{job_text, jobs_text, bad_text, rest_text, floor_text, program_text}
use Rattle.program_text.specs.Contract.{text_from}

module _ (s : List ℕ) (w h : ℕ) (map : List ℕ) (c : Cursor) where
  pub text-job : (j : JobRecord) (d : Cursor) → record_at s c ≡ gives_job j d
      → text_from s w h map c ≡ job_text w h map j ++ text_from s w h map d
  unfolding text_from rest_text jobs_text
  text-job j d e =
      ap (rest_text w h map) (stream-job s c j d e)
      ∙ append_assoc (job_text w h map j) (jobs_text w h map (stream_from s d).jobs) (bad_text (stream_from s d).bad)

  pub text-end : record_at s c ≡ gives_end → text_from s w h map c ≡ []
  unfolding text_from rest_text jobs_text
  text-end e = ap (rest_text w h map) (stream_end s c e)

  pub text-bad : (p : ℕ) → record_at s c ≡ gives_bad p → text_from s w h map c ≡ bad_line p
  unfolding text_from rest_text jobs_text
  text-bad p e = ap (rest_text w h map) (stream-bad s c p e)

module _ (s : List ℕ) where
  pub program-map : (m : MapRecord) (d : Cursor) → record_at s start_cursor ≡ gives_map m d
      → program_text s ≡ text_from s m.wide m.high (stored_cells (cells_of s m)) d
  unfolding program_text text_from rest_text
  program-map m d e = ap (λ t. floor_text s t.map t) (stream-first s ∙ stream-map s start_cursor m d e)

  pub program-bad : (p : ℕ) → record_at s start_cursor ≡ gives_bad p → program_text s ≡ bad_line p
  unfolding program_text
  program-bad p e = ap (λ t. floor_text s t.map t) (stream-first s ∙ stream-bad s start_cursor p e)

  pub program-limit : program_text s ≡ program_text (take longest s)
  unfolding program_text rest_text
  program-limit = cells (record_at s start_cursor) refl ∙ ap (λ t. floor_text (take longest s) t.map t) (stream-limit s)
    where
      cells : (r : Step) → record_at s start_cursor ≡ r
          → floor_text s (stream_of s).map (stream_of s) ≡ floor_text (take longest s) (stream_of s).map (stream_of s)
      cells (Ok (Some (Map m, d))) e =
          let same : (stream_of s).map ≡ some m =
          ap (λ (t : Stream). t.map) (stream-first s ∙ stream-map s start_cursor m d e) in
          rw same (ap (λ l. rest_text m.wide m.high (stored_cells l) (stream_of s)) (cells-limit s m d e))
      cells (Ok (Some (Job j, d))) e =
          let f = job-step s start_cursor j d e in
          absurd (omega (arith, f.number, f.number_pos))
      cells (Ok None) e =
          let same : (stream_of s).map ≡ none =
          ap (λ (t : Stream). t.map) (stream-first s ∙ stream_end s start_cursor e) in
          rw same
      cells (Err b) e =
          let same : (stream_of s).map ≡ none =
          ap (λ (t : Stream). t.map) (stream-first s ∙ stream-bad s start_cursor b.at e) in
          rw same
