-- Reading the bytes of records gives back their map and jobs.
--
--   read-jobs      == the bytes of job records, after any other bytes, are read as these jobs
--   read-records   == the bytes of a map record and of job records are read as this map and these jobs
--   cells-read     == the cells of the map that is read are those of the record
use Prim.Native.Nat.{ℕ, suc, ◌+◌, ◌*◌, ◌/◌, ◌%◌, ◌≤◌, ◌<◌}
use mathlib.Core.Path.{◌≡◌, refl, sym, ap, ◌∙◌}
use mathlib.Core.Bool.{true}
use mathlib.Core.List.{List, [], ◌∷◌, ◌++◌, append_assoc, append-nil}
use mathlib.Core.Option.{none}
use native.Mathlib.Omega.{arith}
use borrow.Author.Tests.{eq-eqb, le-leb}
use lib.Dec.{eqb}
use lib.ListN.{length, get_or, length-append, get_or-append}
use lib.Seq.{get_or-append-add, get_or-append_seam, take_at}
use Rattle.basics.proofs.Bools.{and_intro}
use Rattle.basics.proofs.Bounded.{every-all}
use Rattle.records.specs.Format.{word_at, map_side, cell_byte, job_in, past_job, start_cursor}
use Rattle.records.specs.Format.{found, cells_of, Stream, with_map, with_job, stream_from, stream_of}
use Rattle.records.specs.declared.stream.Cursor.{Cursor}
use Rattle.records.proofs.Found.{GoodMap, GoodJob, map_found, job-found, map-due, input-ends, job-due}
use Rattle.records.proofs.Streams.{stream-first, stream-map, stream-job, stream_end}
use Rattle.writer.specs.Records.{Job, map_bytes, job_bytes}
use Rattle.writer.specs.Calls.{job_calls, numbered_job, numbered, map_read, stream_read}
use Rattle.writer.proofs.Holding.{bytes_of}

abbrev cursor : ℕ → ℕ → Cursor
cursor p k = record { at = p; due = k }

-- ---- a job record, after the bytes P and before the bytes R

module _ (P : List ℕ) (j : Job) (R : List ℕ) where
  abbrev s : List ℕ
  s = P ++ (job_bytes j ++ R)

  -- Byte n of the record, at the place q.
  byte : (q n : ℕ) → q ≡ length P + n → get_or s q 0 ≡ get_or (job_bytes j ++ R) n 0
  byte q n e = rw e (get_or-append-add P (job_bytes j ++ R) n 0)

  long : length s ≡ length P + (7 + length R)
  long = omega (arith, length-append P (job_bytes j ++ R))

  job-there : GoodJob s (length P)
  job-there = record {
    mark = and_intro (eqb (get_or s (length P) 0) 0x4A) _ (eq-eqb _ 0x4A (get_or-append_seam P 0x4A _ 0))
        (eq-eqb _ 0x42 (byte (length P + 1) 1 refl));
    whole = omega (arith, long);
  }

  -- The number at place q, from its low byte and its high byte.
  word : (q n x : ℕ) → q ≡ length P + n → get_or (job_bytes j ++ R) n 0 ≡ x % 256
      → get_or (job_bytes j ++ R) (n + 1) 0 ≡ x / 256 → word_at s q ≡ x
  word q n x e low high = omega (arith, byte q n e, byte (q + 1) (n + 1) (omega arith))

  job_is : (k : ℕ) → job_in s (length P) k ≡ numbered_job k j
  job_is k =
      rw (
        byte (length P + 2) 2 refl,
        word (length P + 3) 3 j.start refl refl refl,
        word (length P + 5) 5 j.end refl refl refl,
      )

  job-step : (k : ℕ) → 1 ≤ k → k ≤ 1000
      → stream_from s (cursor (length P) k) ≡ with_job (numbered_job k j) (stream_from s (cursor (length P + 7) (k + 1)))
  job-step k lo hi =
      let c = cursor (length P) k in
      let due = job-due s c (λ z. omega arith) (omega (arith, long)) hi in
      let step = sym due ∙ sym (ap found (job-found s (length P) k job-there)) in
      stream-job s c (job_in s (length P) k) (past_job (length P) k) step
      ∙ ap (λ x. with_job x (stream_from s (past_job (length P) k))) (job_is k)

abbrev jobs_read : ℕ → List Job → Stream
jobs_read k js = record { map = none; jobs = numbered k js; bad = none }

pub read-jobs : (P : List ℕ) (js : List Job) (p k : ℕ) → p ≡ length P → 1 ≤ k → k + length js ≤ 1001
    → stream_from (P ++ bytes_of (job_calls js)) (cursor p k) ≡ jobs_read k js
unfolding bytes_of numbered
read-jobs P [] p k e lo hi =
    let short : length (P ++ []) ≡ length P = ap length (append-nil P) in
    stream_end (P ++ []) (cursor p k)
    (sym (input-ends (P ++ []) (cursor p k) (λ z. omega arith) (omega arith)))
read-jobs P (j ∷ js) p k e lo hi =
    let R = bytes_of (job_calls js) in
    let Q = P ++ job_bytes j in
    let size = length-append P (job_bytes j) in
    let more = read-jobs Q js (length P + 7) (k + 1) (omega arith) (omega arith) (omega arith) in
    let next : k + 1 ≡ suc k = omega arith in
    ap (λ x. stream_from (P ++ (job_bytes j ++ R)) (cursor x k)) e
    ∙ job-step P j R k lo (omega arith)
    ∙ ap (with_job (numbered_job k j))
    (ap (λ l. stream_from l (cursor (length P + 7) (k + 1))) (sym (append_assoc P (job_bytes j) R))
    ∙ more ∙ ap (λ x. jobs_read x js) next)

-- ---- a map record, before the bytes R

module _ (w h : ℕ) (cells R : List ℕ) (size : length cells ≡ w * h) where
  abbrev m : List ℕ
  m = map_bytes w h cells ++ R

  pub cells-read : cells_of m (map_read w h) ≡ cells
  cells-read = take_at cells R (w * h) size

  module _ (wide : map_side w ≡ true) (high : map_side h ≡ true)
      (bytes : (c : ℕ) → c < length cells → get_or cells c 0 ≤ 1) where
    cell-is : (k : ℕ) → k < w * h → get_or m (4 + k) 0 ≡ get_or cells k 0
    cell-is k l =
        get_or-append (map_bytes w h cells) R 0 (4 + k) (omega arith)
        ∙ get_or-append-add (0x4D ∷ 0x50 ∷ w ∷ h ∷ []) cells k 0

    map-there : GoodMap m 0
    map-there = record {
      mark = refl;
      wide = wide;
      high = high;
      whole = omega (arith, length-append (map_bytes w h cells) R);
      cells = every-all (w * h) (cell_byte m 4) (λ k l.
          le-leb (get_or m (4 + k) 0) 1 (omega (arith, cell-is k l, bytes k (omega arith))));
    }

    map-step : stream_of m ≡ with_map (map_read w h) (stream_from m (cursor (4 + w * h) 1))
    map-step =
        let there = map_found m 0 {w = w} {h = h} refl refl map-there in
        stream-first m ∙ stream-map m start_cursor _ _ (sym (map-due m start_cursor refl) ∙ sym (ap found there))

pub read-records : (w h : ℕ) (cells : List ℕ) (js : List Job) → length cells ≡ w * h
    → map_side w ≡ true → map_side h ≡ true → ((c : ℕ) → c < length cells → get_or cells c 0 ≤ 1) → length js ≤ 1000
    → stream_of (map_bytes w h cells ++ bytes_of (job_calls js)) ≡ stream_read w h js
read-records w h cells js size wide high bytes few =
    map-step w h cells (bytes_of (job_calls js)) size wide high bytes
    ∙ ap (with_map (map_read w h))
    (read-jobs (map_bytes w h cells) js (4 + w * h) 1 (omega arith) (omega arith) (omega arith))
