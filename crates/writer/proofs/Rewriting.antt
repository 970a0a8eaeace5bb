-- The records of the calls that `calls_read` makes of a stream have the bytes of the stream, up to a bad record or to
-- its end.
--
--   Rest k p t     == from place p on, where job k is due and t is read: the records of the jobs of t have the bytes of
--                     the stream up to where t ends
--   ReadCalls T e  == the calls T are `Ordered`, their numbers have the widths that the operations take, and their
--                     records have the bytes of the stream up to place e
--   read-calls     == `ReadCalls (calls_read s) (read_end s)`, where s is bytes
use Prim.Native.Nat.{ℕ, zero, suc, ◌+◌, ◌*◌, ◌/◌, ◌%◌, ◌≤◌, ◌<◌}
use mathlib.Core.Path.{◌≡◌, refl, sym, ap, ap₂, ◌∙◌}
use mathlib.Core.Logic.{⊎_elim}
use mathlib.Core.Bool.{true}
use mathlib.Core.List.{List, ◌∷◌, ◌++◌, append_assoc, map}
use mathlib.Core.List.Memᴰ
use mathlib.Core.List.{Memᴰ}
use native.Mathlib.Omega.{arith}
use borrow.Author.Tests.{eqb-true, leb-true}
use lib.Dec.{eqb}
use lib.ListN.{length, get_or, take, drop, length-append, length-drop, length-map, take-append-drop}
use lib.Seq.{drop-cons, drop-drop, take_at, get_or-take, get_or-drop, length-take-le}
use Rattle.basics.proofs.Bools.{and_both}
use Rattle.basics.proofs.Bounded.{every-at}
use Rattle.floor.specs.Floor.{stored_cells}
use Rattle.std.specs.Prelude.{Ok}
use Rattle.floor.proofs.Packed.{Bytes}
use Rattle.floor.proofs.Shapes.{sides-good}
use Rattle.floor.proofs.Stored.{stored-good, stored-read}
use Rattle.records.specs.Format.{word_at, marked_at, wide_at, high_at, cell_byte, map_in, past_map, job_in, past_job, record_at}
use Rattle.records.specs.Format.{start_cursor, cells_of, Stream, stream_from}
use Rattle.records.specs.declared.stream.Cursor.{Cursor}
use Rattle.records.specs.Format.{Step}
use Rattle.records.proofs.Found.{GoodMap, GoodJob, side-pos, side-le}
use Rattle.records.proofs.Found.{Finding, found_map, no-map, at-end, found-job, no-job, finding}
use Rattle.records.proofs.Streams.{stream-first, stream-map, stream-job, stream_end, stream-bad}
use Rattle.writer.specs.Records.{map_bytes, job_bytes}
use Rattle.writer.specs.Writing.{Call, put_map, put_job, call_bytes, map_shape}
use Rattle.writer.specs.Calls.{job_calls, bare_job, end_in, read_end, calls_read, Given}
use Rattle.writer.proofs.Holding.{bytes_of}
use Rattle.writer.proofs.Shapes.{map-good}
use Rattle.writer.proofs.Cells.{stored_bytes}
use Rattle.writer.proofs.Calls.{Ordered, none_made, map_first}

-- The two bytes of a 16-bit number.
low_byte : (x y : ℕ) → x < 256 → x ≡ (x + 256 * y) % 256
low_byte x y l = omega arith

high_byte : (x y : ℕ) → x < 256 → y ≡ (x + 256 * y) / 256
high_byte x y l = omega arith

-- The jobs of a stream, as calls.
abbrev jobs_in : Stream → List Call
jobs_in t = job_calls (map bare_job t.jobs)

module _ (s : List ℕ) where
  -- The bytes from place p on: the first, or the first two, and the others.
  split_one : (p q : ℕ) → p < length s → q ≡ p + 1 → drop p s ≡ get_or s p 0 ∷ drop q s
  split_one p q l e = let n : q ≡ suc p = omega arith in rw n (drop-cons s p 0 l)

  split-two : (p q : ℕ) → p + 2 ≤ length s → q ≡ p + 2 → drop p s ≡ get_or s p 0 ∷ get_or s (p + 1) 0 ∷ drop q s
  split-two p q l e =
      split_one p (p + 1) (omega arith) refl
      ∙ ap (λ l. get_or s p 0 ∷ l) (split_one (p + 1) q (omega arith) (omega arith))

  mark-bytes : (p a b : ℕ) → p + 2 ≤ length s → marked_at s p a b ≡ true → drop p s ≡ a ∷ b ∷ drop (p + 2) s
  mark-bytes p a b l e =
      let m = and_both (eqb (get_or s p 0) a) (eqb (get_or s (p + 1) 0) b) e in
      split-two p (p + 2) l refl
      ∙ ap₂ (λ x y. x ∷ y ∷ drop (p + 2) s) (eqb-true (get_or s p 0) a m.0) (eqb-true (get_or s (p + 1) 0) b m.1)

  word_bytes : (p q : ℕ) → Bytes s → p + 2 ≤ length s → q ≡ p + 2
      → drop p s ≡ word_at s p % 256 ∷ word_at s p / 256 ∷ drop q s
  word_bytes p q small l e =
      split-two p q l e
      ∙ ap₂ (λ x y. x ∷ y ∷ drop q s) (low_byte (get_or s p 0) (get_or s (p + 1) 0) (small p))
      (high_byte (get_or s p 0) (get_or s (p + 1) 0) (small p))

  module _ (small : Bytes s) where
    -- ---- jobs

    job-bytes : (p k : ℕ) → GoodJob s p → drop p s ≡ job_bytes (bare_job (job_in s p k)) ++ drop (p + 7) s
    job-bytes p k g =
        let w = g.whole in
        mark-bytes p 0x4A 0x42 (omega arith) g.mark
        ∙ ap (λ l. 0x4A ∷ 0x42 ∷ l) (split_one (p + 2) (p + 3) (omega arith) (omega arith)
        ∙ ap (λ l. get_or s (p + 2) 0 ∷ l) (word_bytes (p + 3) (p + 5) small (omega arith) (omega arith)
        ∙ ap (λ l. word_at s (p + 3) % 256 ∷ word_at s (p + 3) / 256 ∷ l)
        (word_bytes (p + 5) (p + 7) small (omega arith) (omega arith))))

    job-given : (p k : ℕ) → Given (put_job (bare_job (job_in s p k)))
    job-given p k = (
      small (p + 2),
      omega (arith, small (p + 3), small (p + 3 + 1)),
      omega (arith, small (p + 5), small (p + 5 + 1)),
    )

    pub record Rest (k p : ℕ) (t : Stream) : Type 0 where
      pub bytes : drop p s ≡ bytes_of (jobs_in t) ++ drop (end_in s t.bad) s
      pub within : end_in s t.bad ≤ length s
      pub few : k + length t.jobs ≤ 1001
      pub given : (x : Call) → Memᴰ x (jobs_in t) → Given x

    -- `Rest` at one cursor, from `Rest` at the cursor past the record there.
    rest-step : (c : Cursor) → 1 ≤ c.due → c.due ≤ 1001 → c.at ≤ length s
        → ((d : Cursor) → c.due ≤ 1000 → d.due ≡ c.due + 1 → d.at ≤ length s
        → Rest d.due d.at (stream_from s d))
        → Rest c.due c.at (stream_from s c)
    unfolding bytes_of
    rest-step c lo hi inside below = cases (record_at s c) (finding s c) refl
      where
        cases : (r : Step) → Finding s c r → record_at s c ≡ r → Rest c.due c.at (stream_from s c)
        cases _ (found_map z g) e = absurd (omega arith)
        cases _ (no-map z g) e = absurd (omega arith)
        cases _ (at-end l h) e = rw (stream_end s c e) record {
          bytes = let q : c.at ≡ length s = omega arith in ap (λ k. drop k s) q;
          within = omega arith;
          few = omega arith;
          given = λ x m. absurd (Memᴰ.not-nil m);
        }
        cases _ (no-job l h g) e = rw (stream-bad s c c.at e) record {
          bytes = refl;
          within = inside;
          few = omega arith;
          given = λ x m. absurd (Memᴰ.not-nil m);
        }
        cases _ (found-job l h g) e =
            let d = past_job c.at c.due in
            let t = stream_from s d in
            let more = below d h refl g.whole in
            let j = job_in s c.at c.due in
            rw (stream-job s c j d e) record {
              bytes =
                  job-bytes c.at c.due g ∙ ap (λ l. job_bytes (bare_job j) ++ l) more.bytes
                  ∙ sym (append_assoc (job_bytes (bare_job j)) (bytes_of (jobs_in t)) (drop (end_in s t.bad) s));
              within = more.within;
              few = omega (arith, more.few);
              given = λ x m. ⊎_elim (λ q. rw q (job-given c.at c.due)) (more.given x) (Memᴰ.cases_cons m);
            }

    rest_from : (n : ℕ) (c : Cursor) → 1001 ≤ n + c.due → 1 ≤ c.due → c.due ≤ 1001 → c.at ≤ length s
        → Rest c.due c.at (stream_from s c)
    rest_from zero c fuel lo hi inside = rest-step c lo hi inside (λ d h e i. absurd (omega arith))
    rest_from (suc n) c fuel lo hi inside =
        rest-step c lo hi inside (λ d h e i. rest_from n d (omega arith) (omega arith) (omega arith) i)

    -- ---- the map, and the whole stream

    map-bytes : GoodMap s 0
        → s ≡ map_bytes (wide_at s 0) (high_at s 0) (cells_of s (map_in s 0)) ++ drop (4 + wide_at s 0 * high_at s 0) s
    map-bytes g =
        let n = wide_at s 0 * high_at s 0 in
        let w = g.whole in
        mark-bytes 0 0x4D 0x50 (omega arith) g.mark
        ∙ ap (λ l. 0x4D ∷ 0x50 ∷ l) (split-two 2 4 (omega arith) refl
        ∙ ap (λ l. wide_at s 0 ∷ high_at s 0 ∷ l)
        (sym (take-append-drop n (drop 4 s)) ∙ ap (λ l. take n (drop 4 s) ++ l) (drop-drop n 4 s)))

    -- The cells that are read, stored.
    module _ (g : GoodMap s 0) where
      abbrev cells : List ℕ
      cells = cells_of s (map_in s 0)

      cells-size : length cells ≡ wide_at s 0 * high_at s 0
      cells-size =
          length-take-le (wide_at s 0 * high_at s 0) (drop 4 s) (omega (arith, length-drop 4 s, g.whole))

      cells-bits : (c : ℕ) → c < length cells → get_or cells c 0 ≤ 1
      cells-bits c l =
          let n = wide_at s 0 * high_at s 0 in
          let i : c < n = omega (arith, cells-size) in
          rw (get_or-take n (drop 4 s) c 0 i, get_or-drop 4 s c 0)
          (leb-true (get_or s (4 + c) 0) 1 (every-at n (cell_byte s 4) g.cells c i))

      stored-shape : map_shape (wide_at s 0) (high_at s 0) (stored_cells cells) ≡ Ok tt
      stored-shape =
          let w = wide_at s 0 in
          let h = high_at s 0 in
          let sides = sides-good w h (side-pos w g.wide) (omega (arith, side-le w g.wide)) (side-pos h g.high)
          (omega (arith, side-le h g.high)) in
          map-good w h (stored_cells cells) g.wide g.high (stored-good cells w h (sym sides) cells-size)

      stored-cells : call_bytes (put_map (wide_at s 0) (high_at s 0) (stored_cells cells))
          ≡ map_bytes (wide_at s 0) (high_at s 0) cells
      stored-cells =
          ap (map_bytes (wide_at s 0) (high_at s 0)) (stored-read cells (wide_at s 0) (high_at s 0) cells-size cells-bits)

    pub record ReadCalls (T : List Call) (e : ℕ) : Type 0 where
      pub ordered : Ordered T
      pub bytes : bytes_of T ≡ take e s
      pub within : e ≤ length s
      pub given : (x : Call) → Memᴰ x T → Given x

    -- Bytes B before the bytes from place e on are the first e bytes.
    front : (B : List ℕ) (e : ℕ) → s ≡ B ++ drop e s → e ≤ length s → B ≡ take e s
    front B e q l =
        let n : length B ≡ e = omega (arith, ap length q ∙ length-append B (drop e s), length-drop e s) in
        sym (ap (take e) q ∙ take_at B (drop e s) e n)

    pub read-calls : ReadCalls (calls_read s) (read_end s)
    unfolding bytes_of
    read-calls = cases (record_at s start_cursor) (finding s start_cursor) refl
      where
        cases : (r : Step) → Finding s start_cursor r → record_at s start_cursor ≡ r
            → ReadCalls (calls_read s) (read_end s)
        cases _ (found_map z g) q =
            let d = past_map s 0 in
            let t = stream_from s d in
            let head = map_bytes (wide_at s 0) (high_at s 0) (cells g) in
            let rest = rest_from 1001 d (omega arith) (omega arith) (omega arith) (omega (arith, g.whole)) in
            rw (stream-first s, stream-map s start_cursor (map_in s 0) d q) record {
              ordered = map_first _ _ _ (map bare_job t.jobs) (stored-shape g)
                  (omega (arith, rest.few, length-map t.jobs bare_job));
              bytes = ap (λ l. l ++ bytes_of (jobs_in t)) (stored-cells g)
                  ∙ front (head ++ bytes_of (jobs_in t)) (end_in s t.bad)
                  (map-bytes g ∙ ap (λ l. head ++ l) rest.bytes ∙ sym (append_assoc head (bytes_of (jobs_in t)) _))
                  rest.within;
              within = rest.within;
              given = λ y m. ⊎_elim (λ e. rw e (stored_bytes (cells g))) (rest.given y) (Memᴰ.cases_cons m);
            }
        cases _ (no-map z g) q = rw (stream-first s, stream-bad s start_cursor 0 q) record {
          ordered = none_made;
          bytes = refl;
          within = omega arith;
          given = λ x m. absurd (Memᴰ.not-nil m);
        }
        cases _ (at-end l h) q = absurd (omega arith)
        cases _ (found-job l h g) q = absurd (omega arith)
        cases _ (no-job l h g) q = absurd (omega arith)
