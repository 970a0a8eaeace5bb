-- docs/RULES.md, 17.6 and 17.7: the two round trips.
--
--   after-calls    == after any calls from a fresh writer on, the buffer has the records of the calls that were not
--                     refused at its start, and is unchanged after them
--   written-bytes  == what was written is the bytes of the calls that were not refused
--   read_back      == after any calls that include a map, reading what was written gives that floor and the jobs
--   write_back     == with room enough, writing what is read of a stream before any bad record gives the same bytes
use Prim.Native.Nat.{ℕ, ◌≤◌}
use mathlib.Core.Path.{◌≡◌, refl, ap, ◌∙◌}
use mathlib.Core.List.{List}
use native.Mathlib.Omega.{arith}
use lib.ListN.{length, drop}
use lib.Seq.{take-append_seam, drop_at, length-take-le}
use Rattle.floor.specs.Floor.{floor_of, stored_cells, cell_bytes}
use Rattle.floor.proofs.Packed.{Bytes}
use Rattle.floor.proofs.Stored.{cells-length, read-stored}
use Rattle.records.specs.Format.{stream_of, cells_of}
use Rattle.writer.specs.Writing.{Call}
use Rattle.writer.specs.Calls.{fresh, after, taken, written, job_calls, map_read}
use Rattle.writer.specs.Calls.{ReadBack, read_end, calls_read, WrittenBack}
use Rattle.writer.proofs.Holding.{bytes_of, holding}
use Rattle.writer.proofs.Shapes.{good-map}
use Rattle.writer.proofs.Cells.{cells-small}
use Rattle.writer.proofs.Reading.{read-records, cells-read}
use Rattle.writer.proofs.Calls.{Ordered, none_made, map_first, after-any-calls, after-ordered}
use Rattle.writer.proofs.Rewriting.{read-calls}

module _ (buf : List ℕ) (xs : List Call) where
  pub after-calls : after (fresh buf) xs ≡ holding buf (taken (fresh buf) xs)
  unfolding bytes_of
  after-calls = (after-any-calls buf xs).same

  pub written-bytes : written (after (fresh buf) xs) ≡ bytes_of (taken (fresh buf) xs)
  written-bytes = ap written after-calls ∙ take-append_seam (bytes_of (taken (fresh buf) xs)) _

  pub read_back : 1 ≤ (after (fresh buf) xs).writer.due → ReadBack buf xs
  unfolding bytes_of
  read_back in-it = cases (taken (fresh buf) xs) refl (after-any-calls buf xs).fits.ordered
    where
      cases : (T : List Call) → taken (fresh buf) xs ≡ T → Ordered T → ReadBack buf xs
      cases _ e none_made = absurd (omega (arith, ap (λ s. s.writer.due) after-calls ∙ ap length e))
      cases _ e (map_first w h l js good few) =
          let g = good-map w h l good in
          let cells = cell_bytes (floor_of w h l) in
          let size = cells-length (floor_of w h l) in
          let bytes = written-bytes ∙ ap bytes_of e in
          let same = ap (λ s. cells_of s (map_read w h)) bytes ∙ cells-read w h cells (bytes_of (job_calls js)) size in
          record {
            wide = w;
            high = h;
            packed = l;
            jobs = js;
            calls = e;
            stream = ap stream_of bytes
                ∙ read-records w h cells js size g.wide g.high (cells-small (floor_of w h l)) few;
            cells = same;
            stored = λ small. ap stored_cells same ∙ read-stored w h l g.floor small;
          }

pub write_back : (s buf : List ℕ) → Bytes s → read_end s ≤ length buf → WrittenBack s buf
write_back s buf small room =
    let r = read-calls s small in
    let size : length (bytes_of (calls_read s)) ≡ read_end s =
    ap length r.bytes ∙ length-take-le (read_end s) s r.within in
    let a = after-ordered buf (calls_read s) (record { ordered = r.ordered; fits = omega arith }) in
    record {
      given = r.given;
      calls = a.0;
      bytes = ap written a.1 ∙ take-append_seam (bytes_of (calls_read s)) _ ∙ r.bytes;
      rest = ap (λ t. drop (read_end s) t.buffer) a.1
          ∙ drop_at (bytes_of (calls_read s)) _ (read_end s) size ∙ ap (λ k. drop k buf) size;
    }
