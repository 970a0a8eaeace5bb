-- The loop over the jobs: what holds before it, and after each turn.
--
--   cells-lent    == the slice lent for the cells of the map fits them
--   few_bytes     == the map of a record has at most 31 * 31 cells, so 121 bytes at most
--   map-sides     == the sides of a record's map are within the bound of a floor
--   few-places    == the floor of a record's map has at most 32 * 32 vertices
--   jobs-small    == the cells that were stored are a small floor
--   jobs-due      == past the map nothing is written, and the text from there on is due
--   due-on        == while more is read, what is due stays so
--   first-reached == stepping comes to the first cursor
--   sent-more     == what a turn that is not the last leaves
use Prim.Native.Nat.{ℕ, ◌*◌, ◌≤◌, ◌<◌}
use mathlib.Core.Path.{◌≡◌, sym, ap, ◌∙◌, subst}
use mathlib.Core.Bool.{Bool}
use mathlib.Core.List.{List, ◌++◌}
use native.Mathlib.Omega.{arith}
use native.Mathlib.Nat.{mul-le-mul}
use lib.ListN.{length, take, drop, length-take, length-drop}
use lib.Seq.{length-take-le, take-append-le, drop-append-le}
use Rattle.floor.specs.Floor.{map_length, stored_cells, vertices}
use Rattle.records.specs.Format.{gives_map, record_at, start_cursor, cells_of}
use Rattle.records.specs.Settled.{longest, Reached}
use Rattle.records.specs.declared.stream.Cursor.{Cursor}
use Rattle.records.specs.declared.stream.MapRecord.{MapRecord}
use Rattle.std.specs.Prelude.{Result, Ok, Some}
use Rattle.records.proofs.Moved.{map-step}
use Rattle.records.proofs.Limit.{reached-first, reached-map}
use Rattle.program_text.specs.Text.{program_text}
use Rattle.program_text.specs.Contract.{SmallFloor, CellsIn, text_from}
use Rattle.program_text.proofs.Cells.{map-small}
use Rattle.program_text.proofs.Program.{program-map}
use Rattle.route.specs.Sent.{Input, Sure, Left, Due, GoesOn, Follows, SentTurn}
use Rattle.route.specs.Reads.{bytes_read, ReadFor}
use Rattle.route.specs.declared.Reading.{Reading}
use Rattle.route.specs.declared.Sent.{Sent}
use Rattle.route.specs.declared.Cut.{Cut}
use Rattle.route.proofs.Sending.{left-first}

module _ (s : List ℕ) (m : MapRecord) (c : Cursor) (e : record_at s start_cursor ≡ gives_map m c) where
  pub cells-lent : (map : List ℕ) → length map ≡ map_length (m.wide * m.high) → CellsIn s m map
  cells-lent map size =
      let f = map-step s start_cursor m c e in
      record { within = omega (arith, f.cells_end, f.moved.within); size = size }

  pub few_bytes : map_length (m.wide * m.high) ≤ 121
  few_bytes =
      let f = map-step s start_cursor m c e in
      omega (arith, mul-le-mul {n₂ = 31} {m₂ = 31} f.wide f.high)

  pub map-sides : (m.wide ≤ 127) × (m.high ≤ 127)
  map-sides =
      let f = map-step s start_cursor m c e in
      (omega (arith, f.wide), omega (arith, f.high))

  pub few-places : vertices m.wide m.high ≤ 1024
  few-places =
      let f = map-step s start_cursor m c e in
      mul-le-mul {n₂ = 32} {m₂ = 32} (omega (arith, f.high)) (omega (arith, f.wide))

  pub jobs-small : (map : List ℕ) → map ≡ stored_cells (cells_of s m) → SmallFloor m.wide m.high map
  jobs-small map same = rw same (map-small s m c e)

  -- The cells lie in what is read, so that they are those of the whole input.
  cells_same : (rest : List ℕ) → cells_of (s ++ rest) m ≡ cells_of s m
  cells_same rest =
      let f = map-step s start_cursor m c e in
      let n : ℕ = m.wide * m.high in
      ap (take n) (drop-append-le m.cells s rest (omega (arith, f.cells_end, f.moved.within)))
      ∙ take-append-le n (drop m.cells s) rest
      (omega (arith, f.cells_end, f.moved.within, length-drop m.cells s))

  pub jobs-due : {over : Bool} (map : List ℕ) → map ≡ stored_cells (cells_of s m) → Sure s over start_cursor
      → length s ≤ longest → Due s over m.wide m.high map c 0
  jobs-due {over} map same sure short =
      let f = map-step s start_cursor m c e in
      let text : (t : List ℕ) → Input s over t → program_text t ≡ text_from t m.wide m.high map c =
      (λ t i.
      program-map t m c (sure.same t i ∙ e)
      ∙ ap (λ l. text_from t m.wide m.high l c)
      (ap (λ u. stored_cells (cells_of u m)) i.begins ∙ ap stored_cells (cells_same i.rest) ∙ sym same)) in
      record {
        left = λ t i. subst (λ z. Left (program_text t) 0 z) (text t i) (left-first (program_text t));
        job = omega (arith, f.moved.next);
        reached = reached-map s m c e;
        place = f.moved.within;
        short = short;
        few = omega arith;
      }

-- What is due stays so while more is read.
pub due-on : {input input' : List ℕ} {q r : Reading} {w h : ℕ} {map : List ℕ} {c d : Cursor} {k : ℕ}
    → Due (bytes_read input q) q.over w h map c k → ReadFor input q input' r d → length input' ≤ longest
    → Due (bytes_read input' r) r.over w h map c k
due-on {input} {input'} {q} {r} x f short =
    let size : length (take r.count input') ≡ r.count = length-take-le r.count input' f.within in
    record {
      left = λ s i. x.left s (f.still s i);
      job = x.job;
      reached = x.reached;
      place = omega (arith, x.place, length-take q.count input, size, f.on);
      short = omega (arith, size, f.within);
      few = x.few;
    }

pub first-reached : {c : Cursor} → c ≡ start_cursor → Reached c
first-reached e = rw e reached-first

module _ {p : List ℕ} {over : Bool} {w h : ℕ} {map : List ℕ} {c : Cursor} {r : Result Sent Cut} {x : Sent}
    (t : SentTurn p over w h map c r) (e : r ≡ Ok x) where
  gone-on : GoesOn p over w h map c x.written x.next
  gone-on = subst (Follows p over w h map c) e t.follows

  pub sent-more : {d : Cursor} → x.next ≡ Some d → (c.at < d.at) × Due p over w h map d x.written
  sent-more q = subst (GoesOn p over w h map c x.written) q gone-on
