-- The cells of the map in the input, and the floor as which they are stored.
--
--   part-cells == the part of the input that `copy_cells` stores is `cells_of s m`
--   map-small  == `SmallFloor` of the map that the first step finds, once it is stored
use Prim.Native.Nat.{ℕ, ◌+◌, ◌-◌, ◌*◌}
use mathlib.Core.Path.{◌≡◌, sym, ap}
use mathlib.Core.List.{List}
use native.Mathlib.Omega.{arith}
use lib.ListN.{length, take, drop, length-drop}
use lib.Seq.{length-take-le}
use Rattle.floor.specs.Floor.{stored_cells}
use Rattle.floor.proofs.Shapes.{sides-good}
use Rattle.floor.proofs.Stored.{stored-good}
use Rattle.records.specs.Format.{gives_map, record_at, start_cursor, cells_of}
use Rattle.records.specs.declared.stream.Cursor.{Cursor}
use Rattle.records.specs.declared.stream.MapRecord.{MapRecord}
use Rattle.records.proofs.Moved.{MapFound, map-step}
use Rattle.program_text.specs.Contract.{SmallFloor}

module _ (s : List ℕ) (m : MapRecord) where
  -- The part of the input that `copy_cells` stores.
  abbrev part : List ℕ
  part = take (m.cells + m.wide * m.high - m.cells) (drop m.cells s)

  pub part-cells : part ≡ cells_of s m
  part-cells =
      let count : m.cells + m.wide * m.high - m.cells ≡ m.wide * m.high = omega arith in
      ap (λ n. take n (drop m.cells s)) count

  module _ (c : Cursor) (e : record_at s start_cursor ≡ gives_map m c) where
    found : MapFound s start_cursor m c
    found = map-step s start_cursor m c e

    cells-size : length (cells_of s m) ≡ m.wide * m.high
    cells-size =
        length-take-le (m.wide * m.high) (drop m.cells s)
        (omega (arith, length-drop m.cells s, found.cells_end, found.moved.within))

    pub map-small : SmallFloor m.wide m.high (stored_cells (cells_of s m))
    map-small = record {
      shape = stored-good (cells_of s m) m.wide m.high
          (sym (sides-good m.wide m.high found.wide_pos (omega (arith, found.wide)) found.high_pos
          (omega (arith, found.high))))
          cells-size;
      wide = found.wide;
      high = found.high;
    }
