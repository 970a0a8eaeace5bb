-- Used by contracts between functions; nobody has to believe it: laws tie it to the definitions.
-- What holds at the steps of `working_map`.
--
--   MapsLent t base work == the base map is good for the table's floor, and the working slice is as long as it
--   Marked s w h l left  == left is the map l, of a floor of width w and height h, blocked also where s covers the cell
--   clipped w h r        == the part of rectangle r that lies on a floor of width w and height h
--   slot_found m         == the lowest free slot of m; none where no slot is free
--   CellsOnFloor r w h   == a floor of width w and height h has every cell of rectangle r
use Rattle.std.specs.Prelude.{ℕ, ◌+◌, ◌-◌, ◌≤◌, min, ◌≡◌, List, length, ltb, Option, Some, None, Ok}
use Rattle.floor.specs.Floor.{floor_of, map_of, with_blocked}
use Rattle.floor.specs.Refusals.{floor_shape}
use Rattle.basics.specs.Bounded.{pick}
use Rattle.closures.specs.Plain.{Plain, lowest_free, covered_by}
use Rattle.closures.specs.declared.Rectangle.{Rectangle}
use Rattle.closures.specs.declared.Closures.{Closures}

pub record MapsLent (t : Closures) (base work : List ℕ) : Type 0 where
  pub good : floor_shape t.width t.height base ≡ Ok tt
  pub same : length work ≡ length base

abbrev pub Marked : Option Rectangle → ℕ → ℕ → List ℕ → List ℕ → Type 0
Marked s w h l left = left ≡ map_of (with_blocked (floor_of w h l) (covered_by s))

abbrev pub clipped : ℕ → ℕ → Rectangle → Rectangle
clipped w h r = record {
  column = min r.column w;
  row = min r.row h;
  columns = min r.columns (w - min r.column w);
  rows = min r.rows (h - min r.row h);
}

abbrev pub slot_found : Plain → Option ℕ
slot_found m = pick (ltb (lowest_free m) 16) (Some (lowest_free m)) None

pub record CellsOnFloor (r : Rectangle) (w h : ℕ) : Type 0 where
  pub columns : r.column + r.columns ≤ w
  pub rows : r.row + r.rows ≤ h
