-- Used by contracts between functions; nobody has to believe it: laws tie it to the definitions.
-- A floor of 2 by 2 cells whose map is the bits of a number. What is found on it holds at every vertex of any floor
-- with the same four cells.
--
--   WindowMap b l   == the list l is the map of a floor of 2 by 2 cells, of which cell c is blocked where b has bit c
use Rattle.std.specs.Prelude.{ℕ, ◌<◌, ◌≡◌, List}
use Rattle.basics.specs.Bits.{bit}
use Rattle.floor.specs.Floor.{cell_number, cell_of}
use Rattle.floor.specs.Known.{Sized}

pub record WindowMap (b : ℕ) (l : List ℕ) : Type 0 where
  pub sized : Sized 2 2 l
  pub cell : (i j : ℕ) → i < 2 → j < 2 → cell_of 2 l i j ≡ bit b (cell_number 2 i j)
