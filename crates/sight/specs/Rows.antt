-- Rule 2.11: "for each row it finds a first and a last column, proved to bound exactly the cells entered there". Two
-- theorems in proofs/Rows.antt: by `row-bounds` each row of a slanted segment has such columns, and by `run-bounds` the
-- scan finds them.
--
--   RowBounds s j first last == the cells that s enters in row j are those from column `first` to column `last`
use Rattle.std.specs.Prelude.{ℕ, ◌≤◌, ◌≡◌, ◌&&◌, leb}
use Rattle.sight.specs.Sight.{Segment, enters}

pub record RowBounds (s : Segment) (j first last : ℕ) : Type 0 where
  pub ordered : first ≤ last
  pub exactly : (i : ℕ) → enters s i j ≡ (leb first i && leb i last)
