-- One vertex of a row of the floor, in column x, as a loop over the row tests it.
--
--   column-shows            == the mask of the moves that leave (x, y) `Shows` the steps from its vertex
--   flag-more               == a flag that says whether a test p holds below x, and the test of x, say whether it holds
--                              below x + 1
use Prim.Native.Nat.{ℕ, ◌+◌}
use mathlib.Core.Path.{◌≡◌, ap₂}
use mathlib.Core.Bool.{Bool, ◌&&◌}
use mathlib.Core.List.{List}
use native.Mathlib.Numerals.{add-one}
use Rattle.basics.specs.Bounded.{every}
use Rattle.floor.specs.Floor.{floor_of, number}
use Rattle.floor.proofs.Numbers.{number_lt}
use Rattle.moves.specs.declared.Directions.{Directions}
use Rattle.moves.specs.Table.{OnFloor}
use Rattle.moves.proofs.Table.{listed-lawful}
use Rattle.moves.specs.Leaving.{leaves}
use Rattle.masks.specs.Masks.{Leaving}
use Rattle.masks.proofs.Masks.{mask-number}
use Rattle.offsets.specs.Offsets.{Shifts}
use Rattle.grid.specs.Leaving.{leaving_graph}
use Rattle.grid.specs.Known.{GoodJob}
use Rattle.neighbours.proofs.Shown.{Shows, mask-shows}

pub column-shows : {w h a b x y mask v : ℕ} {map s : List ℕ} {r : Directions} → GoodJob w h map r a b → Shifts w r s
    → OnFloor w h x y → Leaving (floor_of w h map) r x y mask → v ≡ number w x y
    → Shows (leaving_graph (floor_of w h map) r) r s mask v
column-shows {w} {h} {x = x} {y} {mask} {map = map} {r = r} J S o is numbered =
    let f = floor_of w h map in
    rw numbered
    (mask-shows leaves f r (listed-lawful J.listed) S J.sized.wide J.sized.high mask (number w x y)
    (number_lt w h x y o.column o.row) (mask-number f x y o.column is))

pub flag-more : (p : ℕ → Bool) (x : ℕ) {old new : Bool} → old ≡ every x p → new ≡ p x
    → (old && new) ≡ every (x + 1) p
unfolding every
flag-more p x before is = rw add-one (ap₂ ◌&&◌ before is)
