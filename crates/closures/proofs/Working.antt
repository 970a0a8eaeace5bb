-- The working map: a cell is blocked exactly where it is in the base map or where a held closure covers it. Where the
-- base map is of good shape, so is the working map, for the same floor.
use Prim.Native.Nat.{ℕ, ◌<◌}
use mathlib.Core.Path.{◌≡◌}
use mathlib.Core.Bool.{◌||◌}
use mathlib.Core.List.{List}
use Rattle.floor.specs.Floor.{cell_of, floor_of, with_blocked}
use Rattle.floor.specs.Refusals.{floor_shape}
use Rattle.std.proofs.Common.{Ok}
use Rattle.floor.proofs.Maps.{map-cell, blocked-good}
use Rattle.closures.specs.Plain.{Plain, closed_by, working_map}

module _ (w h : ℕ) (base : List ℕ) (m : Plain) where
  pub working-cell : (i j : ℕ) → i < w → j < h
      → cell_of w (working_map w h base m) i j ≡ (cell_of w base i j || closed_by m i j)
  working-cell = map-cell (with_blocked (floor_of w h base) (closed_by m))

  pub working-good : floor_shape w h base ≡ Ok tt → floor_shape w h (working_map w h base m) ≡ Ok tt
  working-good e = blocked-good w h base e (closed_by m)
