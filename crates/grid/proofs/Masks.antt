-- A step of the graph `graph_if S f r`, computed from the mask of the vertex and the shifts of the directions.
--
--   step-masked   == the step is the far end that mask and shifts give for the direction of the move
--   step-movable  == computing the far end from mask and shifts neither wraps nor goes below 0
use Prim.Native.Nat.{ℕ, ◌≤◌, ◌<◌}
use mathlib.Core.Path.{◌≡◌, ◌∙◌}
use mathlib.Core.Bool.{Bool, true}
use mathlib.Core.List.{List}
use native.Mathlib.Omega.{arith}
use Rattle.floor.specs.Floor.{Floor}
use Rattle.floor.proofs.Numbers.{vertices-le}
use Rattle.sight.specs.Sight.{Segment}
use Rattle.moves.specs.declared.Directions.{Directions}
use Rattle.moves.specs.Moves.{dir_at}
use Rattle.moves.specs.Table.{lawful_dirs}
use Rattle.masks.specs.Masks.{MaskAt}
use Rattle.offsets.specs.Offsets.{Movable, Shifts, shifted_by, dir_end}
use Rattle.offsets.proofs.Masked.{masked-end, masked-movable, shifts-masked, shifts-movable}
use Rattle.grid.specs.Leaving.{graph_if}

module _ (S : Floor → Segment → Bool) (f : Floor) (r : Directions) (e : lawful_dirs r ≡ true) (s : List ℕ)
    (H : Shifts f.wide r s) (v n : ℕ)
    (mask : MaskAt S f r v n) (m : ℕ) (l : m < r.count) where
  abbrev k : ℕ
  k = dir_at r m

  pub step-masked : dir_end s n v k ≡ (graph_if S f r).step m v
  step-masked = shifts-masked H m l n v ∙ masked-end S f r e v n mask m l

  pub step-movable : f.wide ≤ 127 → f.high ≤ 127 → v < (graph_if S f r).size → Movable n v k (shifted_by s k)
  step-movable p q i =
      shifts-movable H m l e n v p (omega (arith, vertices-le p q)) (masked-movable S f r e v n mask m l p q i)
