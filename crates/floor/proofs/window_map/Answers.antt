-- `floor::window_map` meets its contract: the four cells are the low bits of one byte. Assumes nothing.
use Prim.Native.Nat.{ℕ, zero, suc, ◌<◌}
use mathlib.Core.Path.{◌≡◌, refl}
use mathlib.Core.List.{[], ◌∷◌}
use native.Mathlib.Omega.{arith}
use Rattle.basics.specs.Bits.{bit}
use Rattle.floor.specs.Floor.{cell_number, cell_of}
use Rattle.floor.proofs.window_map.Goals as goal

-- `floor::window_map` meets its contract: the four cells are the low bits of one byte. Assumes nothing.
cells : (b i j : ℕ) → i < 2 → j < 2 → cell_of 2 (b ∷ []) i j ≡ bit b (cell_number 2 i j)
unfolding cell_of
cells b zero zero p q = refl
cells b (suc zero) zero p q = refl
cells b zero (suc zero) p q = refl
cells b (suc zero) (suc zero) p q = refl
cells b (suc (suc i)) j p q = absurd (omega arith)
cells b zero (suc (suc j)) p q = absurd (omega arith)
cells b (suc zero) (suc (suc j)) p q = absurd (omega arith)

pub returns : goal.returns
returns c = record {
  sized = record { wide = omega arith; high = omega arith; size = refl };
  cell = cells c.args.b;
}
