-- docs/RULES.md, 1.6 and 1.7, worked by hand: packed maps as numbers, and what refusals 2 and 3 say of them.
--
--   PackedHold   == the statement. On floor g cells 0 and 3 are blocked: its map is 1 + 8. On a 3 by 3 floor with cells
--                   2, 3, 7 and 8 blocked, the first byte is 4 + 8 + 128 and the second 1, with seven unused bits. A 4
--                   by 2 floor has no unused bits
use Rattle.std.specs.Prelude.{◌≡◌, [], ◌∷◌, Ok, Err}
use Rattle.floor.specs.Floor.{stored_cells}
use Rattle.floor.specs.Refusals.{floor_shape}
use Rattle.floor.specs.declared.Refusal.TheVariants.{MapLength, UnusedBit}

pub record PackedHold : Type 0 where
  pub floor_g_stored : stored_cells (1 ∷ 0 ∷ 0 ∷ 1 ∷ []) ≡ 9 ∷ []
  pub nine_cells : stored_cells (0 ∷ 0 ∷ 1 ∷ 1 ∷ 0 ∷ 0 ∷ 0 ∷ 1 ∷ 1 ∷ []) ≡ 140 ∷ 1 ∷ []
  pub nine_good : floor_shape 3 3 (140 ∷ 1 ∷ []) ≡ Ok tt
  pub nine_first : floor_shape 3 3 (140 ∷ 3 ∷ []) ≡ Err UnusedBit
  pub nine_last : floor_shape 3 3 (140 ∷ 129 ∷ []) ≡ Err UnusedBit
  pub nine_short : floor_shape 3 3 (140 ∷ []) ≡ Err MapLength
  pub nine_long : floor_shape 3 3 (140 ∷ 1 ∷ 0 ∷ []) ≡ Err MapLength
  pub eight_good : floor_shape 4 2 (255 ∷ []) ≡ Ok tt
