-- Used by contracts between functions; nobody has to believe it: laws tie it to the definitions.
-- What holds of a floor that was not refused, and a map in which a run of cells is blocked.
--
--   Sized w h l        == the sides w and h are at most 127, and the map l is as long as that of w * h cells
--   blocked_from a n l == the map l, with the n cells from number a on blocked
use Rattle.std.specs.Prelude.{ℕ, ◌+◌, ◌*◌, ◌≤◌, ◌≡◌, ◌&&◌, ◌||◌, List, leb, ltb, length}
use Rattle.floor.specs.Floor.{bit_at, bit_bytes, map_length}

pub record Sized (w h : ℕ) (l : List ℕ) : Type 0 where
  pub wide : w ≤ 127
  pub high : h ≤ 127
  pub size : length l ≡ map_length (w * h)

unfoldable pub blocked_from : ℕ → ℕ → List ℕ → List ℕ
blocked_from a n l = bit_bytes (length l) (λ c. bit_at l c || (leb a c && ltb c (a + n)))
