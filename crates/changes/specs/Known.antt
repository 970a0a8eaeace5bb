-- Used by contracts between functions; nobody has to believe it: laws tie it to the definitions.
-- What the loops over cells and over vertices have done so far, and what the second report needs.
--
--   closes_bit map map' c  == `closes` for cell c, by the bits of the two maps
--   opens_bit map map' c   == `opens` for cell c, by the bits of the two maps
--   differs_bit map map' c == `differs` for cell c, by the bits of the two maps
--   MapsOf map map' n      == each of the two maps has n cells or more, and n <= 127 * 127
--   Noted map map' n k t l == of the n cells the first k are noted: t counts those that closed and those that opened,
--                             and the slice l of n places holds the numbers of those that differ, then 0
--   change_at c c' v       == how the cost of vertex v changed from the costs c to the costs c'
--   Reportable ..          == the job from a to a is good on both floors, and the four slices have their lengths
use Rattle.std.specs.Prelude.{ℕ, ◌*◌, ◌≤◌, ◌≡◌, Bool, ◌&&◌, ◌||◌, not, List, length, get_or}
use Rattle.basics.specs.Bounded.{count}
use Rattle.basics.specs.Lists.{padded, chosen}
use Rattle.floor.specs.Floor.{bit_at, vertices}
use Rattle.moves.specs.declared.Directions.{Directions}
use Rattle.grid.specs.Known.{GoodJob}
use Rattle.changes.specs.Changes.{change_of}
use Rattle.changes.specs.declared.Tally.{Tally}

-- ---- the cells

unfoldable pub closes_bit : List ℕ → List ℕ → ℕ → Bool
closes_bit map map' c = not (bit_at map c) && bit_at map' c

unfoldable pub opens_bit : List ℕ → List ℕ → ℕ → Bool
opens_bit map map' c = bit_at map c && not (bit_at map' c)

abbrev pub differs_bit : List ℕ → List ℕ → ℕ → Bool
differs_bit map map' c = closes_bit map map' c || opens_bit map map' c

pub record MapsOf (map map' : List ℕ) (n : ℕ) : Type 0 where
  pub few : n ≤ 16129
  pub first : n ≤ 8 * length map
  pub second : n ≤ 8 * length map'

pub record Noted (map map' : List ℕ) (n k : ℕ) (t : Tally) (l : List ℕ) : Type 0 where
  pub maps : MapsOf map map' n
  pub len : length l ≡ n
  pub within : k ≤ n
  pub closed : t.closed ≡ count k (closes_bit map map')
  pub opened : t.opened ≡ count k (opens_bit map map')
  pub listed : l ≡ padded n (chosen k (differs_bit map map'))

-- ---- the costs

abbrev pub change_at : List ℕ → List ℕ → ℕ → ℕ
change_at c c' v = change_of (get_or c v 0) (get_or c' v 0)

pub record Reportable (w h : ℕ) (map map' : List ℕ) (dirs : Directions) (a : ℕ) (c c' l k : List ℕ) : Type 0 where
  pub first : GoodJob w h map dirs a a
  pub second : GoodJob w h map' dirs a a
  pub first_len : length c ≡ vertices w h
  pub second_len : length c' ≡ vertices w h
  pub change_len : length l ≡ vertices w h
  pub work_len : length k ≡ 4 * vertices w h
