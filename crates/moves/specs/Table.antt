-- Used by contracts between functions; nobody has to believe it: laws tie it to the definitions.
-- The test that gives the laws of the moves of a neighbourhood (proofs/Table computes it for all three), and the parts
-- of a step.
--
--   Listed r       == r are the directions of one of the neighbourhoods 4, 8 and 16
--   eight_dirs, sixteen_dirs == the directions of the table of eight, and of the table of sixteen
--   table_of r      == `sixteen_dirs` where r has sixteen directions, else `eight_dirs`
--   Within r t     == every direction of r is one of t
--   opposite_of r m == the move of r opposite to move m: half the number of moves on
--   turned a b, same_offset a b == the offset a is -b, and the offset a is b, tested
--   lawful_dirs r   == the directions are in the tables; each costs 1 to 4,095, goes at most 2 columns and 2 rows, leads
--                     where no other direction leads, has its opposite, half the directions on, at the same cost, and
--                     is narrow
--   lawful_tests r m, lawful_dir r m == the tests of move m of `lawful_dirs r`, one by one and together
--   narrow m       == move m goes exactly one column or exactly one row, so that it passes no vertex between its ends
--   Short m        == move m goes at most 2 columns and at most 2 rows
--   OnFloor w h x y == the vertex (x, y) is on a floor of w by h cells, neither side above 127
--   Reaches w h m x y i j == move m leads from (x, y) to (i, j), which is on the floor
--   is_some o       == o is not none
--   parts_of d      == the signed offset d as how far up and how far down
--   place_of a      == one coordinate of a far end, or none, as the code answers it
use Rattle.std.specs.Prelude.{ℕ, ◌+◌, ◌/◌, ◌%◌, ◌≤◌, ◌<◌, ◌≡◌, Bool, true, false, ◌&&◌, ◌||◌, not, List, [], ◌∷◌, leb, ltb, eqb, ℤ, nat_abs, length, get_or}
use Rattle.std.specs.Prelude.{Option as Answer, Some, None}
use Rattle.std.proofs.Math.Option.{Option, none, some}
use Rattle.basics.specs.Bounded.{pick, every}
use Rattle.moves.specs.declared.Move.{Move}
use Rattle.moves.specs.declared.Directions.{Directions}
use Rattle.moves.specs.declared.Offset.{Offset}
use Rattle.moves.specs.Moves.{dir_count, directions_of, dir_at, move_at, neighbourhood_of}
use Rattle.moves.specs.Steps.{up, down, shifted, then_at, far_end_at, end_if, step_of}

pub record Listed (r : Directions) : Type 0 where
  pub number : ℕ
  pub known : neighbourhood_of number ≡ Some r

abbrev pub eight_dirs : Directions
eight_dirs = directions_of 0 2 8

abbrev pub sixteen_dirs : Directions
sixteen_dirs = directions_of 16 1 16

abbrev pub table_of : Directions → Directions
table_of r = pick (eqb r.count 16) sixteen_dirs eight_dirs

pub record Within (r t : Directions) : Type 0 where
  pub at : (m : ℕ) → m < r.count → (k : ℕ) × (k < t.count) × (dir_at r m ≡ dir_at t k)

-- A table in order of angle has the opposite of a move half its length on.
abbrev pub opposite_of : Directions → ℕ → ℕ
opposite_of r m = (m + r.count / 2) % r.count

-- The offset a is b turned round.
unfoldable pub turned : ℤ → ℤ → Bool
turned a b = eqb (up a) (down b) && eqb (down a) (up b)

unfoldable pub same_offset : ℤ → ℤ → Bool
same_offset a b = eqb (up a) (up b) && eqb (down a) (down b)

pub record Short (m : Move) : Type 0 where
  pub columns : nat_abs m.dx ≤ 2
  pub rows : nat_abs m.dy ≤ 2

abbrev pub narrow : Move → Bool
narrow m = eqb (nat_abs m.dx) 1 || eqb (nat_abs m.dy) 1

-- What is tested of move m of the directions r.
abbrev pub lawful_tests : Directions → ℕ → List Bool
lawful_tests r m =
    ltb (dir_at r m) dir_count
    ∷ leb 1 (move_at r m).cost
    ∷ leb (move_at r m).cost 4095
    ∷ leb (nat_abs (move_at r m).dx) 2
    ∷ leb (nat_abs (move_at r m).dy) 2
    ∷ eqb (move_at r (opposite_of r m)).cost (move_at r m).cost
    ∷ turned (move_at r (opposite_of r m)).dx (move_at r m).dx
    ∷ turned (move_at r (opposite_of r m)).dy (move_at r m).dy
    ∷ every m (λ n. not (same_offset (move_at r n).dx (move_at r m).dx && same_offset (move_at r n).dy (move_at r m).dy))
    ∷ narrow (move_at r m)
    ∷ []

abbrev pub lawful_dir : Directions → ℕ → Bool
lawful_dir r m = every (length (lawful_tests r m)) (λ k. get_or (lawful_tests r m) k true)

unfoldable pub lawful_dirs : Directions → Bool
lawful_dirs r = every r.count (lawful_dir r)

-- ---- the parts of a step

pub record OnFloor (w h x y : ℕ) : Type 0 where
  pub wide : w ≤ 127
  pub high : h ≤ 127
  pub column : x ≤ w
  pub row : y ≤ h

pub record Reaches (w h : ℕ) (m : Move) (x y i j : ℕ) : Type 0 where
  pub columns : shifted w x m.dx ≡ some i
  pub rows : shifted h y m.dy ≡ some j

unfoldable pub is_some : Option ℕ → Bool
is_some none = false
is_some (some w) = true

abbrev pub parts_of : ℤ → Offset
parts_of d = record { up = up d; down = down d }

unfoldable pub place_of : Option ℕ → Answer ℕ
place_of none = None
place_of (some a) = Some a

-- Named on an `unfolding` line, these open one coordinate of where a move leads, and where it leads, by cases.
unfoldable pub offset_opened : ℕ
unfolding up down shifted place_of
offset_opened = 0

unfoldable pub far_opened : ℕ
unfolding then_at far_end_at end_if step_of is_some place_of
far_opened = 0
