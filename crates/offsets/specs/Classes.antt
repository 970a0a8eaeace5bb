-- Used by contracts between functions; nobody has to believe it: laws tie it to the definitions.
-- The moves of a neighbourhood by cost: classes of four moves, each a quarter turn after the one before.
--
--   class_count   == the number of classes of a neighbourhood; where it has fewer, the others are of no move
--   quarter       == the number of directions in a quarter turn
--   class_of dir cost, class_at l k == a class by its first direction and its cost, 0 for a class of no move; class k of
--                     the list l
--   class_dir c j == direction j of class c, for j from 0 to 3: dir + 4 * j
--   Member r c m  == move m of the directions r is one of class c
--   CostClass r c == the cost of c is at most 4,095; and where it is not 0, each of the four directions of c is that of
--                    a move of r at that cost
--   Classes r l   == the classes of l have every move of the directions r, and the last two have the same cost
--   class_for r m == the class of move m where m is among the first quarter of the moves of r; else m is a turn of one
--                    of these, and the class has no move
--   middle_of r   == the move in the middle of a quarter turn; 1, past it, where a quarter turn has one move only
--   classes_for r == the classes of the first move, of the middle one, and of the other two of moves 0 to 3
use Rattle.std.specs.Prelude.{ℕ, ◌+◌, ◌-◌, ◌*◌, ◌/◌, ◌≤◌, ◌<◌, ◌≡◌, List, [], ◌∷◌, ltb, get_or}
use Rattle.basics.specs.Bounded.{pick}
use Rattle.moves.specs.declared.Directions.{Directions}
use Rattle.offsets.specs.declared.Class.{Class}
use Rattle.moves.specs.Moves.{dir_at, move_at}

abbrev pub class_count : ℕ
class_count = 4

abbrev pub quarter : ℕ
quarter = 4

abbrev pub class_of : ℕ → ℕ → Class
class_of dir cost = record { dir = dir; cost = cost }

abbrev pub class_at : List Class → ℕ → Class
class_at l k = get_or l k (class_of 0 0)

abbrev pub class_dir : Class → ℕ → ℕ
class_dir c j = c.dir + quarter * j

abbrev pub Member : Directions → Class → ℕ → Type 0
Member r c m = (j : ℕ) × (j < 4) × (dir_at r m ≡ class_dir c j)

pub record CostClass (r : Directions) (c : Class) : Type 0 where
  pub high : c.cost ≤ 4095
  pub move : 0 < c.cost → (j : ℕ) → j < 4
      → (m : ℕ) × (m < r.count) × (dir_at r m ≡ class_dir c j) × ((move_at r m).cost ≡ c.cost)

pub record Classes (r : Directions) (l : List Class) : Type 0 where
  pub each : (k : ℕ) → k < class_count → CostClass r (class_at l k)
  pub covers : (m : ℕ) → m < r.count
      → (k : ℕ) × (k < class_count) × Member r (class_at l k) m × ((move_at r m).cost ≡ (class_at l k).cost)
  -- the search keeps one queue position for both
  pub paired : (class_at l 2).cost ≡ (class_at l 3).cost

-- ---- the classes, read off the table

abbrev pub class_for : Directions → ℕ → Class
class_for r m = pick (ltb m (r.count / 4)) (class_of (dir_at r m) (move_at r m).cost) (class_of 0 0)

abbrev pub middle_of : Directions → ℕ
middle_of r = (r.count / 4 + 1) / 2

abbrev pub classes_for : Directions → List Class
classes_for r = class_for r 0 ∷ class_for r (middle_of r) ∷ class_for r (3 - middle_of r) ∷ class_for r 3 ∷ []
