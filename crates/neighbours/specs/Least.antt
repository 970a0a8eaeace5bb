-- Used by contracts between functions; nobody has to believe it: laws tie it to the definitions.
-- The test of a cost by the least that an open move gives it. The moves of a vertex are read by class: four far ends at
-- one cost. The law `least-right` says that this test is `right_cost_in`, and the law `costs-in` that over all vertices
-- `right_cost_in` says the same as `right_cost`.
--
--   relaxed_by g D v m         == D v ≤ D w and the cost of move m, where m leads from v to w
--   relaxed_in g D v           == `relaxed_by g D v m` for every move m; `relaxed` of paths has v and w exchanged
--   right_cost_in g a D v      == `right_cost` with `relaxed_in` in place of `relaxed`
--   nowhere                    == a cost above every other
--   least_of F n               == the least of `nowhere` and F 0, .. F (n - 1)
--   end_or v e                 == the far end e; v itself where there is none
--   end_at s mask v k          == the far end of direction k from v by its mask and the shifts s; v itself where the
--                                 move is shut
--   least_by s mask D v c      == the least of D w and the cost of class c, over the four far ends w of c from v;
--                                 `nowhere` for a class of no move
--   least_two s mask D v c e   == the lesser of `least_by` of the classes c and e
--   least_first, least_further == `least_two` of the first two classes of l, and of the last two
--   least_at s l mask D v      == the least by all classes of l; the last two are left out where the third has no move
--   right_by x a D v           == D v is x, or it is below x and v is the source a or unreached
--   right_least s l mask a D v == `right_by x a D v` with x = least_at s l mask D v
--   DirLent n s mask v k       == the far end of direction k from v can be worked out, and it is below n
--   ClassesLent n s l mask v   == the far ends of every class of l from v can be worked out and are below n, and v is
--                                 below n
--   MoveBy g s mask v c j m    == move m of the graph g from v has the far end of direction j of class c, and its cost
--   ClassMoves g s l mask v    == the moves of the graph g from v are those of the classes of l, and the last two
--                                 classes have the same cost
use Rattle.std.specs.Prelude.{ℕ, zero, suc, ◌+◌, ◌<◌, min, ◌≡◌, Bool, ◌&&◌, ◌||◌, List, leb, eqb, length}
use Rattle.std.proofs.Math.Option.{Option, none, some}
use Rattle.basics.specs.Bounded.{pick, every}
use Rattle.offsets.specs.declared.Class.{Class}
use Rattle.offsets.specs.Offsets.{Movable, shifted_by, dir_end}
use Rattle.offsets.specs.Classes.{class_count, class_at, class_dir}
use Rattle.paths.specs.Graph.{Graph}
use Rattle.paths.specs.Distance.{unreachable}
use Rattle.paths.specs.Local.{if-there, tight}

unfoldable pub relaxed_by : Graph → (ℕ → ℕ) → ℕ → ℕ → Bool
relaxed_by g D v m = if-there (g.step m v) (λ w. leb (D v) (D w + g.cost m))

unfoldable pub relaxed_in : Graph → (ℕ → ℕ) → ℕ → Bool
relaxed_in g D v = every g.moves (relaxed_by g D v)

unfoldable pub right_cost_in : Graph → ℕ → (ℕ → ℕ) → ℕ → Bool
right_cost_in g a D v = leb (D v) unreachable && (relaxed_in g D v && (eqb (D v) unreachable || (eqb v a || tight g D v)))

-- ---- by the least

abbrev pub nowhere : ℕ
nowhere = 4294967296

unfoldable pub least_of : (ℕ → ℕ) → ℕ → ℕ
least_of F zero = nowhere
least_of F (suc n) = min (least_of F n) (F n)

abbrev pub end_or : ℕ → Option ℕ → ℕ
end_or v none = v
end_or v (some w) = w

abbrev pub end_at : List ℕ → ℕ → ℕ → ℕ → ℕ
end_at s mask v k = end_or v (dir_end s mask v k)

unfoldable pub least_by : List ℕ → ℕ → (ℕ → ℕ) → ℕ → Class → ℕ
least_by s mask D v c = pick (eqb c.cost 0) nowhere (least_of (λ j. D (end_at s mask v (class_dir c j))) 4 + c.cost)

abbrev pub least_two : List ℕ → ℕ → (ℕ → ℕ) → ℕ → Class → Class → ℕ
least_two s mask D v c e = min (least_by s mask D v c) (least_by s mask D v e)

abbrev pub least_first : List ℕ → List Class → ℕ → (ℕ → ℕ) → ℕ → ℕ
least_first s l mask D v = least_two s mask D v (class_at l 0) (class_at l 1)

abbrev pub least_further : List ℕ → List Class → ℕ → (ℕ → ℕ) → ℕ → ℕ
least_further s l mask D v = least_two s mask D v (class_at l 2) (class_at l 3)

unfoldable pub least_at : List ℕ → List Class → ℕ → (ℕ → ℕ) → ℕ → ℕ
least_at s l mask D v =
    pick (eqb (class_at l 2).cost 0) (least_first s l mask D v)
    (min (least_first s l mask D v) (least_further s l mask D v))

unfoldable pub right_by : ℕ → ℕ → (ℕ → ℕ) → ℕ → Bool
right_by x a D v = leb (D v) x && (eqb (D v) x || (eqb (D v) unreachable || eqb v a))

abbrev pub right_least : List ℕ → List Class → ℕ → ℕ → (ℕ → ℕ) → ℕ → Bool
right_least s l mask a D v = right_by (least_at s l mask D v) a D v

pub record DirLent (n : ℕ) (s : List ℕ) (mask v k : ℕ) : Type 0 where
  pub listed : k < length s
  pub movable : Movable mask v k (shifted_by s k)
  pub inside : end_at s mask v k < n

-- A class of no move has nothing to read.
pub record ClassLent (n : ℕ) (s : List ℕ) (mask v : ℕ) (c : Class) : Type 0 where
  pub dir : 0 < c.cost → (j : ℕ) → j < 4 → DirLent n s mask v (class_dir c j)

pub record ClassesLent (n : ℕ) (s : List ℕ) (l : List Class) (mask v : ℕ) : Type 0 where
  pub vertex : v < n
  pub class : (k : ℕ) → k < class_count → ClassLent n s mask v (class_at l k)

pub record MoveBy (g : Graph) (s : List ℕ) (mask v : ℕ) (c : Class) (j m : ℕ) : Type 0 where
  pub dir : j < 4
  pub listed : m < g.moves
  pub step : g.step m v ≡ dir_end s mask v (class_dir c j)
  pub cost : g.cost m ≡ c.cost

pub record ClassMoves (g : Graph) (s : List ℕ) (l : List Class) (mask v : ℕ) : Type 0 where
  pub move : (k j : ℕ) → k < class_count → j < 4 → 0 < (class_at l k).cost → (m : ℕ) × MoveBy g s mask v (class_at l k) j m
  pub covers : (m : ℕ) → m < g.moves
      → (k : ℕ) × (j : ℕ) × (k < class_count) × (0 < (class_at l k).cost) × MoveBy g s mask v (class_at l k) j m
  pub paired : (class_at l 2).cost ≡ (class_at l 3).cost
