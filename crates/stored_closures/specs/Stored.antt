-- A closure table in plain memory: 64 numbers, four for each of the sixteen slots, and the plain map from slot to
-- rectangle for which they stand. The numbers may be any. A slot is free where its columns are 0, whatever its other
-- three numbers are. Any other slot is held, even where its rectangle has no rows or leaves the floor; no post leaves
-- such a rectangle.
--
--   rectangle_of c r m n  == the rectangle with first column c and first row r, of m columns and n rows
--   rectangle_at l k      == the rectangle of the four numbers of slot k
--   hold_of r             == what a slot with the numbers of r holds: none where r has no columns, else r
--   stored_in l           == the plain map for which the numbers l stand; a slot above 15 holds nothing
--   with_numbers l k r    == the numbers l with the four of slot k set to those of the rectangle r
--   no_numbers            == the rectangle whose four numbers are 0
--   post_stored w h l r   == the numbers after r is posted on a floor of width w and height h; l at a refusal
--   strike_stored w h l k == the numbers after slot k is struck; l at a refusal
--   PostsIn, StrikesIn, WritesFrom == the answer of an operation and what it leaves, for every input
use Rattle.std.specs.Prelude.{ℕ, ◌+◌, ◌*◌, ◌≡◌, List, ltb, eqb, length, get_or, set}
use Rattle.std.specs.Prelude.{Option, None, Some, Result}
use Rattle.basics.specs.Bounded.{pick}
use Rattle.floor.specs.Refusals.{Shape, left_by}
use Rattle.floor.specs.declared.Refusal.{Refusal}
use Rattle.closures.specs.Plain.{Plain, lowest_free, post_shape, post_answer, strike_shape, work_shape, work_left}
use Rattle.closures.specs.declared.Rectangle.{Rectangle}

abbrev pub rectangle_of : ℕ → ℕ → ℕ → ℕ → Rectangle
rectangle_of c r m n = record { column = c; row = r; columns = m; rows = n }

-- Slot k has the numbers from place 4 * k on: column, row, columns, rows.
abbrev pub rectangle_at : List ℕ → ℕ → Rectangle
rectangle_at l k =
    rectangle_of (get_or l (4 * k) 0) (get_or l (4 * k + 1) 0) (get_or l (4 * k + 2) 0) (get_or l (4 * k + 3) 0)

abbrev pub hold_of : Rectangle → Option Rectangle
hold_of r = pick (eqb r.columns 0) None (Some r)

unfoldable pub stored_in : List ℕ → Plain
stored_in l k = pick (ltb k 16) (hold_of (rectangle_at l k)) None

unfoldable pub with_numbers : List ℕ → ℕ → Rectangle → List ℕ
with_numbers l k r =
    set (set (set (set l (4 * k) r.column) (4 * k + 1) r.row) (4 * k + 2) r.columns) (4 * k + 3) r.rows

abbrev pub no_numbers : Rectangle
no_numbers = rectangle_of 0 0 0 0

abbrev pub post_stored : ℕ → ℕ → List ℕ → Rectangle → List ℕ
post_stored w h l r = left_by (post_shape w h (stored_in l) r) (with_numbers l (lowest_free (stored_in l)) r) l

abbrev pub strike_stored : ℕ → ℕ → List ℕ → ℕ → List ℕ
strike_stored w h l k = left_by (strike_shape w h (stored_in l) k) (with_numbers l k no_numbers) l

pub record PostsIn (w h : ℕ) (l : List ℕ) (r : Rectangle) (answer : Result ℕ Refusal) (left : List ℕ) : Type 0 where
  pub answers : answer ≡ post_answer w h (stored_in l) r
  pub leaves : left ≡ post_stored w h l r

pub record StrikesIn (w h : ℕ) (l : List ℕ) (k : ℕ) (answer : Shape) (left : List ℕ) : Type 0 where
  pub answers : answer ≡ strike_shape w h (stored_in l) k
  pub leaves : left ≡ strike_stored w h l k

pub record WritesFrom (w h : ℕ) (l base work : List ℕ) (answer : Shape) (left : List ℕ) : Type 0 where
  pub answers : answer ≡ work_shape w h base (length work)
  pub leaves : left ≡ work_left w h base (stored_in l) work
