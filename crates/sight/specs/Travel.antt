-- Used by contracts between functions; nobody has to believe it: laws tie it to the definitions.
-- Columns and rows counted from the first end of a segment towards the other, whichever way it goes, as the scans count
-- them.
--
--   Ends w h x0 y0 x1 y1   == both ends of a segment lie on the floor
--   Apart x0 y0 x1 y1 c r  == the ends (x0, y0) and (x1, y1) are c columns and r rows apart
--   Narrow c r             == c columns and r rows are what a move leads: one column or one row, and at most two of the
--                             other
--   upright_to f x y, level_to f x y == the step along column line x that ends on row line y is not shut, and the step
--                            along row line y that ends on column line x
--   upright_free f x a b k, level_free f y a b k == the k-th step from a towards b along column line x is not shut, and
--                            that along row line y
--   touches dx dy c r      == a segment from (0, 0) to (dx, dy) enters the cell (c, r)
--   cell_free f s r c, row_free f s r == the cell c columns and r rows from the first end is open or not entered; each
--                            cell of the row r rows from it is
--   row_cell f s r c, row_obstacle f s r == the cell c columns and r rows from the first end where it is blocked and
--                            entered, else None; the first such cell of the row r rows from it
--   cell_there f s r c     == the cell c columns and r rows from the first end where it is blocked, entered or not;
--                             else None
--   RowRun s r first past  == the cells that s enters in the row r rows from its first end are those from column
--                             `first` to before column `past`, counted from that end
--   Crosses dx dy r c rest == a segment dx columns wide and dy rows high crosses the row line r rows from its first end
--                             c columns and rest / dy of a column from there
--   Carried c rest step part dy c' rest' == one row after the crossing at c and rest is the crossing at c' and rest',
--                            where a row is worth `step` columns and part / dy of a column
--   RunBetween c rest c' rest' past == a segment that crosses the two lines of a row at c and rest, and at c' and
--                            rest', enters there the cells from column c to before column `past`
--   pinch_here f x y       == the vertex (x, y) where it is a pinch, else None
--   pinch_there f s c r    == the vertex c columns and r rows from the first end where it is a pinch, passed or not;
--                             else None
--   Divides a b            == b is a multiple of a
--   Common a b n           == n is the greatest common divisor of a and b
use Rattle.std.specs.Prelude.{ℕ, suc, ◌+◌, ◌*◌, ◌≤◌, ◌<◌, ◌≡◌, ◌⊎◌, Bool, ◌&&◌, not, leb, ltb, Option, None}
use Rattle.basics.specs.Bounded.{pick, every}
use Rattle.floor.specs.Floor.{Floor, blocked}
use Rattle.sight.specs.Sight.{Segment, segment_of, enters, upright_open, level_open, pinch}
use Rattle.sight.specs.Obstacle.{cell_at, span, cell_on, start_on, first, pinch_at}
use Rattle.sight.specs.declared.Obstacle.{Obstacle}

pub record Ends (w h x0 y0 x1 y1 : ℕ) : Type 0 where
  pub x_first : x0 ≤ w
  pub y_first : y0 ≤ h
  pub x_last : x1 ≤ w
  pub y_last : y1 ≤ h

pub record Apart (x0 y0 x1 y1 columns rows : ℕ) : Type 0 where
  pub columns_are : columns ≡ span x0 x1
  pub rows_are : rows ≡ span y0 y1

pub record Narrow (columns rows : ℕ) : Type 0 where
  pub columns_few : columns ≤ 2
  pub rows_few : rows ≤ 2
  pub one : (columns ≡ 1) ⊎ (rows ≡ 1)

-- `upright_open f x j` is `upright_to f x (suc j)`, and `level_open f i y` is `level_to f (suc i) y`.
abbrev pub upright_to : Floor → ℕ → ℕ → Bool
upright_to f x y = not (blocked f x y && blocked f (suc x) y)

abbrev pub level_to : Floor → ℕ → ℕ → Bool
level_to f x y = not (blocked f x y && blocked f x (suc y))

unfoldable pub upright_free : Floor → ℕ → ℕ → ℕ → ℕ → Bool
upright_free f x a b k = upright_open f x (cell_on a b k)

unfoldable pub level_free : Floor → ℕ → ℕ → ℕ → ℕ → Bool
level_free f y a b k = level_open f (cell_on a b k) y

unfoldable pub touches : ℕ → ℕ → ℕ → ℕ → Bool
touches dx dy c r = ltb (dy * c) (dx * suc r) && ltb (dx * r) (dy * suc c)

unfoldable pub cell_free : Floor → Segment → ℕ → ℕ → Bool
cell_free f s r c =
    not (blocked f (suc (cell_on s.x0 s.x1 c)) (suc (cell_on s.y0 s.y1 r))
    && touches (span s.x0 s.x1) (span s.y0 s.y1) c r)

unfoldable pub row_free : Floor → Segment → ℕ → Bool
row_free f s r = every (span s.x0 s.x1) (cell_free f s r)

unfoldable pub row_cell : Floor → Segment → ℕ → ℕ → Option Obstacle
row_cell f s r c = pick (cell_free f s r c) None (cell_at f (cell_on s.x0 s.x1 c) (cell_on s.y0 s.y1 r))

unfoldable pub cell_there : Floor → Segment → ℕ → ℕ → Option Obstacle
cell_there f s r c =
    let i = cell_on s.x0 s.x1 c in
    let j = cell_on s.y0 s.y1 r in
    pick (blocked f (suc i) (suc j)) (cell_at f i j) None

unfoldable pub row_obstacle : Floor → Segment → ℕ → Option Obstacle
row_obstacle f s r = first (span s.x0 s.x1) (row_cell f s r)

pub record RowRun (s : Segment) (r first past : ℕ) : Type 0 where
  pub ordered : first ≤ past
  pub inside : past ≤ span s.x0 s.x1
  pub exact : (c : ℕ) → c < span s.x0 s.x1
      → enters s (cell_on s.x0 s.x1 c) (cell_on s.y0 s.y1 r) ≡ (leb first c && ltb c past)

-- ---- crossings

pub record Crosses (dx dy r c rest : ℕ) : Type 0 where
  pub at : dx * r ≡ dy * c + rest
  pub below : rest < dy

pub record Carried (c rest step part dy c' rest' : ℕ) : Type 0 where
  pub same : dy * c' + rest' ≡ dy * c + rest + (dy * step + part)
  pub below : rest' < dy

abbrev pub RunBetween : ℕ → ℕ → ℕ → ℕ → ℕ → Type 0
RunBetween c rest c' rest' past =
    (x0 y0 x1 y1 r : ℕ) → r < span y0 y1 → Crosses (span x0 x1) (span y0 y1) r c rest
    → Crosses (span x0 x1) (span y0 y1) (r + 1) c' rest' → RowRun (segment_of x0 y0 x1 y1) r c past

-- ---- pinches

unfoldable pub pinch_here : Floor → ℕ → ℕ → Option Obstacle
pinch_here f x y = pick (pinch f x y) (pinch_at f x y) None

unfoldable pub pinch_there : Floor → Segment → ℕ → ℕ → Option Obstacle
pinch_there f s c r = pinch_here f (start_on s.x0 s.x1 c) (start_on s.y0 s.y1 r)

pub record Divides (a b : ℕ) : Type 0 where
  pub times : ℕ
  pub is : b ≡ a * times

-- n divides both, and what divides r times both divides r times n.
pub record Common (a b n : ℕ) : Type 0 where
  pub first : Divides n a
  pub second : Divides n b
  pub greatest : (m r : ℕ) → Divides m (a * r) → Divides m (b * r) → Divides m (n * r)
