-- Used by contracts between functions; nobody has to believe it: laws tie it to the definitions.
-- A window is the four cells at a vertex, as a number below 16: bit c says that cell c of a floor of 2 by 2 is blocked.
-- The masks of the sixteen windows, joined, say the same as `Leaving`.
--
--   pair_at f x y         == the two cells to the left of column line x at row line y: 1 where the upper is blocked,
--                            and 4 where the lower is
--   window_at f x y       == the number of the window at the vertex (x, y)
--   pinch_of ul ur ll lr  == a vertex with these cells, upper left to lower right, is a pinch
--   open_in m ul ur ll lr == no cell and no step is in the way of a move of the offsets of m that has these four cells
--                            beside it, and their vertex is no pinch
--   start_of d            == the line of a floor of 2 by 2, 0, 1 or 2, from which a move by d has its cells in that
--                            floor
--   Window r b n          == n is the mask of window b for the directions r
--   WindowsTo r k l       == the list l has at each place b below k the mask of window b for the directions r
--   WindowRow f y t n l   == the list l begins with the masks, read from the list t, of the windows at the first n
--                            vertices of row y
--   WindowLines f y t above here below == `WindowRow` of the list above at y - 1, of here at y and of below at y + 1
--   unit_dirs r           == no move of the directions r goes two columns or two rows
--   all_bits              == the mask with the bits of all directions
--   unit_mask, left_mask, right_mask, upper_mask, lower_mask == of the directions of the sixteen, those of the eight moves
--                       by at most one column and one row, with the bit of a pinch; and of the moves by two, those to
--                       the left, right, up and down
--   joined_mask here left right upper lower == the mask with the unit directions of here, and the directions of the
--                       other four to their sides, unless here marks a pinch
use Rattle.std.specs.Prelude.{ℕ, suc, ◌+◌, ◌-◌, ◌*◌, ◌/◌, ◌<◌, ◌≡◌, Bool, ◌&&◌, ◌||◌, not, List, leb, ℤ, nat_abs, length, get_or}
use Rattle.std.specs.Int.Bits.{bit_or, bit_and}
use Rattle.basics.specs.Bounded.{pick, every}
use Rattle.basics.specs.Bits.{bit}
use Rattle.floor.specs.Floor.{Floor, blocked}
use Rattle.moves.specs.declared.Move.{Move}
use Rattle.moves.specs.declared.Directions.{Directions}
use Rattle.moves.specs.Moves.{dir_at, move_at}
use Rattle.moves.specs.Steps.{up, down}
use Rattle.moves.specs.Cells.{window_blocked}
use Rattle.masks.specs.Masks.{pinch_bit}

abbrev pub pair_at : Floor → ℕ → ℕ → ℕ
pair_at f x y = pick (blocked f x y) 1 0 + pick (blocked f x (suc y)) 4 0

abbrev pub window_at : Floor → ℕ → ℕ → ℕ
window_at f x y = pair_at f x y + 2 * pair_at f (suc x) y

abbrev pub pinch_of : Bool → Bool → Bool → Bool → Bool
pinch_of ul ur ll lr = (ul && lr && (not ur && not ll)) || (not ul && not lr && (ur && ll))

abbrev pub open_in : Move → Bool → Bool → Bool → Bool → Bool
open_in m ul ur ll lr = not (window_blocked m.dx m.dy ul ur ll lr) && not (pinch_of ul ur ll lr)

abbrev pub start_of : ℤ → ℕ
start_of d = 1 + down d / 2 - up d / 2

pub record Window (r : Directions) (b n : ℕ) : Type 0 where
  pub dirs : (m : ℕ) → m < r.count → bit n (dir_at r m) ≡ open_in (move_at r m) (bit b 0) (bit b 1) (bit b 2) (bit b 3)
  pub mark : bit n pinch_bit ≡ pinch_of (bit b 0) (bit b 1) (bit b 2) (bit b 3)

pub record WindowsTo (r : Directions) (k : ℕ) (l : List ℕ) : Type 0 where
  pub len : length l ≡ 16
  pub at : (b : ℕ) → b < k → Window r b (get_or l b 0)

pub record WindowRow (f : Floor) (y : ℕ) (t : List ℕ) (n : ℕ) (l : List ℕ) : Type 0 where
  pub len : length l ≡ 128
  pub at : (x : ℕ) → x < n → get_or l x 0 ≡ get_or t (window_at f x y) 0

pub record WindowLines (f : Floor) (y : ℕ) (t above here below : List ℕ) : Type 0 where
  pub upper : WindowRow f (y - 1) t (suc f.wide) above
  pub middle : WindowRow f y t (suc f.wide) here
  pub lower : WindowRow f (suc y) t (suc f.wide) below

-- ---- the directions of the sixteen by where their cells are

abbrev pub unit_dirs : Directions → Bool
unit_dirs r = every r.count (λ m. leb (nat_abs (move_at r m).dx) 1 && leb (nat_abs (move_at r m).dy) 1)

abbrev pub all_bits : ℕ
all_bits = 4294967295

abbrev pub unit_mask : ℕ
unit_mask = 1431666688

abbrev pub left_mask : ℕ
left_mask = 41943040

abbrev pub right_mask : ℕ
right_mask = 2147614720

abbrev pub upper_mask : ℕ
upper_mask = 671088640

abbrev pub lower_mask : ℕ
lower_mask = 2621440

abbrev pub joined_mask : ℕ → ℕ → ℕ → ℕ → ℕ → ℕ
joined_mask here left right upper lower =
    bit_or (bit_and here unit_mask)
    (bit_and
    (bit_or (bit_or (bit_or (bit_and left left_mask) (bit_and right right_mask)) (bit_and upper upper_mask))
    (bit_and lower lower_mask))
    (pick (bit here pinch_bit) 0 all_bits))
