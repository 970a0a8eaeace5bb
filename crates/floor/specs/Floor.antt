-- docs/RULES.md, section 1: the floor, and how a map is stored, a bit to a cell.
--
--   Floor               == a floor: its sides in cells, and whether the cell in column i and row j is blocked
--   cell_number w i j   == the number of the cell in column i and row j
--   bit_at l c          == bit c of the bytes l: bit c % 8, counted from the low end, of byte c / 8
--   bit_bytes m p       == the m bytes whose bit c is set where p c holds
--   map_length n        == the number of bytes of a map of n cells: n / 8 rounded up
--   packed n p          == the map of n cells of which cell c is blocked where p c holds. Cell c is bit c; the bits of
--                          the last byte past the cells are 0
--   byte_blocked l c    == byte c of l is not 0: cell c is blocked, where the bytes l give the cells
--   stored_cells l      == the map that stores the cells given by the bytes l, 0 open and 1 blocked, row by row
--   cell_of w l i j     == the cell in column i and row j, as the map l of a floor of width w has it
--   floor_of w h l      == the floor of width w and height h whose map is the list of bytes l
--   byte_floor w h l    == the floor of width w and height h whose cells are given by the bytes l, row by row
--   cell_numbered f c   == the cell of floor f with number c
--   map_of f            == the map of floor f
--   cell_bytes f        == the cells of floor f, a byte for each, 1 where it is blocked and 0 where it is open
--   with_blocked f p    == the floor f, blocked also where p holds
--   blocked f x y       == the cell that has the vertex (x, y) as its lower right corner, cell (x - 1, y - 1), is
--                          blocked; everything outside the map is. So cell (i, j) is `blocked f (suc i) (suc j)`, and
--                          the four cells at the vertex (x, y) are `blocked f` at (x, y), (suc x, y), (x, suc y) and
--                          (suc x, suc y)
--   vertices w h        == the number of vertices, V
--   number w x y        == the number of the vertex in column x and row y
--   column w v, row w v == the column and the row of vertex v
use Rattle.std.specs.Prelude.{ℕ, zero, suc, ◌+◌, ◌*◌, ◌/◌, ◌%◌, Bool, true, ◌&&◌, ◌||◌, not, List, ltb, eqb, length, get_or}
use Rattle.basics.specs.Bounded.{pick}
use Rattle.basics.specs.Lists.{tabulate}
use Rattle.basics.specs.Bits.{bit, bits_of}

pub record Floor : Type 0 where
  pub wide : ℕ
  pub high : ℕ
  pub cell : ℕ → ℕ → Bool

abbrev pub cell_number : ℕ → ℕ → ℕ → ℕ
cell_number w i j = j * w + i

abbrev pub bit_at : List ℕ → ℕ → Bool
bit_at l c = bit (get_or l (c / 8) 0) (c % 8)

unfoldable pub bit_bytes : ℕ → (ℕ → Bool) → List ℕ
bit_bytes m p = tabulate m (λ k. bits_of 8 (λ b. p (8 * k + b)))

abbrev pub map_length : ℕ → ℕ
map_length n = (n + 7) / 8

abbrev pub packed : ℕ → (ℕ → Bool) → List ℕ
packed n p = bit_bytes (map_length n) (λ c. ltb c n && p c)

abbrev pub byte_blocked : List ℕ → ℕ → Bool
byte_blocked l c = not (eqb (get_or l c 0) 0)

unfoldable pub stored_cells : List ℕ → List ℕ
stored_cells l = packed (length l) (byte_blocked l)

unfoldable pub cell_of : ℕ → List ℕ → ℕ → ℕ → Bool
cell_of w l i j = bit_at l (cell_number w i j)

abbrev pub floor_of : ℕ → ℕ → List ℕ → Floor
floor_of w h l = record { wide = w; high = h; cell = cell_of w l }

abbrev pub byte_floor : ℕ → ℕ → List ℕ → Floor
byte_floor w h l = record { wide = w; high = h; cell = λ i j. byte_blocked l (cell_number w i j) }

-- The cell with number c stands in column c % w and row c / w.
abbrev pub cell_numbered : Floor → ℕ → Bool
cell_numbered f c = f.cell (c % f.wide) (c / f.wide)

unfoldable pub map_of : Floor → List ℕ
map_of f = packed (f.wide * f.high) (cell_numbered f)

unfoldable pub cell_bytes : Floor → List ℕ
cell_bytes f = tabulate (f.wide * f.high) (λ c. pick (cell_numbered f c) 1 0)

abbrev pub with_blocked : Floor → (ℕ → ℕ → Bool) → Floor
with_blocked f p = record { wide = f.wide; high = f.high; cell = λ i j. f.cell i j || p i j }

unfoldable pub blocked : Floor → ℕ → ℕ → Bool
blocked f zero y = true
blocked f (suc i) zero = true
blocked f (suc i) (suc j) = not (ltb i f.wide && ltb j f.high) || f.cell i j

abbrev pub vertices : ℕ → ℕ → ℕ
vertices w h = suc h * suc w

abbrev pub number : ℕ → ℕ → ℕ → ℕ
number w x y = y * suc w + x

abbrev pub column : ℕ → ℕ → ℕ
column w v = v % suc w

abbrev pub row : ℕ → ℕ → ℕ
row w v = v / suc w

-- On an `unfolding` line `floor-opened` stands for the definitions named below; theorems that are computed use it.
unfoldable pub floor-opened : ℕ
unfolding bits_of bit_bytes stored_cells cell_of map_of cell_bytes blocked
floor-opened = 0
