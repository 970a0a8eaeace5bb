-- Vertex and cell numbers stay in range, and a vertex number is made of its column and row.
--
--   vertices-le, cells-le     == with sides up to 127 a floor has at most 16,384 vertices and 16,129 cells
--   mul-fits, mul-add-fits    == a * b and a * b + c fit 64 bits where none of the numbers is above 128
--   vertices-pos              == 1 <= vertices w h
--   column-le, row-le         == the column of a vertex is at most w, its row at most h
--   column-by, row_by         == column and row of v are remainder and quotient by d, where d = w + 1
--   number_lt                 == number w x y < vertices w h where x <= w and y <= h
--   column-number, row_number == column and row of number w x y are x and y
--   number_of                 == number w (column w v) (row w v) = v
--   cell-lt                   == j * w + i < w * h where i < w and j < h
--   cell-inside               == the cell before the vertex (x, y) has a bit in the map, where x and y are 1 or more
use Prim.Native.Nat.{ℕ, suc, ◌+◌, ◌-◌, ◌*◌, ◌/◌, ◌%◌, ◌^◌, ◌≤◌, ◌<◌}
use mathlib.Core.Path.{◌≡◌, refl}
use mathlib.Core.List.{List}
use native.Mathlib.Omega.{arith}
use native.Mathlib.Nat.{mod-lt, div-add-mod', div-lt_iff_lt-mul, mul-le-mul}
use lib.ListN.{length}
use lib.Arith.{digits_lt, digits_div, digits_mod}
use Rattle.floor.specs.Floor.{vertices, number, column, row}
use Rattle.floor.specs.Known.{Sized}

pub vertices-le : {w h : ℕ} → w ≤ 127 → h ≤ 127 → vertices w h ≤ 16384
vertices-le {w} {h} p q = mul-le-mul {n₁ = suc h} {m₁ = suc w} {n₂ = 128} {m₂ = 128} (omega arith) (omega arith)

pub cells-le : {w h : ℕ} → w ≤ 127 → h ≤ 127 → w * h ≤ 16129
cells-le {w} {h} p q = mul-le-mul {n₁ = w} {m₁ = h} {n₂ = 127} {m₂ = 127} p q

pub mul-fits : {a b : ℕ} → a ≤ 128 → b ≤ 128 → a * b < 2 ^ 64
mul-fits {a} {b} p q = omega (arith, mul-le-mul {n₁ = a} {m₁ = b} {n₂ = 128} {m₂ = 128} p q)

pub mul-add-fits : {a b c : ℕ} → a ≤ 128 → b ≤ 128 → c ≤ 128 → a * b + c < 2 ^ 64
mul-add-fits {a} {b} {c} p q r = omega (arith, mul-le-mul {n₁ = a} {m₁ = b} {n₂ = 128} {m₂ = 128} p q)

pub vertices-pos : (w h : ℕ) → 1 ≤ vertices w h
vertices-pos w h = mul-le-mul {n₁ = 1} {m₁ = 1} {n₂ = suc h} {m₂ = suc w} (omega arith) (omega arith)

pub column-le : (w v : ℕ) → column w v ≤ w
column-le w v = omega (arith, mod-lt v {m = suc w} (omega arith))

pub row-le : (w h v : ℕ) → v < vertices w h → row w v ≤ h
row-le w h v l = omega (arith, (div-lt_iff_lt-mul {k = suc w} {x = v} {y = suc h} (omega arith)).1 l)

pub column-by : (w v d : ℕ) → d ≡ suc w → (v % d ≡ column w v) × (v % d ≤ w)
column-by w v d e = rw e (refl, column-le w v)

pub row_by : (w h v d : ℕ) → d ≡ suc w → v < vertices w h → (v / d ≡ row w v) × (v / d ≤ h)
row_by w h v d e l = rw e (refl, row-le w h v l)

pub number_lt : (w h x y : ℕ) → x ≤ w → y ≤ h → number w x y < vertices w h
number_lt w h x y p q = digits_lt {q = y} {m = suc h} {r = x} {c = suc w} (omega arith) (omega arith)

pub column-number : (w x y : ℕ) → x ≤ w → column w (number w x y) ≡ x
column-number w x y p = digits_mod y {m = suc w} {r = x} (omega arith)

pub row_number : (w x y : ℕ) → x ≤ w → row w (number w x y) ≡ y
row_number w x y p = digits_div y {m = suc w} {r = x} (omega arith)

pub number_of : (w v : ℕ) → number w (column w v) (row w v) ≡ v
number_of w v = div-add-mod' v (suc w)

pub cell-lt : (w h i j : ℕ) → i < w → j < h → j * w + i < w * h
cell-lt w h i j p q = omega (arith, mul-le-mul {n₁ = suc j} {m₁ = w} {n₂ = h} {m₂ = w} (omega arith) (omega arith))

pub cell-inside : {w h x y : ℕ} {l : List ℕ} → Sized w h l → 1 ≤ x → x ≤ w → 1 ≤ y → y ≤ h
    → (y - 1) * w + (x - 1) < 8 * length l
cell-inside {w} {h} {x} {y} {l} g a b c d =
    omega (arith, g.size, cell-lt w h (x - 1) (y - 1) (omega arith) (omega arith))
