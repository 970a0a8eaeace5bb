-- The map of a floor: read back it gives the floor's cells, its shape is good, and blocking cells on it gives the map
-- of the floor with those cells blocked.
--
--   numbered-cell    == cell_numbered f (cell_number w i j) is the cell in column i and row j
--   map-cell         == read back, the map of a floor gives the floor's cells
--   map-good         == the map of a floor with good sides is of good shape
--   map_same         == floors of one size with the same cells have the same map
--   blocked-more     == to block the cells p and then, on the map, the cells q is to block both
--   in_row i j n x y == the cell in column x and row y is one of the n cells of row j from column i on
--   cell-numbered    == bit_at l c is the cell with number c of the floor whose map is l
--   good-map         == l = map_of (floor_of w h l) where l is of good shape
use Prim.Native.Nat.{ℕ, zero, suc, ◌+◌, ◌*◌, ◌/◌, ◌%◌, ◌≤◌, ◌<◌}
use mathlib.Core.Path.{◌≡◌, refl, sym, ap, ap₂, ◌∙◌}
use mathlib.Core.Bool.{Bool, false, ◌&&◌, ◌||◌, and-false, or-false, or_assoc}
use mathlib.Core.Logic.{◌⊎◌, inl, inr, ⊎_elim}
use mathlib.Core.List.{List}
use native.Mathlib.Omega.{arith}
use native.Mathlib.Nat.{mod-lt, div-add-mod', div-lt_iff_lt-mul, mul-le-mul}
use borrow.Author.Tests.{le-leb, lt-leb, lt-ltb, le-ltb, eq-eqb, ne_eqb}
use lib.Arith.{digits_div, digits_mod}
use lib.Dec.{leb, ltb, eqb}
use lib.ListN.{length}
use Rattle.std.proofs.Common.{Ok}
use Rattle.basics.proofs.Order.{le-or-lt, eq-or-ne}
use Rattle.basics.proofs.Bools.{ltb-shift}
use Rattle.floor.specs.Floor.{
  Floor,
  cell_number,
  bit_at,
  bit_bytes,
  map_length,
  cell_of,
  floor_of,
  cell_numbered,
  map_of,
  with_blocked,
}
use Rattle.floor.specs.Known.{blocked_from}
use Rattle.floor.specs.Refusals.{sides_shape, floor_shape}
use Rattle.floor.proofs.Numbers.{cells-le, cell-lt}
use Rattle.floor.proofs.Shapes.{good_sides, good-floor, floor-good, good-first}
use Rattle.floor.proofs.Packed.{
  Bytes,
  bytes-cong,
  packed-bit,
  packed-length,
  packed-clear,
  packed-cong,
  packed-same,
  unused-open,
}
use Rattle.floor.proofs.Blocking.{in_span}

-- ---- the column and the row of a cell's number

pos : (w h c : ℕ) → c < w * h → 1 ≤ w
pos zero h c l = absurd (omega arith)
pos (suc w) h c l = omega arith

column-lt : (w h c : ℕ) → c < w * h → c % w < w
column-lt w h c l = mod-lt c (pos w h c l)

row_lt : (w h c : ℕ) → c < w * h → c / w < h
row_lt w h c l = (div-lt_iff_lt-mul {k = w} {x = c} {y = h} (pos w h c l)).1 (omega arith)

-- ---- the map of a floor

module _ (f : Floor) where
  map-length : length (map_of f) ≡ map_length (f.wide * f.high)
  unfolding map_of
  map-length = packed-length (f.wide * f.high) (cell_numbered f)

  pub numbered-cell : (i j : ℕ) → i < f.wide → cell_numbered f (cell_number f.wide i j) ≡ f.cell i j
  numbered-cell i j p = ap₂ f.cell (digits_mod j {m = f.wide} {r = i} p) (digits_div j {m = f.wide} {r = i} p)

  pub map-cell : (i j : ℕ) → i < f.wide → j < f.high → cell_of f.wide (map_of f) i j ≡ f.cell i j
  unfolding cell_of map_of
  map-cell i j p q =
      let c = cell_number f.wide i j in
      packed-bit (f.wide * f.high) (cell_numbered f) c
      ∙ rw (lt-ltb c (f.wide * f.high) (cell-lt f.wide f.high i j p q)) (numbered-cell i j p)

  pub map-good : sides_shape f.wide f.high ≡ Ok tt → floor_shape f.wide f.high (map_of f) ≡ Ok tt
  unfolding map_of
  map-good e =
      let s = good_sides f.wide f.high e in
      sym (floor-good f.wide f.high (map_of f) s.wide_pos s.wide s.high_pos s.high map-length
      (packed-clear (f.wide * f.high) (cell_numbered f)))

pub map_same : (w h : ℕ) (p q : ℕ → ℕ → Bool) → ((i j : ℕ) → i < w → j < h → p i j ≡ q i j)
    → map_of (record { wide = w; high = h; cell = p }) ≡ map_of (record { wide = w; high = h; cell = q })
unfolding map_of
map_same w h p q e =
    packed-cong (w * h) _ _ (λ c l. e (c % w) (c / w) (column-lt w h c l) (row_lt w h c l))

pub blocked-more : (f : Floor) (p q : ℕ → ℕ → Bool)
    → map_of (with_blocked (floor_of f.wide f.high (map_of (with_blocked f p))) q)
    ≡ map_of (with_blocked f (λ i j. p i j || q i j))
blocked-more f p q =
    map_same f.wide f.high _ _ (λ i j a b.
    ap (λ c. c || q i j) (map-cell (with_blocked f p) i j a b) ∙ or_assoc (f.cell i j) (p i j) (q i j))

-- ---- cells of a row

abbrev pub in_row : ℕ → ℕ → ℕ → ℕ → ℕ → Bool
in_row i j n x y = eqb y j && (leb i x && ltb x (i + n))

-- Where row j has n cells from column i on, their numbers are the n from that of cell (i, j) on.
row-span : (w i j n x y : ℕ) → x < w → i + n ≤ w
    → (leb (cell_number w i j) (cell_number w x y) && ltb (cell_number w x y) (cell_number w i j + n)) ≡ in_row i j n x y
row-span w i j n x y p q = ⊎_elim
    (λ (e : y ≡ j). rw (e, eq-eqb j j refl) (ap₂ ◌&&◌ from
    (ltb-shift (cell_number w x j) (cell_number w i j + n) x (i + n) (omega arith))))
    (λ (e : y ≡ j → ⊥). other (le-or-lt y j) e ∙ sym (ap (λ b. b && (leb i x && ltb x (i + n))) (ne_eqb y j e)))
    (eq-or-ne y j)
  where
    from : leb (cell_number w i j) (cell_number w x j) ≡ leb i x
    from = ⊎_elim
        (λ (a : i ≤ x). le-leb (cell_number w i j) (cell_number w x j) (omega arith) ∙ sym (le-leb i x a))
        (λ (a : x < i). lt-leb (cell_number w i j) (cell_number w x j) (omega arith) ∙ sym (lt-leb i x a))
        (le-or-lt i x)

    above : y < j → cell_number w x y < cell_number w i j
    above a = omega (arith, mul-le-mul {n₁ = suc y} {m₁ = w} {n₂ = j} {m₂ = w} a (omega arith))

    below : j < y → cell_number w i j + n ≤ cell_number w x y
    below a = omega (arith, mul-le-mul {n₁ = suc j} {m₁ = w} {n₂ = y} {m₂ = w} a (omega arith))

    other : (y ≤ j) ⊎ (j < y) → (y ≡ j → ⊥)
        → (leb (cell_number w i j) (cell_number w x y) && ltb (cell_number w x y) (cell_number w i j + n)) ≡ false
    other (inl a) e = rw (lt-leb (cell_number w i j) (cell_number w x y) (above (omega arith)))
    other (inr a) e =
        rw (
          le-ltb (cell_number w x y) (cell_number w i j + n) (below a),
          and-false (leb (cell_number w i j) (cell_number w x y)),
        )

-- ---- a good map is the map of its floor

pub cell-numbered : (w h : ℕ) (l : List ℕ) (c : ℕ) → bit_at l c ≡ cell_numbered (floor_of w h l) c
unfolding cell_of
cell-numbered w h l c = ap (bit_at l) (sym (div-add-mod' c w))

module _ (w h : ℕ) (l : List ℕ) (g : floor_shape w h l ≡ Ok tt) where
  pub good-map : Bytes l → l ≡ map_of (floor_of w h l)
  unfolding map_of
  good-map small =
      let f = good-floor w h l g in
      packed-same (w * h) (cell_numbered (floor_of w h l)) l small f.sized.size f.unused
      (λ c k. cell-numbered w h l c)

  pub blocked-none : Bytes l → l ≡ map_of (with_blocked (floor_of w h l) (λ i j. false))
  blocked-none small = good-map small ∙ map_same w h _ _ (λ i j a b. sym (or-false (cell_of w l i j)))

  module _ (p : ℕ → ℕ → Bool) where
    pub blocked-good : floor_shape w h (map_of (with_blocked (floor_of w h l) p)) ≡ Ok tt
    unfolding floor_shape
    blocked-good = map-good (with_blocked (floor_of w h l) p) (good-first (sides_shape w h) _ g)

    pub blocked-length : length (map_of (with_blocked (floor_of w h l) p)) ≡ length l
    blocked-length = map-length (with_blocked (floor_of w h l) p) ∙ sym (good-floor w h l g).sized.size

  -- The numbers of n cells of a row are numbers of cells of the map.
  row_within : (i j n : ℕ) → i + n ≤ w → j < h → cell_number w i j + n ≤ w * h
  row_within i j n p q = omega (arith, mul-le-mul {n₁ = suc j} {m₁ = w} {n₂ = h} {m₂ = w} q (omega arith))

  pub row_fits : (i j n : ℕ) → i + n ≤ w → j < h → (cell_number w i j + n ≤ 8 * length l) × (length l ≤ 2017)
  row_fits i j n p q =
      let s = (good-floor w h l g).sized in
      (omega (arith, s.size, row_within i j n p q), omega (arith, s.size, cells-le s.wide s.high))

  -- To block n cells by their numbers is to block n cells of a row.
  pub blocked-row : (i j n : ℕ) → i + n ≤ w → j < h
      → blocked_from (cell_number w i j) n l ≡ map_of (with_blocked (floor_of w h l) (in_row i j n))
  unfolding map_of blocked_from cell_of
  blocked-row i j n p q =
      let f = good-floor w h l g in
      let a = cell_number w i j in
      ap (λ m. bit_bytes m (λ c. bit_at l c || in_span a n c)) f.sized.size
      ∙ bytes-cong (map_length (w * h)) (λ c. bit_at l c || in_span a n c)
      (λ c. ltb c (w * h) && (cell_numbered (floor_of w h l) c || in_row i j n (c % w) (c / w))) (λ c k. ⊎_elim
      (λ (o : suc c ≤ w * h).
      rw (lt-ltb c (w * h) o) (ap₂ ◌||◌ (cell-numbered w h l c)
      (ap (in_span a n) (sym (div-add-mod' c w)) ∙ row-span w i j n (c % w) (c / w) (column-lt w h c o) p)))
      (λ (o : w * h < suc c).
      rw (
        le-ltb c (w * h) (omega arith),
        le-ltb c (a + n) (omega (arith, row_within i j n p q)),
        and-false (leb a c),
        or-false (bit_at l c),
      )
      (unused-open (w * h) l f.unused c (omega (arith, f.sized.size)) (omega arith)))
      (le-or-lt (suc c) (w * h)))
