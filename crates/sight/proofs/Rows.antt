-- Rule 2.11: in each row of a slanted segment a first and a last column bound exactly the cells entered there; and the
-- scan, which counts columns from the first end of the segment, finds these.
--
--   run-bounds == `RowBounds` of the columns that the scan finds for a row
--   row-bounds == each row of a slanted segment has a first and a last column with `RowBounds`
use Prim.Native.Nat.{ℕ, ◌+◌, ◌-◌, ◌*◌, ◌/◌, ◌%◌, ◌≤◌, ◌<◌, min, max}
use mathlib.Core.Path.{◌≡◌, sym, ◌∙◌}
use mathlib.Core.Bool.{true, ◌&&◌}
use mathlib.Core.Logic.{◌≢◌, ⊎_elim}
use native.Mathlib.Omega.{arith}
use native.Mathlib.Nat.{mod-lt, div-add-mod', lt_of_mul-lt-mul_left}
use borrow.Author.Tests.{ltb-true, lt-ltb, leb-true, le-leb}
use lib.Dec.{leb, ltb}
use Rattle.basics.proofs.Order.{le-or-lt, eq-or-ne}
use Rattle.basics.proofs.Bools.{iff-eq, and_intro, and_left, and_right}
use Rattle.sight.specs.Sight.{Segment, segment_of, between, enters}
use Rattle.sight.specs.Obstacle.{span, cell_on}
use Rattle.sight.specs.Rows.{RowBounds}
use Rattle.sight.specs.Travel.{RowRun, Crosses}
use Rattle.sight.proofs.Travel.{
  span-down,
  span-apart,
  cell_on-up,
  cell_on-down,
  cell_on-between,
  between-low,
  between-high,
  between-intro,
  index_on,
  index_on-lt,
  cell_on-index_on,
}
use Rattle.sight.proofs.Enters.{entered-column}
use Rattle.sight.proofs.Runs.{run-corner, run-across}

-- ---- the columns of the scan

module _ (a b first past : ℕ) (some : first < past) (inside : past ≤ span a b) where
  abbrev low : ℕ
  low = min (cell_on a b first) (cell_on a b (past - 1))

  abbrev high : ℕ
  high = max (cell_on a b first) (cell_on a b (past - 1))

  -- The k-th cell from a towards b, whichever way that is.
  module _ (k : ℕ) (l : k < span a b) where
    abbrev c : ℕ
    c = cell_on a b k

    to-range : first ≤ k → k < past → (low ≤ c) × (c ≤ high)
    to-range p q =
        ⊎_elim
        (λ h.
        let u = cell_on-up a b first h in
        let v = cell_on-up a b (past - 1) h in
        let w = cell_on-up a b k h in
        (omega arith, omega arith))
        (λ h.
        let u = cell_on-down a b first h in
        let v = cell_on-down a b (past - 1) h in
        let w = cell_on-down a b k h in
        (omega arith, omega arith)) (le-or-lt a b)

    from-range : low ≤ c → c ≤ high → (first ≤ k) × (k < past)
    from-range p q =
        ⊎_elim
        (λ h.
        let u = cell_on-up a b first h in
        let v = cell_on-up a b (past - 1) h in
        let w = cell_on-up a b k h in
        (omega arith, omega arith))
        (λ h.
        let d = span-down a b (omega arith) in
        let u = cell_on-down a b first h in
        let v = cell_on-down a b (past - 1) h in
        let w = cell_on-down a b k h in
        (omega arith, omega arith)) (le-or-lt a b)

    ranged : (leb first k && ltb k past) ≡ (leb low c && leb c high)
    ranged =
        iff-eq (leb first k && ltb k past) (leb low c && leb c high)
        (λ e.
        let r = to-range (leb-true first k (and_left (leb first k) (ltb k past) e))
        (ltb-true k past (and_right (leb first k) (ltb k past) e)) in
        and_intro (leb low c) (leb c high) (le-leb low c r.0) (le-leb c high r.1))
        (λ e.
        let r = from-range (leb-true low c (and_left (leb low c) (leb c high) e))
        (leb-true c high (and_right (leb low c) (leb c high) e)) in
        and_intro (leb first k) (ltb k past) (le-leb first k r.0) (lt-ltb k past r.1))

  -- Columns from `low` to `high` are between the ends.
  range-between : (i : ℕ) → (leb low i && leb i high) ≡ true → between a b i ≡ true
  range-between i e =
      let p = leb-true low i (and_left (leb low i) (leb i high) e) in
      let q = leb-true i high (and_right (leb low i) (leb i high) e) in
      let u = cell_on-between a b first (omega arith) in
      let v = cell_on-between a b (past - 1) (omega arith) in
      let ul = between-low a b (cell_on a b first) u in
      let uh = between-high a b (cell_on a b first) u in
      let vl = between-low a b (cell_on a b (past - 1)) v in
      let vh = between-high a b (cell_on a b (past - 1)) v in
      between-intro a b i (omega arith) (omega arith)

module _ (x0 y0 x1 y1 r : ℕ) {first past : ℕ} (some : first < past)
    (run : RowRun (segment_of x0 y0 x1 y1) r first past) where
  abbrev s : Segment
  s = segment_of x0 y0 x1 y1

  abbrev j : ℕ
  j = cell_on y0 y1 r

  abbrev lo : ℕ
  lo = low x0 x1 first past some run.inside

  abbrev hi : ℕ
  hi = high x0 x1 first past some run.inside

  at-column : (i : ℕ) → between x0 x1 i ≡ true → enters s i j ≡ (leb lo i && leb i hi)
  at-column i e =
      let c = index_on x0 x1 i in
      let l = index_on-lt x0 x1 i e in
      let g : enters s (cell_on x0 x1 c) j ≡ (leb lo (cell_on x0 x1 c) && leb (cell_on x0 x1 c) hi)
      = run.exact c l ∙ ranged x0 x1 first past some run.inside c l in
      rw (cell_on-index_on x0 x1 i e) at g

  pub run-bounds : RowBounds s j lo hi
  run-bounds = record {
    ordered = omega arith;
    exactly = λ i. iff-eq (enters s i j) (leb lo i && leb i hi)
        (λ e. sym (at-column i (entered-column s i j e)) ∙ e)
        (λ e. at-column i (range-between x0 x1 first past some run.inside i e) ∙ e);
  }

-- ---- every row

crossing : (dx dy k : ℕ) → 0 < dy → Crosses dx dy k (dx * k / dy) (dx * k % dy)
crossing dx dy k h = record { at = omega (arith, div-add-mod' (dx * k) dy); below = mod-lt (dx * k) h }

module _ (s : Segment) (slanted : s.x0 ≢ s.x1) (j : ℕ) (row : between s.y0 s.y1 j ≡ true) where
  abbrev dx : ℕ
  dx = span s.x0 s.x1

  abbrev dy : ℕ
  dy = span s.y0 s.y1

  abbrev rows : ℕ
  rows = index_on s.y0 s.y1 j

  -- Where the segment crosses the two lines of the row.
  abbrev here : ℕ
  here = dx * rows / dy

  abbrev there : ℕ
  there = dx * (rows + 1) / dy

  below-dy : rows < dy
  below-dy = index_on-lt s.y0 s.y1 j row

  crossed-here : Crosses dx dy rows here (dx * rows % dy)
  crossed-here = crossing dx dy rows (omega (arith, below-dy))

  crossed-there : Crosses dx dy (rows + 1) there (dx * (rows + 1) % dy)
  crossed-there = crossing dx dy (rows + 1) (omega (arith, below-dy))

  bounds : {past : ℕ} → here < past → RowRun (segment_of s.x0 s.y0 s.x1 s.y1) rows here past
      → (first : ℕ) × (last : ℕ) × RowBounds s j first last
  bounds l run =
      let b = run-bounds s.x0 s.y0 s.x1 s.y1 rows l run in
      (_, _, rw (cell_on-index_on s.y0 s.y1 j row) at b)

  pub row-bounds : (first : ℕ) × (last : ℕ) × RowBounds s j first last
  row-bounds =
      let C = crossed-here in
      let D = crossed-there in
      let wide = span-apart s.x0 s.x1 slanted in
      ⊎_elim
      (λ z. bounds (lt_of_mul-lt-mul_left dy {m = here} {n = there} (omega (arith, C.at, D.at)))
      (run-corner z s.x0 s.y0 s.x1 s.y1 rows below-dy C D))
      (λ z. bounds (lt_of_mul-lt-mul_left dy {m = here} {n = there + 1} (omega (arith, C.at, D.at, D.below)))
      (run-across z s.x0 s.y0 s.x1 s.y1 rows below-dy C D))
      (eq-or-ne (dx * (rows + 1) % dy) 0)
