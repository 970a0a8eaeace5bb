-- The cells that a segment enters in one row: from the column in which it crosses the first line of the row, to before
-- the first column that it has not reached at the second line.
--
--   Bounds dx dy r first past == a segment dx columns wide and dy rows high enters, in the row r rows from its first
--                    end, the columns from `first` to before `past`; stated by products
--   touches-run   == `touches dx dy c r` exactly when first ≤ c < past, where `Bounds dx dy r first past`
--   crosses-..    == `Crosses` of the first row line, and of each line after it; the crossing is in the box of the
--                    segment
--   run-corner, run-across == `RunBetween` two crossings, where the second is a vertex, and where it is not
--   run-found     == what the cells of a row's run hold first is the row's obstacle
--   steep-..      == for a segment with more rows than columns, the crossing of the next row line, and the row's
--                    obstacle by its one cell or its two
use Prim.Native.Nat.{ℕ, suc, ◌+◌, ◌-◌, ◌*◌, ◌/◌, ◌%◌, ◌≤◌, ◌<◌}
use mathlib.Core.Path.{◌≡◌, refl, sym, ap, ◌∙◌}
use mathlib.Core.Bool.{false, ◌&&◌, and-false}
use mathlib.Core.Logic.{◌≢◌, ⊎_elim}
use native.Mathlib.Omega.{arith}
use native.Mathlib.Nat.{div-add-mod', mul-le-mul, le_of_mul-le-mul_left, lt_of_mul-lt-mul_left}
use borrow.Author.Tests.{ltb-true, lt-ltb, le-ltb, leb-true, le-leb, lt-leb}
use lib.Dec.{leb, ltb}
use Rattle.std.specs.Prelude.{Option, Some, None}
use Rattle.basics.specs.Bounded.{pick}
use Rattle.basics.proofs.Order.{le-or-lt, eq-or-ne}
use Rattle.basics.proofs.Bools.{iff-eq, and_intro, and_left, and_right}
use Rattle.floor.specs.Floor.{Floor, blocked}
use Rattle.sight.specs.Sight.{Segment, segment_of}
use Rattle.sight.specs.Obstacle.{is_clear, cell_at, span, cell_on}
use Rattle.sight.specs.Travel.{
  touches,
  row_cell,
  cell_there,
  row_obstacle,
  RowRun,
  Crosses,
  Carried,
  RunBetween,
}
use Rattle.sight.specs.declared.Obstacle.{Obstacle}
use Rattle.sight.proofs.Enters.{enters_on}
use Rattle.sight.proofs.Sees.{free-untouched, free-touched}
use Rattle.sight.proofs.First.{first-none, first-hit}
use Rattle.sight.proofs.Found.{Found}
use Rattle.sight.proofs.Obstacles.{pick-not, cell-past}

-- ---- the run of a row, over the spans

record Bounds (dx dy r first past : ℕ) : Type 0 where
  reached : dy * first ≤ dx * r
  begun : dx * r < dy * suc first
  ended : dx * suc r ≤ dy * past
  needed : dy * past < dx * suc r + dy

module _ {dx dy r first past : ℕ} (b : Bounds dx dy r first past) where
  from_first : (c : ℕ) → dx * r < dy * suc c → first ≤ c
  from_first c l =
      let k : first < suc c = lt_of_mul-lt-mul_left dy {m = first} {n = suc c} (omega (arith, b.reached)) in
      omega arith

  first-from : (c : ℕ) → first ≤ c → dx * r < dy * suc c
  first-from c l =
      omega (arith, b.begun, mul-le-mul {n₁ = dy} {m₁ = suc first} {n₂ = dy} {m₂ = suc c} (omega arith) (omega arith))

  to-past : (c : ℕ) → dy * c < dx * suc r → c < past
  to-past c l = lt_of_mul-lt-mul_left dy {m = c} {n = past} (omega (arith, b.ended))

  past_to : (c : ℕ) → c < past → dy * c < dx * suc r
  past_to c l =
      omega (arith, b.needed, mul-le-mul {n₁ = dy} {m₁ = suc c} {n₂ = dy} {m₂ = past} (omega arith) l)

  touches-run : (c : ℕ) → touches dx dy c r ≡ (leb first c && ltb c past)
  unfolding touches
  touches-run c =
      let low = ltb (dy * c) (dx * suc r) in
      let high = ltb (dx * r) (dy * suc c) in
      iff-eq (low && high) (leb first c && ltb c past)
      (λ e. and_intro (leb first c) (ltb c past)
      (le-leb first c (from_first c (ltb-true (dx * r) (dy * suc c) (and_right low high e))))
      (lt-ltb c past (to-past c (ltb-true (dy * c) (dx * suc r) (and_left low high e)))))
      (λ e. and_intro low high
      (lt-ltb (dy * c) (dx * suc r) (past_to c (ltb-true c past (and_right (leb first c) (ltb c past) e))))
      (lt-ltb (dx * r) (dy * suc c) (first-from c (leb-true first c (and_left (leb first c) (ltb c past) e)))))

  -- The columns entered in a row of the box are below dx.
  past-le : r < dy → past ≤ dx
  past-le l =
      let m = mul-le-mul {n₁ = dx} {m₁ = suc r} {n₂ = dx} {m₂ = dy} (omega arith) l in
      let k : past < suc dx = lt_of_mul-lt-mul_left dy {m = past} {n = suc dx} (omega (arith, b.needed)) in
      omega arith

  -- `first` is at most `past`.
  first-le : r < dy → first ≤ past
  first-le l =
      le_of_mul-le-mul_left {m = first} {n = past} {k = dy} (omega (arith, b.reached, b.ended)) (omega arith)

-- ---- the run between two crossings

pub crosses-first : (dx dy : ℕ) → 1 ≤ dy → Crosses dx dy 0 0 0
crosses-first dx dy h = record { at = omega arith; below = h }

pub crosses-next : {u v dx dy r c rest c' rest' : ℕ} → u ≡ dx → v ≡ dy → Crosses dx dy r c rest
    → Carried c rest (u / v) (u % v) v c' rest' → Crosses dx dy (r + 1) c' rest'
crosses-next {u} {v} {dx} {dy} {r} {c} {rest} {c'} {rest'} p q C k =
    let d : Carried c rest (dx / dy) (dx % dy) dy c' rest' = rw (p, q) at k in
    record { at = omega (arith, C.at, d.same, div-add-mod' dx dy); below = d.below }

pub crosses-inside : {dx dy r c rest : ℕ} → Crosses dx dy r c rest → r ≤ dy → c ≤ dx
crosses-inside {dx} {dy} {r} {c} C l =
    le_of_mul-le-mul_left {m = c} {n = dx} {k = dy}
    (omega (arith, C.at, mul-le-mul {n₁ = dx} {m₁ = r} {n₂ = dx} {m₂ = dy} (omega arith) l)) (omega (arith, C.below))

module _ {c rest c' rest' : ℕ} where
  bounded : {past : ℕ}
      → ((dx dy r : ℕ) → Crosses dx dy r c rest → Crosses dx dy (r + 1) c' rest' → Bounds dx dy r c past)
      → RunBetween c rest c' rest' past
  bounded {past} B x0 y0 x1 y1 r lr C D =
      let b = B (span x0 x1) (span y0 y1) r C D in
      record {
        ordered = first-le b lr;
        inside = past-le b lr;
        exact = λ k l. enters_on x0 y0 x1 y1 k r l lr ∙ touches-run b k;
      }

  pub run-corner : rest' ≡ 0 → RunBetween c rest c' rest' c'
  run-corner z = bounded (λ dx dy r C D. record {
    reached = omega (arith, C.at);
    begun = omega (arith, C.at, C.below);
    ended = omega (arith, D.at);
    needed = omega (arith, D.at, D.below);
  })

  pub run-across : rest' ≢ 0 → RunBetween c rest c' rest' (c' + 1)
  run-across z = bounded (λ dx dy r C D. record {
    reached = omega (arith, C.at);
    begun = omega (arith, C.at, C.below);
    ended = omega (arith, D.at, D.below);
    needed = omega (arith, D.at, D.below);
  })

-- ---- the cells of a row

module _ (f : Floor) (x0 y0 x1 y1 r : ℕ) (lr : r < span y0 y1) {first past : ℕ}
    (run : RowRun (segment_of x0 y0 x1 y1) r first past) where
  abbrev t : Segment
  t = segment_of x0 y0 x1 y1

  abbrev n : ℕ
  n = span x0 x1

  untouched : (c : ℕ) → c < n → (leb first c && ltb c past) ≡ false → row_cell f t r c ≡ None
  untouched c l e =
      cell-past f t r c (free-untouched f t r c (sym (enters_on x0 y0 x1 y1 c r l lr) ∙ run.exact c l ∙ e))

  before : (c : ℕ) → c < first → row_cell f t r c ≡ None
  before c l =
      let i = run.inside in
      let h = run.ordered in
      untouched c (omega arith) (rw (lt-leb first c l))

  -- The cell in a column from `first` to before `past` is in the way exactly where it is blocked.
  there : (c : ℕ) → first ≤ c → c < past → row_cell f t r c ≡ cell_there f t r c
  unfolding cell_there row_cell
  there c b l =
      let i = cell_on x0 x1 c in
      let j = cell_on y0 y1 r in
      let k : c < n = omega (arith, run.inside) in
      ap (λ b. pick b None (cell_at f i j))
      (free-touched f t r c
      (sym (enters_on x0 y0 x1 y1 c r k lr) ∙ run.exact c k
      ∙ and_intro (leb first c) (ltb c past) (le-leb first c b) (lt-ltb c past l)))
      ∙ sym (pick-not (blocked f (suc i) (suc j)) (cell_at f i j) None)

  clear-to : (c : ℕ) → c ≤ past → ((k : ℕ) → first ≤ k → k < c → cell_there f t r k ≡ None) → (k : ℕ) → k < c
      → row_cell f t r k ≡ None
  clear-to c l h k m =
      ⊎_elim (λ b. there k b (omega arith) ∙ h k b m) (λ b. before k b) (le-or-lt first k)

  -- What the cells of the run hold first is the row's obstacle.
  pub run-found : (o : Option Obstacle) → Found first past (cell_there f t r) o → o ≡ row_obstacle f t r
  unfolding row_obstacle
  run-found None h =
      sym (first-none n (row_cell f t r) (λ k l.
      ⊎_elim (λ b. clear-to past (omega arith) h k b)
      (λ b. untouched k l (rw (le-ltb k past (omega arith)) (and-false (leb first k)))) (le-or-lt (suc k) past)))
  run-found (Some y) h =
      let c = h.0 in
      let e = there c h.1 h.2 ∙ h.3 in
      sym (first-hit n c (row_cell f t r) (omega (arith, run.inside, h.2)) (clear-to c (omega (arith, h.2)) h.4)
      (ap is_clear e) ∙ e)

-- ---- one cell in a row or two

-- The next crossing of a segment with more rows than columns is in the same column or in the next.
module _ {dx dy r c rest u v : ℕ} (C : Crosses dx dy r c rest) (p : u ≡ dx) (q : v ≡ dy) where
  pub steep-same : rest + u < v → Crosses dx dy (r + 1) c (rest + u)
  steep-same l = record { at = omega (arith, C.at); below = omega arith }

  pub steep-next : dx < dy → v ≤ rest + u → Crosses dx dy (r + 1) (c + 1) (rest + u - v)
  steep-next s l = record { at = omega (arith, C.at); below = omega (arith, C.below) }

-- The cells entered in a row of such a segment, from its first column on: one or two.
module _ (f : Floor) (x0 y0 x1 y1 r : ℕ) {c rest : ℕ} (wide : 1 ≤ span x0 x1) (steep : span x0 x1 < span y0 y1)
    (lr : r < span y0 y1) (C : Crosses (span x0 x1) (span y0 y1) r c rest) where
  abbrev s : Segment
  s = segment_of x0 y0 x1 y1

  abbrev dx : ℕ
  dx = span x0 x1

  abbrev dy : ℕ
  dy = span y0 y1

  abbrev G : ℕ → Option Obstacle
  G = cell_there f s r

  same-run : rest + dx < dy → RowRun s r c (c + 1)
  same-run h = run-across (λ z. omega (arith, wide)) x0 y0 x1 y1 r lr C (steep-same C refl refl h)

  corner-run : dy ≤ rest + dx → rest + dx - dy ≡ 0 → RowRun s r c (c + 1)
  corner-run h z = run-corner z x0 y0 x1 y1 r lr C (steep-next C refl refl steep h)

  next-run : dy ≤ rest + dx → rest + dx - dy ≢ 0 → RowRun s r c (c + 1 + 1)
  next-run h z = run-across z x0 y0 x1 y1 r lr C (steep-next C refl refl steep h)

  pub steep-inside : c < dx
  steep-inside =
      ⊎_elim
      (λ h. ⊎_elim (λ z. omega (arith, (corner-run h z).inside)) (λ z. omega (arith, (next-run h z).inside))
      (eq-or-ne (rest + dx - dy) 0))
      (λ h. omega (arith, (same-run h).inside)) (le-or-lt dy (rest + dx))

  pub steep-second-inside : dy ≤ rest + dx → rest + dx - dy ≢ 0 → c + 1 < dx
  steep-second-inside h z = omega (arith, (next-run h z).inside)

  at-first : {past : ℕ} → c < past → {y : Obstacle} → G c ≡ Some y → Found c past G (Some y)
  at-first l e = (c, omega arith, l, e, λ k a b. absurd (omega arith))

  -- What is in the way in the first cell is the row's obstacle.
  pub steep-first : {y : Obstacle} → G c ≡ Some y → Some y ≡ row_obstacle f s r
  steep-first {y} e =
      ⊎_elim
      (λ h. ⊎_elim (λ z. run-found f x0 y0 x1 y1 r lr (corner-run h z) (Some y) (at-first (omega arith) e))
      (λ z. run-found f x0 y0 x1 y1 r lr (next-run h z) (Some y) (at-first (omega arith) e))
      (eq-or-ne (rest + dx - dy) 0))
      (λ h. run-found f x0 y0 x1 y1 r lr (same-run h) (Some y) (at-first (omega arith) e)) (le-or-lt dy (rest + dx))

  none-first : G c ≡ None → (k : ℕ) → c ≤ k → k < c + 1 → G k ≡ None
  none-first e k a b = let q : k ≡ c = omega arith in ap G q ∙ e

  pub steep-same-clear : G c ≡ None → rest + dx < dy → None ≡ row_obstacle f s r
  steep-same-clear e h = run-found f x0 y0 x1 y1 r lr (same-run h) None (none-first e)

  pub steep-corner-clear : G c ≡ None → dy ≤ rest + dx → rest + dx - dy ≡ 0 → None ≡ row_obstacle f s r
  steep-corner-clear e h z = run-found f x0 y0 x1 y1 r lr (corner-run h z) None (none-first e)

  -- Where the first cell is not in the way, the second tells.
  pub steep-second : {o : Option Obstacle} → G c ≡ None → dy ≤ rest + dx → rest + dx - dy ≢ 0 → o ≡ G (c + 1)
      → o ≡ row_obstacle f s r
  steep-second {o} e h z q = run-found f x0 y0 x1 y1 r lr (next-run h z) o (either o q)
    where
      either : (p : Option Obstacle) → p ≡ G (c + 1) → Found c (c + 1 + 1) G p
      either None q =
          λ k a b.
          ⊎_elim (λ l. none-first e k a (omega arith)) (λ l. let i : k ≡ c + 1 = omega arith in ap G i ∙ sym q)
          (le-or-lt (suc k) (c + 1))
      either (Some y) q = (c + 1, omega arith, omega arith, sym q, λ k a b. none-first e k a b)
