-- `unblocked`, tested from the first end on: the steps along a column line, the steps along a row line, and for a
-- slanted segment the rows of its box.
--
--   upright-sees, level-sees == `unblocked` of a segment along a grid line: every step is free, since it enters no cell
--   slanted-sees             == `unblocked` of a slanted segment: every row of its box is free, since it has no steps
--   free-..                  == whether a cell is free, from the cell that the code reads
use Prim.Native.Nat.{ℕ, suc, ◌≤◌, ◌<◌}
use mathlib.Core.Path.{◌≡◌, refl, sym, ◌∙◌}
use mathlib.Core.Bool.{Bool, true, false, ◌&&◌, ◌||◌, not, or-true, and-true, and-false}
use mathlib.Core.Logic.{◌≢◌}
use borrow.Author.Tests.{eq-eqb, ne_eqb}
use lib.Dec.{eqb}
use Rattle.basics.specs.Bounded.{every}
use Rattle.basics.proofs.Bools.{iff-eq, not-both, not-and}
use Rattle.basics.proofs.Bounded.{every-all, every-at}
use Rattle.floor.specs.Floor.{Floor, blocked}
use Rattle.sight.specs.Sight.{
  Segment,
  segment_of,
  between,
  enters,
  no_cell_entered,
  upright_open,
  level_open,
  no_step_shut,
  unblocked,
}
use Rattle.sight.specs.Obstacle.{span, cell_on}
use Rattle.sight.specs.Travel.{Ends, upright_free, level_free, touches, cell_free, row_free}
use Rattle.sight.proofs.Travel.{between_none, every-on, cell_on-lt, index_on, index_on-lt, cell_on-index_on}
use Rattle.sight.proofs.Enters.{enters_on, entered-column, entered-row}

-- ---- along a grid line

pub none-entered : (f : Floor) (s : Segment) → ((i j : ℕ) → enters s i j ≡ false) → no_cell_entered f s ≡ true
unfolding no_cell_entered
none-entered f s h =
    every-all f.wide (λ i. every f.high (λ j. not (blocked f (suc i) (suc j) && enters s i j))) (λ i l.
    every-all f.high (λ j. not (blocked f (suc i) (suc j) && enters s i j)) (λ j m.
    not-and (blocked f (suc i) (suc j)) (enters s i j) (λ e. not-both (enters s i j) e (h i j))))

pub none_between : (n a : ℕ) (p : ℕ → Bool) → every n (λ k. not (between a a k) || p k) ≡ true
none_between n a p = every-all n (λ k. not (between a a k) || p k) (λ k l. rw (between_none a k))

pub upright-enters : (x y0 y1 i j : ℕ) → enters (segment_of x y0 x y1) i j ≡ false
unfolding enters
upright-enters x y0 y1 i j = rw (between_none x i)

level-enters : (x0 x1 y i j : ℕ) → enters (segment_of x0 y x1 y) i j ≡ false
unfolding enters
level-enters x0 x1 y i j = rw (between_none y j, and-false (between x0 x1 i))

upright-same : (f : Floor) (x y0 y1 : ℕ) → y0 ≤ f.high → y1 ≤ f.high
    → unblocked f (segment_of x y0 x y1) ≡ every (span y0 y1) (upright_free f x y0 y1)
unfolding unblocked no_step_shut upright_free
upright-same f x y0 y1 p q =
    rw (
      none-entered f (segment_of x y0 x y1) (upright-enters x y0 y1),
      eq-eqb x x refl,
      none_between f.wide x (λ i. level_open f i y0),
      or-true (not (eqb y0 y1)),
    )
    (and-true (every f.high (λ j. not (between y0 y1 j) || upright_open f x j))
    ∙ every-on f.high y0 y1 (upright_open f x) p q)

level-same : (f : Floor) (y x0 x1 : ℕ) → x0 ≤ f.wide → x1 ≤ f.wide
    → unblocked f (segment_of x0 y x1 y) ≡ every (span x0 x1) (level_free f y x0 x1)
unfolding unblocked no_step_shut level_free
level-same f y x0 x1 p q =
    rw (
      none-entered f (segment_of x0 y x1 y) (level-enters x0 x1 y),
      eq-eqb y y refl,
      none_between f.high y (upright_open f x0),
      or-true (not (eqb x0 x1)),
    )
    (every-on f.wide x0 x1 (λ i. level_open f i y) p q)

-- ---- the three kinds of segment

module _ (f : Floor) (x0 y0 x1 y1 : ℕ) (e : Ends f.wide f.high x0 y0 x1 y1) where
  pub upright-sees : x0 ≡ x1 → unblocked f (segment_of x0 y0 x1 y1) ≡ every (span y0 y1) (upright_free f x0 y0 y1)
  upright-sees p = rw (← p) (upright-same f x0 y0 y1 e.y_first e.y_last)

  pub level-sees : y0 ≡ y1 → unblocked f (segment_of x0 y0 x1 y1) ≡ every (span x0 x1) (level_free f y0 x0 x1)
  level-sees p = rw (← p) (level-same f y0 x0 x1 e.x_first e.x_last)

  abbrev s : Segment
  s = segment_of x0 y0 x1 y1

  abbrev free : ℕ → ℕ → Bool
  free i j = not (blocked f (suc i) (suc j) && enters s i j)

  cell_free-free : (r c : ℕ) → r < span y0 y1 → c < span x0 x1
      → cell_free f s r c ≡ free (cell_on x0 x1 c) (cell_on y0 y1 r)
  unfolding cell_free
  cell_free-free r c lr lc = rw (enters_on x0 y0 x1 y1 c r lc lr)

  to-rows : no_cell_entered f s ≡ true → every (span y0 y1) (row_free f s) ≡ true
  unfolding no_cell_entered row_free
  to-rows t =
      every-all (span y0 y1) (row_free f s) (λ r lr. every-all (span x0 x1) (cell_free f s r) (λ c lc.
      let i = cell_on x0 x1 c in
      let j = cell_on y0 y1 r in
      let li = cell_on-lt x0 x1 c f.wide e.x_first e.x_last lc in
      let lj = cell_on-lt y0 y1 r f.high e.y_first e.y_last lr in
      let column = every-at f.wide (λ k. every f.high (free k)) t i li in
      cell_free-free r c lr lc ∙ every-at f.high (free i) column j lj))

  -- A cell that is entered is free where its row is.
  free-entered : every (span y0 y1) (row_free f s) ≡ true → (i j : ℕ) → enters s i j ≡ true → free i j ≡ true
  unfolding row_free
  free-entered rows i j t =
      let bx : between x0 x1 i ≡ true = entered-column s i j t in
      let by : between y0 y1 j ≡ true = entered-row s i j t in
      let c = index_on x0 x1 i in
      let r = index_on y0 y1 j in
      let lc : c < span x0 x1 = index_on-lt x0 x1 i bx in
      let lr : r < span y0 y1 = index_on-lt y0 y1 j by in
      let row = every-at (span y0 y1) (row_free f s) rows r lr in
      let g : free (cell_on x0 x1 c) (cell_on y0 y1 r) ≡ true
      = sym (cell_free-free r c lr lc) ∙ every-at (span x0 x1) (cell_free f s r) row c lc in
      rw (cell_on-index_on x0 x1 i bx, cell_on-index_on y0 y1 j by) at g

  from-rows : every (span y0 y1) (row_free f s) ≡ true → no_cell_entered f s ≡ true
  unfolding no_cell_entered
  from-rows rows =
      every-all f.wide (λ i. every f.high (free i)) (λ i li. every-all f.high (free i) (λ j lj.
      not-and (blocked f (suc i) (suc j)) (enters s i j) (free-entered rows i j)))

  pub slanted-sees : x0 ≢ x1 → y0 ≢ y1 → unblocked f s ≡ every (span y0 y1) (row_free f s)
  unfolding unblocked no_step_shut
  slanted-sees n m =
      rw (ne_eqb x0 x1 n, ne_eqb y0 y1 m)
      (and-true (no_cell_entered f s) ∙ iff-eq (no_cell_entered f s) (every (span y0 y1) (row_free f s)) to-rows from-rows)

-- ---- from the code's readings

-- A cell that is not entered is free, and one that is entered is free where it is not blocked.
module _ (f : Floor) (s : Segment) (r c : ℕ) where
  abbrev reading : Bool
  reading = blocked f (suc (cell_on s.x0 s.x1 c)) (suc (cell_on s.y0 s.y1 r))

  abbrev touched : Bool
  touched = touches (span s.x0 s.x1) (span s.y0 s.y1) c r

  pub free-untouched : touched ≡ false → cell_free f s r c ≡ true
  unfolding cell_free
  free-untouched e = rw (e, and-false reading)

  pub free-touched : touched ≡ true → cell_free f s r c ≡ not reading
  unfolding cell_free
  free-touched e = rw (e, and-true reading)
