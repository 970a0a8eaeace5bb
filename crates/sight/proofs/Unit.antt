-- Whether a cell or a step is in the way of a short segment: of a unit segment along a grid line by the two cells
-- beside it, across a diagonal by the one cell; of two columns and one row, or one column and two rows, by the two
-- cells entered.
--
--   unit-still, -upright, -level, -slanted == `unblocked` of two ends at most one column and one row apart
--   two-columns, two-rows                  == `unblocked` of two ends two columns and one row apart, and one column and
--                                             two rows
--   two_cells                              == `two-columns` and `two-rows` in one formula, by the cells that the code
--                                             reads
--   unit-clear                             == `blockage` is None where `unblocked`
--   upright-step, level-step, slanted-cell == `blockage` of a unit segment that is blocked: its one step, or its one
--                                             cell
use Prim.Native.Nat.{ℕ, suc, ◌+◌, ◌-◌, ◌≤◌, max}
use mathlib.Core.Path.{◌≡◌, refl, sym, ap, ap₂, ◌∙◌}
use mathlib.Core.Bool.{Bool, true, false, ◌&&◌, ◌||◌, not, and-true, and_comm}
use mathlib.Core.Logic.{⊎_elim, ◌≢◌}
use native.Mathlib.Omega.{arith}
use Rattle.std.specs.Prelude.{Option, None}
use Rattle.basics.specs.Bounded.{every}
use Rattle.basics.proofs.Order.{le-or-lt}
use Rattle.floor.specs.Floor.{Floor, blocked}
use Rattle.sight.specs.Sight.{Segment, segment_of, upright_open, level_open, unblocked}
use Rattle.sight.specs.Obstacle.{cell_at, step_at, span, cell_on, first, upright_step, level_step, blockage}
use Rattle.sight.specs.Travel.{
  Ends,
  upright_to,
  level_to,
  upright_free,
  level_free,
  touches,
  cell_free,
  row_free,
  row_cell,
  row_obstacle,
}
use Rattle.sight.specs.declared.Obstacle.{Obstacle}
use Rattle.sight.proofs.Travel.{cell_on-up, cell_on-down, start_first}
use Rattle.sight.proofs.Sees.{upright-sees, level-sees, slanted-sees}
use Rattle.sight.proofs.Symmetry.{unblocked-self}
use Rattle.sight.proofs.First.{clear-is}
use Rattle.sight.proofs.Obstacles.{
  upright-obstacle,
  level-obstacle,
  slanted-obstacle,
  cell-met,
  blockage-clear,
}

span_none : (a b : ℕ) → span a b ≡ 0 → a ≡ b
unfolding span
span_none a b n = omega arith

module _ (a b : ℕ) (n : span a b ≡ 1) where
  apart : a ≢ b
  unfolding span
  apart e = omega arith

  -- The one cell between a and b is the one before the higher.
  cell-one : suc (cell_on a b 0) ≡ max a b
  unfolding span
  cell-one =
      ⊎_elim (λ h. omega (arith, cell_on-up a b 0 h)) (λ h. omega (arith, cell_on-down a b 0 h)) (le-or-lt a b)

-- The two cells between a and b are the one before the higher and the one before that.
both-open : (a b : ℕ) (p : ℕ → Bool) → span a b ≡ 2
    → (not (p (suc (cell_on a b 0))) && not (p (suc (cell_on a b 1)))) ≡ not (p (max a b - 1) || p (max a b))
unfolding span
both-open a b p n =
    ⊎_elim
    (λ h.
    let c : suc (cell_on a b 0) ≡ max a b - 1 = omega (arith, cell_on-up a b 0 h) in
    let d : suc (cell_on a b 1) ≡ max a b = omega (arith, cell_on-up a b 1 h) in
    rw (c, d) (neither (p (max a b - 1)) (p (max a b))))
    (λ h.
    let c : suc (cell_on a b 0) ≡ max a b = omega (arith, cell_on-down a b 0 h) in
    let d : suc (cell_on a b 1) ≡ max a b - 1 = omega (arith, cell_on-down a b 1 h) in
    rw (c, d)
    (and_comm (not (p (max a b))) (not (p (max a b - 1))) ∙ neither (p (max a b - 1)) (p (max a b))))
    (le-or-lt a b)
  where
    neither : (c d : Bool) → (not c && not d) ≡ not (c || d)
    neither true d = refl
    neither false d = refl

every_one : (n : ℕ) (p : ℕ → Bool) → n ≡ 1 → every n p ≡ p 0
unfolding every
every_one n p e = rw e

every_two : (n : ℕ) (p : ℕ → Bool) → n ≡ 2 → every n p ≡ (p 0 && p 1)
unfolding every
every_two n p e = rw e

first_one : (n : ℕ) (F : ℕ → Option Obstacle) → n ≡ 1 → first n F ≡ F 0
unfolding first
first_one n F e = rw e

module _ (f : Floor) (x0 y0 x1 y1 : ℕ) (e : Ends f.wide f.high x0 y0 x1 y1) where
  abbrev s : Segment
  s = segment_of x0 y0 x1 y1

  pub unit-still : span x0 x1 ≡ 0 → span y0 y1 ≡ 0 → unblocked f s ≡ true
  unit-still p q = rw (← span_none x0 x1 p, ← span_none y0 y1 q) (unblocked-self f x0 y0)

  pub unit-upright : span x0 x1 ≡ 0 → span y0 y1 ≡ 1 → unblocked f s ≡ upright_to f x0 (max y0 y1)
  unfolding upright_free upright_open
  unit-upright p q =
      upright-sees f x0 y0 x1 y1 e (span_none x0 x1 p) ∙ every_one (span y0 y1) (upright_free f x0 y0 y1) q
      ∙ rw (cell-one y0 y1 q)

  pub unit-level : span x0 x1 ≡ 1 → span y0 y1 ≡ 0 → unblocked f s ≡ level_to f (max x0 x1) y0
  unfolding level_free level_open
  unit-level p q =
      level-sees f x0 y0 x1 y1 e (span_none y0 y1 q) ∙ every_one (span x0 x1) (level_free f y0 x0 x1) p
      ∙ rw (cell-one x0 x1 p)

  -- Across a diagonal, the one cell between the ends is free where it is open.
  free_one : span x0 x1 ≡ 1 → span y0 y1 ≡ 1 → cell_free f s 0 0 ≡ not (blocked f (max x0 x1) (max y0 y1))
  unfolding cell_free touches
  free_one p q =
      rw (cell-one x0 x1 p, cell-one y0 y1 q, p, q) (ap not (and-true (blocked f (max x0 x1) (max y0 y1))))

  pub unit-slanted : span x0 x1 ≡ 1 → span y0 y1 ≡ 1 → unblocked f s ≡ not (blocked f (max x0 x1) (max y0 y1))
  unfolding row_free
  unit-slanted p q =
      slanted-sees f x0 y0 x1 y1 e (apart x0 x1 p) (apart y0 y1 q) ∙ every_one (span y0 y1) (row_free f s) q
      ∙ every_one (span x0 x1) (cell_free f s 0) p ∙ free_one p q

  -- ---- two columns and one row, or one and two

  pub two-columns : span x0 x1 ≡ 2 → span y0 y1 ≡ 1
      → unblocked f s ≡ not (blocked f (max x0 x1 - 1) (max y0 y1) || blocked f (max x0 x1) (max y0 y1))
  unfolding row_free cell_free touches span
  two-columns p q =
      let y = max y0 y1 in
      slanted-sees f x0 y0 x1 y1 e (λ z. omega arith) (λ z. omega arith) ∙ every_one (span y0 y1) (row_free f s) q
      ∙ every_two (span x0 x1) (cell_free f s 0) p
      ∙ rw (cell-one y0 y1 q, p, q)
      (ap₂ (λ a b. not a && not b) (and-true (blocked f (suc (cell_on x0 x1 0)) y))
      (and-true (blocked f (suc (cell_on x0 x1 1)) y)))
      ∙ both-open x0 x1 (λ x. blocked f x y) p

  pub two-rows : span x0 x1 ≡ 1 → span y0 y1 ≡ 2
      → unblocked f s ≡ not (blocked f (max x0 x1) (max y0 y1 - 1) || blocked f (max x0 x1) (max y0 y1))
  unfolding row_free cell_free touches span
  two-rows p q =
      let x = max x0 x1 in
      slanted-sees f x0 y0 x1 y1 e (λ z. omega arith) (λ z. omega arith) ∙ every_two (span y0 y1) (row_free f s) q
      ∙ ap₂ ◌&&◌ (every_one (span x0 x1) (cell_free f s 0) p) (every_one (span x0 x1) (cell_free f s 1) p)
      ∙ rw (cell-one x0 x1 p, p, q)
      (ap₂ (λ a b. not a && not b) (and-true (blocked f x (suc (cell_on y0 y1 0))))
      (and-true (blocked f x (suc (cell_on y0 y1 1)))))
      ∙ both-open y0 y1 (blocked f x) q

  -- The last cell by column and by row, and the one before it on the axis that is two long.
  pub two_cells : span x0 x1 ≤ 2 → span y0 y1 ≤ 2 → span x0 x1 + span y0 y1 ≡ 3
      → unblocked f s
      ≡ not (blocked f (max x0 x1 + 1 - span x0 x1) (max y0 y1 + 1 - span y0 y1)
      || blocked f (max x0 x1) (max y0 y1))
  two_cells c r t =
      ⊎_elim
      (λ h.
      let p : span x0 x1 ≡ 1 = omega arith in
      let q : span y0 y1 ≡ 2 = omega arith in
      let x : max x0 x1 + 1 - 1 ≡ max x0 x1 = omega arith in
      let y : max y0 y1 + 1 - 2 ≡ max y0 y1 - 1 = omega arith in
      rw (p, q, x, y) (two-rows p q))
      (λ h.
      let p : span x0 x1 ≡ 2 = omega arith in
      let q : span y0 y1 ≡ 1 = omega arith in
      let x : max x0 x1 + 1 - 2 ≡ max x0 x1 - 1 = omega arith in
      let y : max y0 y1 + 1 - 1 ≡ max y0 y1 = omega arith in
      rw (p, q, x, y) (two-columns p q)) (le-or-lt (span x0 x1) 1)

  -- ---- what is in the way

  pub unit-clear : unblocked f s ≡ true → None ≡ blockage f s
  unit-clear t = sym (clear-is (blockage f s) (blockage-clear f x0 y0 x1 y1 e ∙ t))

  module _ (shut : unblocked f s ≡ false) where
    -- Something is in the way, so that the ends are two vertices.
    two : span x0 x1 ≡ 0 → span y0 y1 ≢ 0
    two p q =
        let t : true ≡ false = sym (unit-still p q) ∙ shut in
        let z : ◌≡◌ {A = ℕ} 0 1 = cc in
        omega arith

    pub upright-step : span x0 x1 ≡ 0 → span y0 y1 ≤ 1 → step_at f x0 y0 ≡ blockage f s
    unfolding upright_step upright_open
    upright-step p n =
        let q : span y0 y1 ≡ 1 = omega (arith, two p) in
        let free : upright_to f x0 (max y0 y1) ≡ false = sym (unit-upright p q) ∙ shut in
        sym
        (upright-obstacle f x0 y0 x1 y1 (span_none x0 x1 p) ∙ first_one (span y0 y1) (upright_step f x0 y0 y1) q
        ∙ rw (cell-one y0 y1 q, start_first y0 y1, free))

    pub level-step : span x0 x1 ≡ 1 → span y0 y1 ≡ 0 → step_at f x0 y0 ≡ blockage f s
    unfolding level_step level_open
    level-step p q =
        let free : level_to f (max x0 x1) y0 ≡ false = sym (unit-level p q) ∙ shut in
        sym
        (level-obstacle f x0 y0 x1 y1 (apart x0 x1 p) (span_none y0 y1 q)
        ∙ first_one (span x0 x1) (level_step f y0 x0 x1) p
        ∙ rw (cell-one x0 x1 p, start_first x0 x1, free))

    pub slanted-cell : span x0 x1 ≡ 1 → span y0 y1 ≡ 1
        → cell_at f (max x0 x1 - 1) (max y0 y1 - 1) ≡ blockage f s
    unfolding row_obstacle
    slanted-cell p q =
        let i : max x0 x1 - 1 ≡ cell_on x0 x1 0 = omega (arith, cell-one x0 x1 p) in
        let j : max y0 y1 - 1 ≡ cell_on y0 y1 0 = omega (arith, cell-one y0 y1 q) in
        ap₂ (cell_at f) i j
        ∙ sym
        (slanted-obstacle f x0 y0 x1 y1 (apart x0 x1 p) (apart y0 y1 q)
        ∙ first_one (span y0 y1) (row_obstacle f s) q
        ∙ first_one (span x0 x1) (row_cell f s 0) p
        ∙ cell-met f s 0 0 (free_one p q ∙ sym (unit-slanted p q) ∙ shut))
