-- The cell or the step in the way of the three kinds of segment, as the scans find it, and when there is none.
--
--   upright-obstacle, level-obstacle == `blockage` of a segment along a grid line: the first shut step
--   slanted-obstacle  == `blockage` of a slanted segment: the first blocked cell entered by columns, as the rule has
--                        it, is the first by rows
--   blockage-clear    == `blockage f s` is None exactly when `unblocked f s`
--   cell-past, cell-met == one answer of a scan, from the cells that the code reads
use Prim.Native.Nat.{ℕ, suc, ◌*◌, ◌≤◌, ◌<◌}
use mathlib.Core.Path.{◌≡◌, refl, sym, ap, ◌∙◌}
use mathlib.Core.Bool.{Bool, true, false, ◌&&◌, not}
use mathlib.Core.Logic.{◌≢◌, ⊎_elim}
use native.Mathlib.Omega.{arith}
use native.Mathlib.Nat.{lt_of_mul-lt-mul_left, mul-le-mul}
use borrow.Author.Tests.{eq-eqb, ne_eqb, ltb-true, not-false}
use lib.Dec.{ltb, eqb}
use Rattle.std.specs.Prelude.{Option, None}
use Rattle.basics.specs.Bounded.{pick, every}
use Rattle.basics.proofs.Order.{eq-or-ne}
use Rattle.basics.proofs.Bools.{and_left, and_right}
use Rattle.basics.proofs.Bounded.{pick_yes, pick_no, every-cong}
use Rattle.floor.specs.Floor.{Floor, blocked}
use Rattle.sight.specs.Sight.{Segment, segment_of, upright_open, level_open, unblocked}
use Rattle.sight.specs.Obstacle.{
  is_clear,
  cell_at,
  step_at,
  span,
  cell_on,
  start_on,
  first,
  blocked_cell,
  upright_step,
  level_step,
  blockage,
}
use Rattle.sight.specs.Travel.{Ends, upright_free, level_free, touches, cell_free, row_free, row_cell, row_obstacle}
use Rattle.sight.specs.declared.Obstacle.{Obstacle}
use Rattle.sight.proofs.Enters.{enters_on}
use Rattle.sight.proofs.Sees.{upright-sees, level-sees, slanted-sees}
use Rattle.sight.proofs.First.{first-every, first_cong, stairs-first}

-- A choice between None and an obstacle is None exactly where the test holds.
clear-pick : (t : Bool) (o : Option Obstacle) → is_clear o ≡ false → is_clear (pick t None o) ≡ t
clear-pick true o e = refl
clear-pick false o e = e

pub pick-not : (t : Bool) (a b : Option Obstacle) → pick t a b ≡ pick (not t) b a
pick-not true a b = refl
pick-not false a b = refl

-- ---- one answer of a scan

module _ (f : Floor) (s : Segment) (r c : ℕ) where
  abbrev named : Option Obstacle
  named = cell_at f (cell_on s.x0 s.x1 c) (cell_on s.y0 s.y1 r)

  pub cell-past : cell_free f s r c ≡ true → row_cell f s r c ≡ None
  unfolding row_cell
  cell-past e = pick_yes (cell_free f s r c) None named e

  pub cell-met : cell_free f s r c ≡ false → row_cell f s r c ≡ named
  unfolding row_cell
  cell-met e = pick_no (cell_free f s r c) None named e

  cell-clear : is_clear (row_cell f s r c) ≡ cell_free f s r c
  unfolding row_cell
  cell-clear = clear-pick (cell_free f s r c) named refl

row-clear : (f : Floor) (s : Segment) (r : ℕ) → is_clear (row_obstacle f s r) ≡ row_free f s r
unfolding row_obstacle row_free
row-clear f s r =
    let n = span s.x0 s.x1 in
    first-every n (row_cell f s r)
    ∙ every-cong n (λ c. is_clear (row_cell f s r c)) (cell_free f s r) (λ c l. cell-clear f s r c)

-- ---- the three kinds of segment

-- Of two cells entered, the one in the later row is not in an earlier column.
touches-stairs : (dx dy a b c r : ℕ) → touches dx dy a b ≡ true → touches dx dy c r ≡ true → b < r → a ≤ c
unfolding touches
touches-stairs dx dy a b c r e d l =
    let p : dy * a < dx * suc b
    = ltb-true (dy * a) (dx * suc b) (and_left (ltb (dy * a) (dx * suc b)) (ltb (dx * b) (dy * suc a)) e) in
    let q : dx * r < dy * suc c
    = ltb-true (dx * r) (dy * suc c) (and_right (ltb (dy * c) (dx * suc r)) (ltb (dx * r) (dy * suc c)) d) in
    let m = mul-le-mul {n₁ = dx} {m₁ = suc b} {n₂ = dx} {m₂ = r} (omega arith) (omega arith) in
    let t : a < suc c = lt_of_mul-lt-mul_left dy {m = a} {n = suc c} (omega arith) in
    omega arith

module _ (f : Floor) (x0 y0 x1 y1 : ℕ) where
  abbrev s : Segment
  s = segment_of x0 y0 x1 y1

  abbrev upright : Option Obstacle
  upright = first (span y0 y1) (upright_step f x0 y0 y1)

  abbrev level : Option Obstacle
  level = first (span x0 x1) (level_step f y0 x0 x1)

  abbrev slanted : Option Obstacle
  slanted = first (span x0 x1) (λ c. first (span y0 y1) (blocked_cell f s c))

  pub upright-obstacle : x0 ≡ x1 → blockage f s ≡ upright
  unfolding blockage
  upright-obstacle e = pick_yes (eqb x0 x1) upright (pick (eqb y0 y1) level slanted) (eq-eqb x0 x1 e)

  pub level-obstacle : x0 ≢ x1 → y0 ≡ y1 → blockage f s ≡ level
  unfolding blockage
  level-obstacle n e =
      pick_no (eqb x0 x1) upright (pick (eqb y0 y1) level slanted) (ne_eqb x0 x1 n)
      ∙ pick_yes (eqb y0 y1) level slanted (eq-eqb y0 y1 e)

  pub columns-obstacle : x0 ≢ x1 → y0 ≢ y1 → blockage f s ≡ slanted
  unfolding blockage
  columns-obstacle n m =
      pick_no (eqb x0 x1) upright (pick (eqb y0 y1) level slanted) (ne_eqb x0 x1 n)
      ∙ pick_no (eqb y0 y1) level slanted (ne_eqb y0 y1 m)

  cell_same : (c r : ℕ) → c < span x0 x1 → r < span y0 y1 → blocked_cell f s c r ≡ row_cell f s r c
  unfolding blocked_cell row_cell cell_free
  cell_same c r lc lr =
      let i = cell_on x0 x1 c in
      let j = cell_on y0 y1 r in
      let b = blocked f (suc i) (suc j) in
      ap (λ t. pick (b && t) (cell_at f i j) None) (enters_on x0 y0 x1 y1 c r lc lr)
      ∙ pick-not (b && touches (span x0 x1) (span y0 y1) c r) (cell_at f i j) None

  touched : (c r : ℕ) → is_clear (row_cell f s r c) ≡ false → touches (span x0 x1) (span y0 y1) c r ≡ true
  unfolding cell_free
  touched c r e =
      let b = blocked f (suc (cell_on x0 x1 c)) (suc (cell_on y0 y1 r)) in
      let t = touches (span x0 x1) (span y0 y1) c r in
      and_right b t (not-false (b && t) (sym (cell-clear f s r c) ∙ e))

  pub slanted-obstacle : x0 ≢ x1 → y0 ≢ y1 → blockage f s ≡ first (span y0 y1) (row_obstacle f s)
  unfolding row_obstacle
  slanted-obstacle n m =
      let dx = span x0 x1 in
      let dy = span y0 y1 in
      columns-obstacle n m
      ∙ first_cong dx (λ c. first dy (blocked_cell f s c)) (λ c. first dy (λ r. row_cell f s r c)) (λ c lc.
      first_cong dy (blocked_cell f s c) (λ r. row_cell f s r c) (λ r lr. cell_same c r lc lr))
      ∙ stairs-first dx dy (λ c r. row_cell f s r c) (λ a b c r p q l.
      touches-stairs dx dy a b c r (touched a b p) (touched c r q) l)

-- ---- clear or not

module _ (f : Floor) (x0 y0 x1 y1 : ℕ) (e : Ends f.wide f.high x0 y0 x1 y1) where
  abbrev t : Segment
  t = segment_of x0 y0 x1 y1

  -- `blockage` is None exactly when `unblocked`, where each answer of the scan is None exactly where its test holds,
  -- and the tests together are `unblocked`.
  scanned : (n : ℕ) (F : ℕ → Option Obstacle) (p : ℕ → Bool) → blockage f t ≡ first n F → unblocked f t ≡ every n p
      → ((k : ℕ) → is_clear (F k) ≡ p k) → is_clear (blockage f t) ≡ unblocked f t
  scanned n F p o q h =
      ap is_clear o ∙ first-every n F ∙ every-cong n (λ k. is_clear (F k)) p (λ k l. h k) ∙ sym q

  upright-clear : (k : ℕ) → is_clear (upright_step f x0 y0 y1 k) ≡ upright_free f x0 y0 y1 k
  unfolding upright_step upright_free
  upright-clear k = clear-pick (upright_open f x0 (cell_on y0 y1 k)) (step_at f x0 (start_on y0 y1 k)) refl

  level-clear : (k : ℕ) → is_clear (level_step f y0 x0 x1 k) ≡ level_free f y0 x0 x1 k
  unfolding level_step level_free
  level-clear k = clear-pick (level_open f (cell_on x0 x1 k) y0) (step_at f (start_on x0 x1 k) y0) refl

  pub blockage-clear : is_clear (blockage f t) ≡ unblocked f t
  blockage-clear =
      ⊎_elim
      (λ p. scanned (span y0 y1) (upright_step f x0 y0 y1) (upright_free f x0 y0 y1) (upright-obstacle f x0 y0 x1 y1 p)
      (upright-sees f x0 y0 x1 y1 e p) upright-clear)
      (λ n. ⊎_elim
      (λ q. scanned (span x0 x1) (level_step f y0 x0 x1) (level_free f y0 x0 x1) (level-obstacle f x0 y0 x1 y1 n q)
      (level-sees f x0 y0 x1 y1 e q) level-clear)
      (λ m. scanned (span y0 y1) (row_obstacle f t) (row_free f t) (slanted-obstacle f x0 y0 x1 y1 n m)
      (slanted-sees f x0 y0 x1 y1 e n m) (row-clear f t)) (eq-or-ne y0 y1)) (eq-or-ne x0 x1)
