-- The four cells in the middle of a move say whether a cell or a step is in its way. That holds for a move that leaves
-- the floor too: a cell that it passes is then outside the floor, and reads as blocked.
--
--   beside-on, beside-off == `beside` of an offset that stays on the floor says the same as sight; of one that leaves
--                            it, true
--   cells-tell            == for a move that is narrow and short: it leads to a vertex with no cell and no step in the
--                            way exactly where `window_blocked` of the four cells in its middle is false
use Prim.Native.Nat.{ℕ, zero, suc, ◌+◌, ◌-◌, ◌≤◌, ◌<◌, max}
use mathlib.Core.Path.{◌≡◌, refl, sym, ap, ap₂, ◌∙◌}
use mathlib.Core.Bool.{Bool, true, not, or-true}
use mathlib.Core.Logic.{◌⊎◌, inl, inr, ⊎_elim}
use mathlib.Core.Option.{Option, none, some}
use native.Mathlib.Omega.{arith}
use lib.IntN.{ℤ, pos, negsuc, nat_abs}
use Rattle.basics.proofs.Order.{le-or-lt}
use Rattle.floor.specs.Floor.{Floor, blocked}
use Rattle.floor.proofs.Cells.{blocked-left, blocked-right, blocked-above, blocked-below}
use Rattle.sight.specs.Sight.{unblocked}
use Rattle.sight.specs.Obstacle.{span}
use Rattle.sight.specs.Travel.{Ends}
use Rattle.sight.proofs.Corners.{axis_blocked, narrow-unblocked}
use Rattle.moves.specs.declared.Move.{Move}
use Rattle.moves.specs.Steps.{up, down, shifted, end_if}
use Rattle.moves.specs.Table.{is_some, Short, narrow}
use Rattle.moves.proofs.Signs.{narrow_one}
use Rattle.moves.specs.Cells.{beside, window_blocked, centre}
use Rattle.moves.proofs.Steps.{
  shifted_at,
  shifted-is,
  shifted-span,
  off-column,
  off_row,
  end-past,
  end-there,
}

-- ---- one coordinate, where p says which cells are blocked

pub beside-on : (n a b : ℕ) (d : ℤ) → nat_abs d ≤ 2 → shifted n a d ≡ some b → (p : ℕ → Bool)
    → beside d (p (centre d a)) (p (suc (centre d a))) ≡ axis_blocked (span a b) (max a b) p
unfolding beside centre axis_blocked up down
beside-on n a b (pos zero) l e p =
    let s = shifted-is n a b (pos 0) e in
    let m : max a b ≡ a = omega arith in
    rw (← shifted-span n a b (pos 0) e, m)
beside-on n a b (pos (suc zero)) l e p =
    let s = shifted-is n a b (pos 1) e in
    let m : max a b ≡ suc a = omega arith in
    rw (← shifted-span n a b (pos 1) e, m)
beside-on n a b (pos (suc (suc zero))) l e p =
    let s = shifted-is n a b (pos 2) e in
    let m : max a b ≡ suc (suc a) = omega arith in
    let c : suc (suc a) - 1 ≡ suc a = omega arith in
    rw (← shifted-span n a b (pos 2) e, m, c)
beside-on n a b (pos (suc (suc (suc k)))) l e p = absurd (omega arith)
beside-on n a b (negsuc zero) l e p =
    let s = shifted-is n a b (negsuc 0) e in
    let m : max a b ≡ a = omega arith in
    rw (← shifted-span n a b (negsuc 0) e, m)
beside-on n a b (negsuc (suc zero)) l e p =
    let s = shifted-is n a b (negsuc 1) e in
    let m : max a b ≡ a = omega arith in
    let c : suc (a - 1) ≡ a = omega arith in
    rw (← shifted-span n a b (negsuc 1) e, m, c)
beside-on n a b (negsuc (suc (suc k))) l e p = absurd (omega arith)

-- An offset that leads off the floor passes a cell outside, which is blocked.
module _ (n a : ℕ) (on : a ≤ n) (p : ℕ → Bool) (low : p 0 ≡ true) (high : (k : ℕ) → n < k → p k ≡ true) where
  -- An offset whose far line is on the floor does not lead off it.
  inside : {P : Type 0} (b : ℕ) (d : ℤ) → shifted n a d ≡ none → b + down d ≡ a + up d → b ≤ n → P
  inside b d e s h =
      let t : none ≡ some b = sym e ∙ shifted_at n a b d s h in
      let z : ◌≡◌ {A = ℕ} 0 1 = cc in
      absurd (omega arith)

  pub beside-off : (d : ℤ) → nat_abs d ≤ 2 → shifted n a d ≡ none
      → beside d (p (centre d a)) (p (suc (centre d a))) ≡ true
  unfolding beside centre up down
  beside-off (pos zero) l e = inside a (pos 0) e (omega arith) on
  beside-off (pos (suc zero)) l e =
      ⊎_elim (λ h. inside (suc a) (pos 1) e (omega arith) h) (λ h. high (suc a) h) (le-or-lt (suc a) n)
  beside-off (pos (suc (suc zero))) l e =
      ⊎_elim (λ h. inside (suc (suc a)) (pos 2) e (omega arith) h)
      (λ h. rw (high (suc (suc a)) h) (or-true (p (suc a)))) (le-or-lt (suc (suc a)) n)
  beside-off (pos (suc (suc (suc k)))) l e = absurd (omega arith)
  beside-off (negsuc zero) l e =
      ⊎_elim (λ h. inside (a - 1) (negsuc 0) e (omega arith) (omega arith))
      (λ h.
      let z : a ≡ 0 = omega arith in
      rw z low) (le-or-lt 1 a)
  beside-off (negsuc (suc zero)) l e =
      ⊎_elim (λ h. inside (a - 2) (negsuc 1) e (omega arith) (omega arith))
      (λ h.
      let z : a - 1 ≡ 0 = omega arith in
      rw (z, low)) (le-or-lt 2 a)
  beside-off (negsuc (suc (suc k))) l e = absurd (omega arith)

-- Two blocked cells shut every offset.
beside-true : (d : ℤ) → beside d true true ≡ true
unfolding beside
beside-true (pos zero) = refl
beside-true (pos (suc zero)) = refl
beside-true (pos (suc (suc n))) = refl
beside-true (negsuc zero) = refl
beside-true (negsuc (suc n)) = refl

-- ---- both

module _ (f : Floor) (m : Move) (x y : ℕ) (lx : x ≤ f.wide) (ly : y ≤ f.high) (short : Short m) where
  abbrev X : ℕ
  X = centre m.dx x

  abbrev Y : ℕ
  Y = centre m.dy y

  -- What the two cells before column line u say of the rows of the move.
  abbrev column : ℕ → Bool
  column u = beside m.dy (blocked f u Y) (blocked f u (suc Y))

  abbrev window : Bool
  window = beside m.dx (column X) (column (suc X))

  -- A move that leads off the floor is shut by its window.
  past-column : shifted f.wide x m.dx ≡ none → window ≡ true
  past-column =
      beside-off f.wide x lx column
      (rw (blocked-left f 0 Y refl, blocked-left f 0 (suc Y) refl) (beside-true m.dy))
      (λ k h. rw (blocked-right f k Y h, blocked-right f k (suc Y) h) (beside-true m.dy)) m.dx short.columns

  past_row : shifted f.high y m.dy ≡ none → window ≡ true
  past_row e =
      let shut : (u : ℕ) → column u ≡ true
      = λ u. beside-off f.high y ly (blocked f u) (blocked-above f u 0 refl) (blocked-below f u) m.dy
      short.rows e in
      ap₂ (beside m.dx) (shut X) (shut (suc X)) ∙ beside-true m.dx

  -- The window of a move to (i, j), one coordinate after the other.
  on-floor : (i j : ℕ) → shifted f.wide x m.dx ≡ some i → shifted f.high y m.dy ≡ some j
      → window ≡ axis_blocked (span x i) (max x i) (λ u. axis_blocked (span y j) (max y j) (blocked f u))
  on-floor i j p q =
      let across : (u : ℕ) → column u ≡ axis_blocked (span y j) (max y j) (blocked f u)
      = λ u. beside-on f.high y j m.dy short.rows q (blocked f u) in
      ap₂ (beside m.dx) (across X) (across (suc X))
      ∙ beside-on f.wide x i m.dx short.columns p (λ u. axis_blocked (span y j) (max y j) (blocked f u))

  tell : narrow m ≡ true → (a b : Option ℕ) → shifted f.wide x m.dx ≡ a → shifted f.high y m.dy ≡ b
      → is_some (end_if unblocked f m x y) ≡ not window
  unfolding is_some
  tell t none b p q = rw (end-past unblocked f m x y (off-column f.wide f.high x y m p), past-column p)
  tell t (some i) none p q = rw (end-past unblocked f m x y (off_row f.wide f.high x y m q), past_row q)
  tell t (some i) (some j) p q =
      let c : nat_abs m.dx ≡ span x i = shifted-span f.wide x i m.dx p in
      let r : nat_abs m.dy ≡ span y j = shifted-span f.high y j m.dy q in
      let ends : Ends f.wide f.high x y i j = record {
        x_first = lx;
        y_first = ly;
        x_last = (shifted-is f.wide x i m.dx p).inside;
        y_last = (shifted-is f.high y j m.dy q).inside;
      } in
      let one : (span x i ≡ 1) ⊎ (span y j ≡ 1)
      = ⊎_elim (λ h. inl (sym c ∙ h)) (λ h. inr (sym r ∙ h)) (narrow_one m t) in
      sym (end-there unblocked f m x y i j lx (record { columns = p; rows = q }))
      ∙ narrow-unblocked f x y i j ends one (rw c at short.columns) (rw r at short.rows)
      ∙ ap not (sym (on-floor i j p q))

pub cells-tell : (f : Floor) (m : Move) (x y : ℕ) → x ≤ f.wide → y ≤ f.high → Short m → narrow m ≡ true
    → let X = centre m.dx x in
    let Y = centre m.dy y in
    is_some (end_if unblocked f m x y)
    ≡ not (window_blocked m.dx m.dy (blocked f X Y) (blocked f (suc X) Y) (blocked f X (suc Y))
    (blocked f (suc X) (suc Y)))
cells-tell f m x y lx ly short t =
    tell f m x y lx ly short t (shifted f.wide x m.dx) (shifted f.high y m.dy) refl refl
