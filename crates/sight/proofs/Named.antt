-- What the obstacle that is named says. A named cell is, of the blocked cells entered, the least far in columns from
-- the first end, of equals the least far in rows. A named step is shut, and no step before it is. Where a pinch is
-- named, no cell and no step is in the way, and it is the nearest of the pinches passed.
--
--   far a i              == the number of cells between the grid line a and cell i
--   Nearest f s i j      == of the blocked cells that s enters, cell (i, j) is the least far in columns from the first
--                           end, of equals the least far in rows
--   NamesCell f s n      == n is the number of a cell of the floor that is `Nearest`
--   NamesStep n p q v    == of n steps, the k-th of which is open where p k and begins in the vertex q k, the first
--                           that is shut begins in v
--   NearestPinch f s x y == of the pinches that s passes, the vertex (x, y) is the least far in columns from the first
--                           end, of equals the least far in rows
--   NamesPinch f s n     == s is unblocked, and n is the number of a vertex of the floor that is `NearestPinch`
--   cell-named, step-named, pinch-named == where the obstacle of a segment is a cell, `NamesCell`; a step, `NamesStep`;
--                         a pinch, `NamesPinch`
use Prim.Native.Nat.{ℕ, zero, suc, ◌+◌, ◌-◌, ◌*◌, ◌≤◌, ◌<◌}
use mathlib.Core.Path.{◌≡◌, refl, sym, ap, ◌∙◌}
use mathlib.Core.Bool.{Bool, true, false, ◌&&◌, true≢false}
use mathlib.Core.Logic.{◌⊎◌, inl, inr, ⊎_elim}
use native.Mathlib.Omega.{arith}
use lib.Dec.{eqb}
use Rattle.std.specs.Prelude.{Option, Some, None}
use Rattle.basics.specs.Bounded.{pick}
use Rattle.basics.proofs.Order.{le-or-lt, eq-or-ne}
use Rattle.basics.proofs.Bools.{and_intro, and_left, and_right}
use Rattle.basics.proofs.Bounded.{pick_yes}
use Rattle.floor.specs.Floor.{Floor, blocked, number}
use Rattle.floor.specs.declared.Cell.{Cell}
use Rattle.floor.specs.declared.Vertex.{Vertex}
use Rattle.sight.specs.Sight.{Segment, segment_of, between, enters, upright_open, level_open}
use Rattle.sight.specs.Sight.{unblocked, pinch, passes, still}
use Rattle.sight.specs.Obstacle.{
  is_clear,
  cell_at,
  step_at,
  span,
  cell_on,
  start_on,
  or_else,
  first,
  blocked_cell,
  upright_step,
  level_step,
  blockage,
  pinch_at,
  passed_pinch,
  nearest_pinch,
  obstacle,
}
use Rattle.sight.specs.Travel.{Ends}
use Rattle.sight.specs.declared.Obstacle.{Obstacle}
use Rattle.sight.specs.declared.Obstacle.TheVariants as found
use Rattle.sight.proofs.Travel.{
  span-down,
  cell_on-up,
  cell_on-down,
  cell_on-lt,
  index_on,
  index_on-lt,
  cell_on-index_on,
}
use Rattle.sight.proofs.Enters.{entered-column, entered-row}
use Rattle.sight.proofs.First.{Hit, hit-first, first-parts, first_found}
use Rattle.sight.proofs.Obstacles.{upright-obstacle, level-obstacle, columns-obstacle, blockage-clear}
use Rattle.sight.proofs.Vertices.{
  point-le,
  away-le,
  point-away,
  away-point,
  passed-column,
  passed-row,
}

unfoldable pub far : ℕ → ℕ → ℕ
far a i = (i - a) + (a - suc i)

-- The k-th cell from a is k cells away.
far-on : (a b k : ℕ) → k < span a b → far a (cell_on a b k) ≡ k
unfolding far
far-on a b k l =
    ⊎_elim (λ h. omega (arith, cell_on-up a b k h))
    (λ h. omega (arith, cell_on-down a b k h, span-down a b (omega arith))) (le-or-lt a b)

far-index : (a b i : ℕ) → between a b i ≡ true → far a i ≡ index_on a b i
far-index a b i e =
    ap (far a) (sym (cell_on-index_on a b i e)) ∙ far-on a b (index_on a b i) (index_on-lt a b i e)

pub record Nearest (f : Floor) (s : Segment) (i j : ℕ) : Type 0 where
  pub shut : blocked f (suc i) (suc j) ≡ true
  pub entered : enters s i j ≡ true
  pub columns : (k l : ℕ) → blocked f (suc k) (suc l) ≡ true → enters s k l ≡ true → far s.x0 i ≤ far s.x0 k
  pub rows : (k l : ℕ) → blocked f (suc k) (suc l) ≡ true → enters s k l ≡ true → far s.x0 k ≡ far s.x0 i
      → far s.y0 j ≤ far s.y0 l

pub record NamesCell (f : Floor) (s : Segment) (n : ℕ) : Type 0 where
  pub i : ℕ
  pub j : ℕ
  pub i_lt : i < f.wide
  pub j_lt : j < f.high
  pub numbered : n ≡ j * f.wide + i
  pub nearest : Nearest f s i j

pub record NamesStep (n : ℕ) (p : ℕ → Bool) (q : ℕ → ℕ) (v : ℕ) : Type 0 where
  pub k : ℕ
  pub below : k < n
  pub shut : p k ≡ false
  pub before : (m : ℕ) → m < k → p m ≡ true
  pub begins : v ≡ q k

-- ---- which answer it is

abbrev is_cell : Option Obstacle → Bool
is_cell None = false
is_cell (Some (found.Cell c)) = true
is_cell (Some (found.Step v)) = false
is_cell (Some (found.Pinch v)) = false

-- The number that an answer holds.
abbrev held : Option Obstacle → ℕ
held None = 0
held (Some (found.Cell c)) = c.0
held (Some (found.Step v)) = v.0
held (Some (found.Pinch v)) = v.0

abbrev step_for : ℕ → Option Obstacle
step_for v = Some (found.Step (record { 0 = v }))

no_cell : (t : Bool) (v : ℕ) → is_cell (pick t None (step_for v)) ≡ false
no_cell true v = refl
no_cell false v = refl

-- An answer that is not None was found at the first hit.
found_at : {n : ℕ} {F : ℕ → Option Obstacle} {o : Option Obstacle} → first n F ≡ o → is_clear o ≡ false → Hit n F
found_at {n} {F} {o} e d = first_found n F (ap is_clear e ∙ d)

-- ---- cells and steps, then pinches

-- The obstacle after a clear `blockage` is a pinch or None, and `blockage` names no pinch.
abbrev only_pinch : Option Obstacle → Bool
only_pinch None = true
only_pinch (Some (found.Cell c)) = false
only_pinch (Some (found.Step v)) = false
only_pinch (Some (found.Pinch v)) = true

abbrev no_pinch : Option Obstacle → Bool
no_pinch None = true
no_pinch (Some (found.Cell c)) = true
no_pinch (Some (found.Step v)) = true
no_pinch (Some (found.Pinch v)) = false

else-keeps : (T : Option Obstacle → Bool) (a b : Option Obstacle) → T a ≡ true → T b ≡ true → T (or_else a b) ≡ true
else-keeps T None b p q = q
else-keeps T (Some o) b p q = p

first-keeps : (T : Option Obstacle → Bool) → T None ≡ true → (n : ℕ) (F : ℕ → Option Obstacle)
    → ((k : ℕ) → T (F k) ≡ true) → T (first n F) ≡ true
unfolding first
first-keeps T z zero F h = z
first-keeps T z (suc n) F h = else-keeps T (first n F) (F n) (first-keeps T z n F h) (h n)

pick-keeps : (T : Option Obstacle → Bool) (b : Bool) (o p : Option Obstacle) → T o ≡ true → T p ≡ true → T (pick b o p) ≡ true
pick-keeps T true o p i j = i
pick-keeps T false o p i j = j

abbrev later : Floor → Segment → Option Obstacle
later f s = pick (still s) None (nearest_pinch f s)

passed-pinch : (f : Floor) (s : Segment) (c r : ℕ) → only_pinch (passed_pinch f s c r) ≡ true
unfolding passed_pinch
passed-pinch f s c r =
    let x = start_on s.x0 s.x1 c in
    let y = start_on s.y0 s.y1 r in
    pick-keeps only_pinch (pinch f x y && passes s x y) (pinch_at f x y) None refl refl

later-pinch : (f : Floor) (s : Segment) → only_pinch (later f s) ≡ true
unfolding nearest_pinch
later-pinch f s =
    pick-keeps only_pinch (still s) None (nearest_pinch f s) refl
    (first-keeps only_pinch refl (suc (span s.x0 s.x1)) _ (λ c.
    first-keeps only_pinch refl (suc (span s.y0 s.y1)) (passed_pinch f s c) (passed-pinch f s c)))

else-cell : (o p : Option Obstacle) {c : Cell} → only_pinch p ≡ true → or_else o p ≡ Some (found.Cell c) → o ≡ Some (found.Cell c)
else-cell None p h e = absurd (true≢false (sym h ∙ ap only_pinch e))
else-cell (Some o) p h e = e

else-step : (o p : Option Obstacle) {v : Vertex} → only_pinch p ≡ true → or_else o p ≡ Some (found.Step v) → o ≡ Some (found.Step v)
else-step None p h e = absurd (true≢false (sym h ∙ ap only_pinch e))
else-step (Some o) p h e = e

else-pinch : (o p : Option Obstacle) {v : Vertex} → no_pinch o ≡ true → or_else o p ≡ Some (found.Pinch v)
    → (o ≡ None) × (p ≡ Some (found.Pinch v))
else-pinch None p h e = (refl, e)
else-pinch (Some (found.Cell c)) p h e = absurd (true≢false (ap no_pinch e))
else-pinch (Some (found.Step v)) p h e = absurd (true≢false (ap no_pinch e))
else-pinch (Some (found.Pinch v)) p h e = absurd (true≢false (sym h))

later-named : (b : Bool) (o : Option Obstacle) {v : Vertex} → pick b None o ≡ Some (found.Pinch v)
    → (b ≡ false) × (o ≡ Some (found.Pinch v))
later-named true o e = absurd (true≢false (ap is_clear e))
later-named false o e = (refl, e)

-- Where a choice between o and None is not None, the test holds and the choice is o.
picked : (t : Bool) (o : Option Obstacle) → is_clear (pick t o None) ≡ false
    → (t ≡ true) × (pick t o None ≡ o)
picked true o d = (refl, refl)
picked false o d = absurd (true≢false d)

clear-not : {P : Type 0} {o : Option Obstacle} → o ≡ None → is_clear o ≡ false → P
clear-not d e = absurd (true≢false (sym (ap is_clear d) ∙ e))

-- ---- the named step

module _ (n : ℕ) (p : ℕ → Bool) (q : ℕ → ℕ) where
  abbrev answer : ℕ → Option Obstacle
  answer k = pick (p k) None (step_for (q k))

  open-clear : (k : ℕ) → answer k ≡ None → p k ≡ true
  open-clear k e = cases (p k) (ap is_clear e)
    where
      cases : (t : Bool) → is_clear (pick t None (step_for (q k))) ≡ true → t ≡ true
      cases true d = refl
      cases false d = d

  shut-held : (t : Bool) (k : ℕ) → is_clear (pick t None (step_for (q k))) ≡ false
      → (t ≡ false) × (held (pick t None (step_for (q k))) ≡ q k)
  shut-held true k e = absurd (true≢false e)
  shut-held false k e = (refl, refl)

  first-shut : {v : Vertex} → first n answer ≡ Some (found.Step v) → NamesStep n p q v.0
  first-shut {v} e =
      let H : Hit n answer = found_at e refl in
      let h = shut-held (p H.at) H.at H.hit in
      record {
        k = H.at;
        below = H.below;
        shut = h.0;
        before = λ m l. open-clear m (H.before m l);
        begins = ap held (sym e ∙ hit-first H) ∙ h.1;
      }

  no-first-cell : {c : Cell} → first n answer ≡ Some (found.Cell c) → ⊥
  no-first-cell {c} e =
      let H : Hit n answer = found_at e refl in
      true≢false (ap is_cell (sym e ∙ hit-first H) ∙ no_cell (p H.at) (q H.at))

-- ---- the named cell

module _ (f : Floor) (x0 y0 x1 y1 : ℕ) where
  abbrev s : Segment
  s = segment_of x0 y0 x1 y1

  abbrev column : ℕ → Option Obstacle
  column c = first (span y0 y1) (blocked_cell f s c)

  -- A blocked cell that is entered is a hit at its place from the first end.
  answers : (k l : ℕ) → blocked f (suc k) (suc l) ≡ true → enters s k l ≡ true
      → is_clear (blocked_cell f s (index_on x0 x1 k) (index_on y0 y1 l)) ≡ false
  unfolding blocked_cell
  answers k l b e =
      rw (cell_on-index_on x0 x1 k (entered-column s k l e), cell_on-index_on y0 y1 l (entered-row s k l e))
      (ap is_clear
      (pick_yes (blocked f (suc k) (suc l) && enters s k l) (cell_at f k l) None
      (and_intro (blocked f (suc k) (suc l)) (enters s k l) b e)))

  -- A hit is a blocked cell that is entered.
  answered : (c r : ℕ) → is_clear (blocked_cell f s c r) ≡ false
      → let i = cell_on x0 x1 c in
      let j = cell_on y0 y1 r in
      ((blocked f (suc i) (suc j) && enters s i j) ≡ true) × (blocked_cell f s c r ≡ cell_at f i j)
  unfolding blocked_cell
  answered c r e =
      let i = cell_on x0 x1 c in
      let j = cell_on y0 y1 r in
      picked (blocked f (suc i) (suc j) && enters s i j) (cell_at f i j) e

  module _ (C : Hit (span x0 x1) column) (R : Hit (span y0 y1) (blocked_cell f s C.at)) where
    abbrev i : ℕ
    i = cell_on x0 x1 C.at

    abbrev j : ℕ
    j = cell_on y0 y1 R.at

    far-i : far x0 i ≡ C.at
    far-i = far-on x0 x1 C.at C.below

    far-j : far y0 j ≡ R.at
    far-j = far-on y0 y1 R.at R.below

    no-column-before : (k l : ℕ) → blocked f (suc k) (suc l) ≡ true → enters s k l ≡ true → far x0 i ≤ far x0 k
    no-column-before k l b e =
        let c = index_on x0 x1 k in
        let r = index_on y0 y1 l in
        let by : between y0 y1 l ≡ true = entered-row s k l e in
        let at : far x0 k ≡ c = far-index x0 x1 k (entered-column s k l e) in
        ⊎_elim (λ ge. omega (arith, far-i))
        (λ lt.
        clear-not (first-parts (span y0 y1) (blocked_cell f s c) (C.before c lt) r (index_on-lt y0 y1 l by))
        (answers k l b e)) (le-or-lt C.at c)

    no-row-before : (k l : ℕ) → blocked f (suc k) (suc l) ≡ true → enters s k l ≡ true → far x0 k ≡ far x0 i
        → far y0 j ≤ far y0 l
    no-row-before k l b e same =
        let c = index_on x0 x1 k in
        let r = index_on y0 y1 l in
        let at : far y0 l ≡ r = far-index y0 y1 l (entered-row s k l e) in
        let here : c ≡ C.at = sym (far-index x0 x1 k (entered-column s k l e)) ∙ same ∙ far-i in
        ⊎_elim (λ ge. omega (arith, far-j))
        (λ lt. clear-not (R.before r lt) (rw here at (answers k l b e))) (le-or-lt R.at r)

    hit-nearest : Nearest f s i j
    hit-nearest =
        let t = (answered C.at R.at R.hit).0 in
        record {
          shut = and_left (blocked f (suc i) (suc j)) (enters s i j) t;
          entered = and_right (blocked f (suc i) (suc j)) (enters s i j) t;
          columns = no-column-before;
          rows = no-row-before;
        }

    hit-held : first (span x0 x1) column ≡ cell_at f i j
    hit-held = hit-first C ∙ hit-first R ∙ (answered C.at R.at R.hit).1

  module _ (e : Ends f.wide f.high x0 y0 x1 y1) where
    slanted-named : {c : Cell} → first (span x0 x1) column ≡ Some (found.Cell c) → NamesCell f s c.0
    slanted-named {c} h =
        let C : Hit (span x0 x1) column = found_at h refl in
        let R = first_found (span y0 y1) (blocked_cell f s C.at) C.hit in
        record {
          i = i C R;
          j = j C R;
          i_lt = cell_on-lt x0 x1 C.at f.wide e.x_first e.x_last C.below;
          j_lt = cell_on-lt y0 y1 R.at f.high e.y_first e.y_last R.below;
          numbered = ap held (sym h ∙ hit-held C R);
          nearest = hit-nearest C R;
        }

    blockage-cell : {c : Cell} → blockage f s ≡ Some (found.Cell c) → NamesCell f s c.0
    unfolding upright_step level_step
    blockage-cell {c} h =
        ⊎_elim
        (λ p. absurd
        (no-first-cell (span y0 y1) (λ k. upright_open f x0 (cell_on y0 y1 k))
        (λ k. number f.wide x0 (start_on y0 y1 k)) (sym (upright-obstacle f x0 y0 x1 y1 p) ∙ h)))
        (λ n. ⊎_elim
        (λ q. absurd
        (no-first-cell (span x0 x1) (λ k. level_open f (cell_on x0 x1 k) y0)
        (λ k. number f.wide (start_on x0 x1 k) y0) (sym (level-obstacle f x0 y0 x1 y1 n q) ∙ h)))
        (λ m. slanted-named (sym (columns-obstacle f x0 y0 x1 y1 n m) ∙ h)) (eq-or-ne y0 y1)) (eq-or-ne x0 x1)

    pub cell-named : {c : Cell} → obstacle f s ≡ Some (found.Cell c) → NamesCell f s c.0
    unfolding obstacle
    cell-named {c} h = blockage-cell (else-cell (blockage f s) (later f s) (later-pinch f s) h)

  abbrev NamesUpright : ℕ → Type 0
  NamesUpright v =
      NamesStep (span y0 y1) (λ k. upright_open f x0 (cell_on y0 y1 k)) (λ k. number f.wide x0 (start_on y0 y1 k)) v

  abbrev NamesLevel : ℕ → Type 0
  NamesLevel v =
      NamesStep (span x0 x1) (λ k. level_open f (cell_on x0 x1 k) y0) (λ k. number f.wide (start_on x0 x1 k) y0) v

  no-slanted-step : {v : Vertex} → first (span x0 x1) column ≡ Some (found.Step v) → ⊥
  no-slanted-step {v} h =
      let C : Hit (span x0 x1) column = found_at h refl in
      let R = first_found (span y0 y1) (blocked_cell f s C.at) C.hit in
      true≢false (sym (ap is_cell (sym h ∙ hit-held C R)))

  blockage-step : {v : Vertex} → blockage f s ≡ Some (found.Step v)
      → ((x0 ≡ x1) × NamesUpright v.0) ⊎ ((y0 ≡ y1) × NamesLevel v.0)
  unfolding upright_step level_step
  blockage-step {v} h =
      ⊎_elim
      (λ p. inl (
        p,
        first-shut (span y0 y1) (λ k. upright_open f x0 (cell_on y0 y1 k)) (λ k. number f.wide x0 (start_on y0 y1 k))
            (sym (upright-obstacle f x0 y0 x1 y1 p) ∙ h),
      ))
      (λ n. ⊎_elim
      (λ q. inr (
        q,
        first-shut (span x0 x1) (λ k. level_open f (cell_on x0 x1 k) y0) (λ k. number f.wide (start_on x0 x1 k) y0)
            (sym (level-obstacle f x0 y0 x1 y1 n q) ∙ h),
      ))
      (λ m. absurd (no-slanted-step (sym (columns-obstacle f x0 y0 x1 y1 n m) ∙ h))) (eq-or-ne y0 y1)) (eq-or-ne x0 x1)

  pub step-named : {v : Vertex} → obstacle f s ≡ Some (found.Step v)
      → ((x0 ≡ x1) × NamesUpright v.0) ⊎ ((y0 ≡ y1) × NamesLevel v.0)
  unfolding obstacle
  step-named {v} h = blockage-step (else-step (blockage f s) (later f s) (later-pinch f s) h)

-- ---- the named pinch

pub record NearestPinch (f : Floor) (s : Segment) (x y : ℕ) : Type 0 where
  pub pinched : pinch f x y ≡ true
  pub passed : passes s x y ≡ true
  pub columns : (p q : ℕ) → pinch f p q ≡ true → passes s p q ≡ true → span s.x0 x ≤ span s.x0 p
  pub rows : (p q : ℕ) → pinch f p q ≡ true → passes s p q ≡ true → span s.x0 p ≡ span s.x0 x
      → span s.y0 y ≤ span s.y0 q

pub record NamesPinch (f : Floor) (s : Segment) (n : ℕ) : Type 0 where
  pub free : unblocked f s ≡ true
  pub long : still s ≡ false
  pub x : ℕ
  pub y : ℕ
  pub x_le : x ≤ f.wide
  pub y_le : y ≤ f.high
  pub numbered : n ≡ number f.wide x y
  pub nearest : NearestPinch f s x y

module _ (f : Floor) (x0 y0 x1 y1 : ℕ) where
  abbrev t : Segment
  t = segment_of x0 y0 x1 y1

  abbrev column_pinch : ℕ → Option Obstacle
  column_pinch c = first (suc (span y0 y1)) (passed_pinch f t c)

  -- A pinch that is passed is a hit at its place from the first end, and a hit is a pinch that is passed.
  pinch-answers : (p q : ℕ) → pinch f p q ≡ true → passes t p q ≡ true
      → is_clear (passed_pinch f t (span x0 p) (span y0 q)) ≡ false
  unfolding passed_pinch
  pinch-answers p q b e =
      rw (point-away x0 x1 p (passed-column t p q e), point-away y0 y1 q (passed-row t p q e))
      (ap is_clear
      (pick_yes (pinch f p q && passes t p q) (pinch_at f p q) None (and_intro (pinch f p q) (passes t p q) b e)))

  pinch-answered : (c r : ℕ) → is_clear (passed_pinch f t c r) ≡ false
      → let x = start_on x0 x1 c in
      let y = start_on y0 y1 r in
      ((pinch f x y && passes t x y) ≡ true) × (passed_pinch f t c r ≡ pinch_at f x y)
  unfolding passed_pinch
  pinch-answered c r e =
      let x = start_on x0 x1 c in
      let y = start_on y0 y1 r in
      picked (pinch f x y && passes t x y) (pinch_at f x y) e

  module _ (C : Hit (suc (span x0 x1)) column_pinch) (R : Hit (suc (span y0 y1)) (passed_pinch f t C.at)) where
    abbrev x : ℕ
    x = start_on x0 x1 C.at

    abbrev y : ℕ
    y = start_on y0 y1 R.at

    away-x : span x0 x ≡ C.at
    away-x = away-point x0 x1 C.at (omega (arith, C.below))

    away-y : span y0 y ≡ R.at
    away-y = away-point y0 y1 R.at (omega (arith, R.below))

    no-pinch-column : (p q : ℕ) → pinch f p q ≡ true → passes t p q ≡ true → span x0 x ≤ span x0 p
    no-pinch-column p q b e =
        ⊎_elim (λ ge. omega (arith, away-x))
        (λ lt.
        clear-not
        (first-parts (suc (span y0 y1)) (passed_pinch f t (span x0 p)) (C.before (span x0 p) lt) (span y0 q)
        (omega (arith, away-le y0 y1 q (passed-row t p q e)))) (pinch-answers p q b e)) (le-or-lt C.at (span x0 p))

    no-pinch-row : (p q : ℕ) → pinch f p q ≡ true → passes t p q ≡ true → span x0 p ≡ span x0 x
        → span y0 y ≤ span y0 q
    no-pinch-row p q b e same =
        let here : span x0 p ≡ C.at = same ∙ away-x in
        ⊎_elim (λ ge. omega (arith, away-y))
        (λ lt. clear-not (R.before (span y0 q) lt) (rw here at (pinch-answers p q b e)))
        (le-or-lt R.at (span y0 q))

    hit-pinch : NearestPinch f t x y
    hit-pinch =
        let h = (pinch-answered C.at R.at R.hit).0 in
        record {
          pinched = and_left (pinch f x y) (passes t x y) h;
          passed = and_right (pinch f x y) (passes t x y) h;
          columns = no-pinch-column;
          rows = no-pinch-row;
        }

    pinch-held : first (suc (span x0 x1)) column_pinch ≡ pinch_at f x y
    pinch-held = hit-first C ∙ hit-first R ∙ (pinch-answered C.at R.at R.hit).1

  upright-no-pinch : (k : ℕ) → no_pinch (upright_step f x0 y0 y1 k) ≡ true
  unfolding upright_step
  upright-no-pinch k =
      pick-keeps no_pinch (upright_open f x0 (cell_on y0 y1 k)) None (step_at f x0 (start_on y0 y1 k)) refl refl

  level-no-pinch : (k : ℕ) → no_pinch (level_step f y0 x0 x1 k) ≡ true
  unfolding level_step
  level-no-pinch k =
      pick-keeps no_pinch (level_open f (cell_on x0 x1 k) y0) None (step_at f (start_on x0 x1 k) y0) refl refl

  cell-no-pinch : (c r : ℕ) → no_pinch (blocked_cell f t c r) ≡ true
  unfolding blocked_cell
  cell-no-pinch c r =
      let i = cell_on x0 x1 c in
      let j = cell_on y0 y1 r in
      pick-keeps no_pinch (blocked f (suc i) (suc j) && enters t i j) (cell_at f i j) None refl refl

  blockage-no-pinch : no_pinch (blockage f t) ≡ true
  unfolding blockage
  blockage-no-pinch =
      pick-keeps no_pinch (eqb x0 x1) _ _ (first-keeps no_pinch refl (span y0 y1) _ upright-no-pinch)
      (pick-keeps no_pinch (eqb y0 y1) _ _ (first-keeps no_pinch refl (span x0 x1) _ level-no-pinch)
      (first-keeps no_pinch refl (span x0 x1) _ (λ c.
      first-keeps no_pinch refl (span y0 y1) (blocked_cell f t c) (cell-no-pinch c))))

  module _ (e : Ends f.wide f.high x0 y0 x1 y1) where
    nearest-named : {v : Vertex} → unblocked f t ≡ true → still t ≡ false → nearest_pinch f t ≡ Some (found.Pinch v)
        → NamesPinch f t v.0
    unfolding nearest_pinch
    nearest-named {v} free long h =
        let C : Hit (suc (span x0 x1)) column_pinch = found_at h refl in
        let R = first_found (suc (span y0 y1)) (passed_pinch f t C.at) C.hit in
        record {
          free = free;
          long = long;
          x = x C R;
          y = y C R;
          x_le = point-le x0 x1 C.at f.wide e.x_first e.x_last (omega (arith, C.below));
          y_le = point-le y0 y1 R.at f.high e.y_first e.y_last (omega (arith, R.below));
          numbered = ap held (sym h ∙ pinch-held C R);
          nearest = hit-pinch C R;
        }

    pub pinch-named : {v : Vertex} → obstacle f t ≡ Some (found.Pinch v) → NamesPinch f t v.0
    unfolding obstacle
    pinch-named {v} h =
        let o = else-pinch (blockage f t) (later f t) blockage-no-pinch h in
        let s = later-named (still t) (nearest_pinch f t) o.1 in
        nearest-named (sym (blockage-clear f x0 y0 x1 y1 e) ∙ ap is_clear o.0) s.0 s.1
