-- A move of the tables is narrow: it passes no vertex between its ends. So it is open exactly when no cell and no step
-- is in its way and neither of its ends is a pinch. `leaves` is that without the pinch at the last end.
--
--   sees-narrow     == sees f s = leaves f s and the last end of s is no pinch, for a narrow segment s
--   seen-far        == `sees-narrow` of a move of a table, its ends given by their numbers
--   leaves_none     == no move leaves a pinch
--   leaves-shut     == a move that does not leave is not open
--   LeadsTo f m v w == move m is open from v to w, or it is shut and w is a pinch
--   leaves-leads    == where a move leaves v with the far end w, `LeadsTo f m v w`
use Prim.Native.Nat.{ℕ, zero, suc, ◌≤◌, ◌<◌}
use mathlib.Core.Path.{◌≡◌, refl, sym, ap, ap₂, ◌∙◌}
use mathlib.Core.Bool.{Bool, true, false, ◌&&◌, ◌||◌, not, and_assoc}
use mathlib.Core.Logic.{◌⊎◌, inl, inr, ⊎_elim}
use mathlib.Core.Option.{Option, none, some}
use native.Mathlib.Omega.{arith}
use borrow.Author.Tests.{not-true}
use lib.IntN.{nat_abs}
use Rattle.basics.proofs.Bools.{and_left, and_right, not-both}
use Rattle.basics.proofs.Options.{none-some}
use Rattle.floor.specs.Floor.{Floor, vertices, number, column, row}
use Rattle.floor.proofs.Numbers.{column-le, row-le}
use Rattle.sight.specs.Sight.{Segment, segment_of, segment, unblocked, pinch, no_pinch_passed, still, sees}
use Rattle.sight.specs.Obstacle.{span}
use Rattle.sight.specs.Travel.{Ends}
use Rattle.sight.proofs.Passed.{one-row, one-level, two-rows, still-column, still-row}
use Rattle.moves.specs.declared.Move.{Move}
use Rattle.moves.specs.Steps.{open_end}
use Rattle.moves.specs.Leaving.{leaves, leaving_end}
use Rattle.moves.specs.Table.{Short, narrow, Reaches}
use Rattle.moves.proofs.Signs.{narrow_one}
use Rattle.moves.proofs.Steps.{when_held, Goes, shifted_at, shifted-span, end-if, goes_end}
use Rattle.moves.proofs.Opposites.{goes, goes-column, goes-row}

-- The segment goes exactly one column or one row, and at most two rows.
pub record Narrow (x0 y0 x1 y1 : ℕ) : Type 0 where
  pub one : (span x0 x1 ≡ 1) ⊎ (span y0 y1 ≡ 1)
  pub high : span y0 y1 ≤ 2

module _ (f : Floor) (x0 y0 x1 y1 : ℕ) (e : Ends f.wide f.high x0 y0 x1 y1) (n : Narrow x0 y0 x1 y1) where
  abbrev s : Segment
  s = segment_of x0 y0 x1 y1

  abbrev ends-free : Bool
  ends-free = not (pinch f x0 y0) && not (pinch f x1 y1)

  passed-ends : no_pinch_passed f s ≡ ends-free
  passed-ends = ⊎_elim (λ (c : span x0 x1 ≡ 1). column c (span y0 y1) refl n.high) (one-row f x0 y0 x1 y1 e) n.one
    where
      column : span x0 x1 ≡ 1 → (k : ℕ) → span y0 y1 ≡ k → k ≤ 2 → no_pinch_passed f s ≡ ends-free
      column c zero q l = one-level f x0 y0 x1 y1 e c q
      column c (suc zero) q l = one-row f x0 y0 x1 y1 e q
      column c (suc (suc zero)) q l = two-rows f x0 y0 x1 y1 e c q
      column c (suc (suc (suc k))) q l = absurd (omega arith)

  moves-on : still s ≡ false
  moves-on = ⊎_elim (λ (c : span x0 x1 ≡ 1). still-column x0 y0 x1 y1 (λ z. omega (arith, c)))
      (λ (c : span y0 y1 ≡ 1). still-row x0 y0 x1 y1 (λ z. omega (arith, c))) n.one

  pub sees-narrow : sees f s ≡ (leaves f s && not (pinch f x1 y1))
  unfolding sees leaves
  sees-narrow =
      ap₂ (λ a b. unblocked f s && (a || b)) moves-on passed-ends
      ∙ sym (and_assoc (unblocked f s) (not (pinch f x0 y0)) (not (pinch f x1 y1)))

-- ---- by vertex numbers

-- Move m is open from v to w, or it is shut and w is a pinch.
abbrev pub LeadsTo : Floor → Move → ℕ → ℕ → Type 0
LeadsTo f m v w =
    (open_end f m v ≡ some w) ⊎ ((open_end f m v ≡ none) × (pinch f (column f.wide w) (row f.wide w) ≡ true))

module _ (f : Floor) (m : Move) (short : Short m) (thin : narrow m ≡ true) (v : ℕ)
    (in-v : v < vertices f.wide f.high) where
  abbrev x : ℕ
  x = column f.wide v

  abbrev y : ℕ
  y = row f.wide v

  module _ (S : Floor → Segment → Bool) (w : ℕ) (g : Goes S f m x y w) where
    reached : Reaches f.wide f.high m x y g.i g.j
    reached = record {
      columns = shifted_at f.wide x g.i m.dx g.columns.moved g.columns.inside;
      rows = shifted_at f.high y g.j m.dy g.rows.moved g.rows.inside;
    }

    far-x : nat_abs m.dx ≡ span x g.i
    far-x = shifted-span f.wide x g.i m.dx reached.columns

    far-y : nat_abs m.dy ≡ span y g.j
    far-y = shifted-span f.high y g.j m.dy reached.rows

    seen-narrow : sees f (segment_of x y g.i g.j)
        ≡ (leaves f (segment_of x y g.i g.j) && not (pinch f g.i g.j))
    seen-narrow = sees-narrow f x y g.i g.j (record {
      x_first = column-le f.wide v;
      y_first = row-le f.wide f.high v in-v;
      x_last = g.columns.inside;
      y_last = g.rows.inside;
    }) (record {
      one = ⊎_elim (λ a. inl (sym far-x ∙ a)) (λ a. inr (sym far-y ∙ a)) (narrow_one m thin);
      high = omega (arith, far-y, short.rows);
    })

    -- `sees-narrow` with both ends by their numbers.
    pub seen-far : sees f (segment f.wide v w)
        ≡ (leaves f (segment f.wide v w) && not (pinch f (column f.wide w) (row f.wide w)))
    unfolding segment
    seen-far = rw (goes-column S f m v w g, goes-row S f m v w g) seen-narrow

    far-pinch : pinch f g.i g.j ≡ pinch f (column f.wide w) (row f.wide w)
    far-pinch = sym (ap₂ (pinch f) (goes-column S f m v w g) (goes-row S f m v w g))

  pub leaves_none : pinch f x y ≡ true → leaving_end f m v ≡ none
  unfolding leaves
  leaves_none p = cases (leaving_end f m v) refl
    where
      cases : (o : Option ℕ) → leaving_end f m v ≡ o → o ≡ none
      cases none e = refl
      cases (some w) e =
          let g = goes leaves f m v w e in
          not-both (pinch f x y) p
          (not-true (pinch f x y) (and_right (unblocked f (segment_of x y g.i g.j)) (not (pinch f x y)) g.held))

  pub leaves-shut : leaving_end f m v ≡ none → open_end f m v ≡ none
  leaves-shut n = cases (open_end f m v) refl
    where
      cases : (o : Option ℕ) → open_end f m v ≡ o → o ≡ none
      cases none e = refl
      cases (some w) e =
          let g = goes sees f m v w e in
          let seg = segment_of x y g.i g.j in
          let held : leaves f seg ≡ true =
          and_left (leaves f seg) (not (pinch f g.i g.j)) (sym (seen-narrow sees w g) ∙ g.held) in
          none-some (sym n ∙ goes_end leaves f m x y w (column-le f.wide v) (record {
            i = g.i;
            j = g.j;
            columns = g.columns;
            rows = g.rows;
            vertex = g.vertex;
            held = held;
          }))

  pub leaves-leads : (w : ℕ) → leaving_end f m v ≡ some w → LeadsTo f m v w
  leaves-leads w e = cases (pinch f g.i g.j) refl
    where
      g : Goes leaves f m x y w
      g = goes leaves f m v w e

      seg : Segment
      seg = segment_of x y g.i g.j

      open_is : (p : Bool) → pinch f g.i g.j ≡ p
          → open_end f m v ≡ when_held (not p) (number f.wide g.i g.j)
      open_is p q =
          end-if sees f m x y g.i g.j (column-le f.wide v) (reached leaves w g)
          ∙ ap (λ b. when_held b (number f.wide g.i g.j))
          (seen-narrow leaves w g ∙ ap₂ (λ a b. a && not b) g.held q)

      cases : (p : Bool) → pinch f g.i g.j ≡ p → LeadsTo f m v w
      cases true q = inr (open_is true q, sym (far-pinch leaves w g) ∙ q)
      cases false q = inl (open_is false q ∙ ap some (sym g.vertex))
