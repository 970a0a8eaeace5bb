-- Whether a cell or a step is in the way of a segment of one column and at most two rows, or of one row and at most two
-- columns, is decided axis by axis.
--
--   axis_blocked n b p == on an axis on which a segment goes n lines to or from the higher line b, with p the blocked
--                         cells: for n = 0 both cells beside b are blocked, for n = 1 the one before b is, for n = 2
--                         one of the two before b is
--   narrow-unblocked   == `unblocked` of a segment of one column or one row, and at most two of the other, by
--                         `axis_blocked` of its axes
use Prim.Native.Nat.{ℕ, zero, suc, ◌-◌, ◌≤◌, max}
use mathlib.Core.Path.{◌≡◌, refl}
use mathlib.Core.Bool.{Bool, ◌&&◌, ◌||◌, not}
use mathlib.Core.Logic.{◌⊎◌, inl, inr}
use native.Mathlib.Omega.{arith}
use Rattle.floor.specs.Floor.{Floor, blocked}
use Rattle.sight.specs.Sight.{segment_of, unblocked}
use Rattle.sight.specs.Obstacle.{span}
use Rattle.sight.specs.Travel.{Ends}
use Rattle.sight.proofs.Unit.{
  unit-upright,
  unit-level,
  unit-slanted,
  two-columns,
  two-rows,
}

-- As in `blocked`, the cell before a line has the number of the line.
unfoldable pub axis_blocked : ℕ → ℕ → (ℕ → Bool) → Bool
axis_blocked zero b p = p b && p (suc b)
axis_blocked (suc zero) b p = p b
axis_blocked (suc (suc n)) b p = p (b - 1) || p b

-- Where the span is 0, the higher end is either end.
high-none : (a b : ℕ) → span a b ≡ 0 → max a b ≡ a
unfolding span
high-none a b n = omega arith

module _ (f : Floor) (x y i j : ℕ) (e : Ends f.wide f.high x y i j) where
  one-column : (n : ℕ) → span x i ≡ 1 → span y j ≡ n → n ≤ 2
      → unblocked f (segment_of x y i j) ≡ not (axis_blocked n (max y j) (blocked f (max x i)))
  unfolding axis_blocked
  one-column zero p q l = rw (high-none y j q) (unit-level f x y i j e p q)
  one-column (suc zero) p q l = unit-slanted f x y i j e p q
  one-column (suc (suc zero)) p q l = two-rows f x y i j e p q
  one-column (suc (suc (suc n))) p q l = absurd (omega arith)

  one-row : (n : ℕ) → span x i ≡ n → span y j ≡ 1 → n ≤ 2
      → unblocked f (segment_of x y i j) ≡ not (axis_blocked n (max x i) (λ u. blocked f u (max y j)))
  unfolding axis_blocked
  one-row zero p q l = rw (high-none x i p) (unit-upright f x y i j e p q)
  one-row (suc zero) p q l = unit-slanted f x y i j e p q
  one-row (suc (suc zero)) p q l = two-columns f x y i j e p q
  one-row (suc (suc (suc n))) p q l = absurd (omega arith)

  pub narrow-unblocked : (span x i ≡ 1) ⊎ (span y j ≡ 1) → span x i ≤ 2 → span y j ≤ 2
      → unblocked f (segment_of x y i j)
      ≡ not (axis_blocked (span x i) (max x i) (λ u. axis_blocked (span y j) (max y j) (blocked f u)))
  unfolding axis_blocked
  narrow-unblocked (inl p) c r = rw p (one-column (span y j) p refl r)
  narrow-unblocked (inr q) c r = rw q (one-row (span x i) refl q c)
