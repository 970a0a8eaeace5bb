-- What a cell reads as: blocked outside the floor, and on it what the floor says of the cell. Two floors with the same
-- cells read the same.
use Prim.Native.Nat.{ℕ, zero, suc, ◌-◌, ◌≤◌, ◌<◌}
use mathlib.Core.Path.{◌≡◌, refl, ap₂, ◌∙◌}
use mathlib.Core.Bool.{Bool, true, false, ◌&&◌, ◌||◌, not, and-false}
use native.Mathlib.Omega.{arith}
use borrow.Author.Tests.{lt-ltb, le-ltb, ltb-true}
use lib.Dec.{ltb}
use Rattle.floor.specs.Floor.{Floor, blocked}

pub blocked-left : (f : Floor) (x y : ℕ) → x ≡ 0 → blocked f x y ≡ true
unfolding blocked
blocked-left f x y e = rw e

pub blocked-above : (f : Floor) (x y : ℕ) → y ≡ 0 → blocked f x y ≡ true
unfolding blocked
blocked-above f zero y e = refl
blocked-above f (suc i) y e = rw e

pub blocked-right : (f : Floor) (x y : ℕ) → f.wide < x → blocked f x y ≡ true
unfolding blocked
blocked-right f zero y e = refl
blocked-right f (suc i) zero e = refl
blocked-right f (suc i) (suc j) e = rw (le-ltb i f.wide (omega arith))

pub blocked-below : (f : Floor) (x y : ℕ) → f.high < y → blocked f x y ≡ true
unfolding blocked
blocked-below f zero y e = refl
blocked-below f (suc i) zero e = refl
blocked-below f (suc i) (suc j) e = rw (le-ltb j f.high (omega arith), and-false (ltb i f.wide))

pub blocked-inside : (f : Floor) (x y : ℕ) → 1 ≤ x → 1 ≤ y → x ≤ f.wide → y ≤ f.high
    → blocked f x y ≡ f.cell (x - 1) (y - 1)
unfolding blocked
blocked-inside f zero y a b c d = absurd (omega arith)
blocked-inside f (suc i) zero a b c d = absurd (omega arith)
blocked-inside f (suc i) (suc j) a b c d =
    let p : suc i - 1 ≡ i = omega arith in
    let q : suc j - 1 ≡ j = omega arith in
    rw (lt-ltb i f.wide (omega arith), lt-ltb j f.high (omega arith), p, q)

pub blocked-same : (f h : Floor) → f.wide ≡ h.wide → f.high ≡ h.high
    → ((i j : ℕ) → i < f.wide → j < f.high → f.cell i j ≡ h.cell i j) → (x y : ℕ) → blocked f x y ≡ blocked h x y
unfolding blocked
blocked-same f h p q e zero y = refl
blocked-same f h p q e (suc i) zero = refl
blocked-same f h p q e (suc i) (suc j) =
    cases (ltb i f.wide) (ltb j f.high) refl refl ∙ ap₂ (λ a b. not (ltb i a && ltb j b) || h.cell i j) p q
  where
    cases : (a b : Bool) → ltb i f.wide ≡ a → ltb j f.high ≡ b
        → (not (ltb i f.wide && ltb j f.high) || f.cell i j)
        ≡ (not (ltb i f.wide && ltb j f.high) || h.cell i j)
    cases true true m n = rw (e i j (ltb-true i f.wide m) (ltb-true j f.high n))
    cases true false m n = rw (m, n)
    cases false b m n = rw m
