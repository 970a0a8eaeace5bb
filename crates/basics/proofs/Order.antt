-- Two numbers compared: the cases.
use Prim.Native.Nat.{ℕ, ◌≤◌, ◌<◌}
use mathlib.Core.Path.{◌≡◌}
use mathlib.Core.Logic.{◌⊎◌, inl, inr}
use native.Mathlib.Omega.{arith}
use native.Mathlib.Decide.{dec_le, ℕ_discrete}

pub le-or-lt : (m n : ℕ) → (m ≤ n) ⊎ (n < m)
le-or-lt m n = cases (dec_le m n)
  where
    cases : Dec (m ≤ n) → (m ≤ n) ⊎ (n < m)
    cases (yes h) = inl h
    cases (no h) = inr (omega arith)

pub eq-or-ne : (m n : ℕ) → (m ≡ n) ⊎ (m ≡ n → ⊥)
eq-or-ne m n = cases (ℕ_discrete m n)
  where
    cases : Dec (m ≡ n) → (m ≡ n) ⊎ (m ≡ n → ⊥)
    cases (yes h) = inl h
    cases (no h) = inr h
