-- docs/RULES.md, 3.7: the tables of moves over which the laws are proved: distinct moves of costs 1 to 4,095, each with
-- its opposite at the same cost.
--
--   Turned a b       == the offset a is b turned round: a = -b
--   LawfulTable n M  == the moves M 0, .. M (n - 1) are distinct, cost 1 to 4,095, and each has its opposite among them
--                       at the same cost
use Rattle.std.specs.Prelude.{ℕ, ◌≤◌, ◌<◌, ◌≡◌, ℤ}
use Rattle.moves.specs.declared.Move.{Move}
use Rattle.moves.specs.Steps.{up, down}

pub record Turned (a b : ℤ) : Type 0 where
  pub up_down : up a ≡ down b
  pub down_up : down a ≡ up b

pub record LawfulTable (n : ℕ) (M : ℕ → Move) : Type 0 where
  pub low : (m : ℕ) → m < n → 1 ≤ (M m).cost
  pub high : (m : ℕ) → m < n → (M m).cost ≤ 4095
  pub distinct : (m k : ℕ) → m < n → k < n → (M m).dx ≡ (M k).dx → (M m).dy ≡ (M k).dy → m ≡ k
  pub opposite : ℕ → ℕ
  pub opposite_listed : (m : ℕ) → m < n → opposite m < n
  pub opposite_cost : (m : ℕ) → m < n → (M (opposite m)).cost ≡ (M m).cost
  pub opposite_dx : (m : ℕ) → m < n → Turned (M (opposite m)).dx (M m).dx
  pub opposite_dy : (m : ℕ) → m < n → Turned (M (opposite m)).dy (M m).dy
