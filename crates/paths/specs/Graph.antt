-- A graph given by a table of moves. Everything about walks is said, and proved, over any such graph; a floor with a
-- neighbourhood of rule 3.1 is one of them.
--
--   Graph      == vertices 0 .. size - 1, moves 0 .. moves - 1 in the order of their table, the cost of each move, and
--                 `step m u`, the far end of move m from vertex u where that move is open
--   Lawful g   == the moves are distinct, cost 1 to 4,095, and each has its opposite at the same cost
use Rattle.std.specs.Prelude.{ℕ, ◌≤◌, ◌<◌, ◌≡◌}
use Rattle.std.proofs.Math.Option.{Option, some}

pub record Graph : Type 0 where
  pub size : ℕ
  pub moves : ℕ
  pub cost : ℕ → ℕ
  pub step : ℕ → ℕ → Option ℕ

pub record Lawful (g : Graph) : Type 0 where
  pub low : (m : ℕ) → m < g.moves → 1 ≤ g.cost m
  pub high : (m : ℕ) → m < g.moves → g.cost m ≤ 4095
  pub inside : (m u w : ℕ) → m < g.moves → u < g.size → g.step m u ≡ some w → w < g.size
  -- no two moves lead from u to the same vertex
  pub distinct : (m n u w : ℕ) → m < g.moves → n < g.moves → u < g.size
      → g.step m u ≡ some w → g.step n u ≡ some w → m ≡ n
  pub opposite : ℕ → ℕ
  pub opposite_listed : (m : ℕ) → m < g.moves → opposite m < g.moves
  pub opposite_cost : (m : ℕ) → m < g.moves → g.cost (opposite m) ≡ g.cost m
  pub opposite_back : (m u w : ℕ) → m < g.moves → u < g.size → g.step m u ≡ some w → g.step (opposite m) w ≡ some u
