-- Used by contracts between functions; nobody has to believe it: laws tie it to the definitions.
-- A next vertex exists: what the function that chooses it requires. By the law `sheet-leads` it holds of the true
-- numbers.
--
--   Onward g on D T v  == some move from v leads to a candidate for the next vertex with a positive count T
--   Leads g on D T b v == where v is on the way and not b, `Onward g on D T v`
use Rattle.std.specs.Prelude.{ℕ, ◌<◌, ◌≡◌, Bool, true}
use Rattle.std.proofs.Math.Option.{some}
use Rattle.paths.specs.Graph.{Graph}
use Rattle.paths.specs.Route.{candidate}

pub record Onward (g : Graph) (on : ℕ → Bool) (D T : ℕ → ℕ) (v : ℕ) : Type 0 where
  pub move : ℕ
  pub to : ℕ
  pub below : move < g.moves
  pub leads : candidate g on D v move ≡ some to
  pub counted : 0 < T to

pub record Leads (g : Graph) (on : ℕ → Bool) (D T : ℕ → ℕ) (b v : ℕ) : Type 0 where
  pub onward : on v ≡ true → (v ≡ b → ⊥) → Onward g on D T v
