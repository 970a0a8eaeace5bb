-- `sight::segment::Segment::nearest_pinch` meets its contract: the vertices looked at are those passed, and each so far
-- is no pinch. Assumes nothing.
use Prim.Native.Nat.{ℕ, ◌+◌, ◌*◌, ◌/◌}
use mathlib.Core.Path.{◌≡◌}
use Rattle.sight.specs.Travel.{pinch_there}
use Rattle.sight.specs.Drawn.{floor_under, drawn}
use Rattle.sight.proofs.First.{Looked}
use Rattle.sight.proofs.segment.Segment.nearest_pinch.Given as goal

-- The place after k steps of `across` columns and `down` rows.
pub record Stepped (c r k across down : ℕ) : Type 0 where
  pub column : c ≡ k * across
  pub row : r ≡ k * down

abbrev pub invariant-loop-k : goal.invariant-loop-k
invariant-loop-k l =
    Stepped l.c l.r l.k (l.self.columns / l.n) (l.self.rows / l.n)
    × Looked (l.n + 1) l.k
    (λ i. pinch_there (floor_under l.self) (drawn l.self) (i * (l.self.columns / l.n)) (i * (l.self.rows / l.n)))
