-- The cheapest cost between two vertices, and the number of cheapest walks.
--
--   unreachable      == M of rule 4.2, the cost where no walk joins two vertices
--   distance g u t   == the least cost of an open walk from u to t; d(v) is `distance g a v`, e(v) is `distance g v b`
--   path_count g u t == the number of different open walks from u to t that cost `distance g u t`
--   nonempty l       == the list l is not empty
use Rattle.std.specs.Prelude.{ℕ, Bool, true, false, List, [], ◌∷◌, length}
use Rattle.basics.specs.Bounded.{seek}
use Rattle.paths.specs.Graph.{Graph}
use Rattle.paths.specs.Walk.{walks}

abbrev pub unreachable : ℕ
unreachable = 4294967295

unfoldable pub nonempty {ℓ} : {A : Type ℓ} → List A → Bool
nonempty [] = false
nonempty (x ∷ l) = true

unfoldable pub distance : Graph → ℕ → ℕ → ℕ
distance g u t = seek unreachable 0 (λ k. nonempty (walks g k u t))

unfoldable pub path_count : Graph → ℕ → ℕ → ℕ
path_count g u t = length (walks g (distance g u t) u t)

-- Named on an `unfolding` line, this opens all of these definitions, for a theorem that antt computes.
unfoldable pub distance-opened : ℕ
unfolding nonempty distance path_count
distance-opened = 0
