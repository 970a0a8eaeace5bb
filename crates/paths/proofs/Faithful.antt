-- Distances and path counts are what rules 4.2 and 4.4 say, in terms of walks alone: one statement for a reader who
-- does not want to look into the listing.
--
--   walks-listed    == `walks g k u t` has exactly the open walks from u to t that cost k, each once
--   faithful        == `Faithful g u t` in any lawful graph of at most 16,384 vertices
--   path_count-none == path_count g u t = 0 where no walk joins u to t
use Prim.Native.Nat.{ℕ, ◌≤◌, ◌<◌}
use mathlib.Core.Path.{◌≡◌, refl}
use mathlib.Core.Logic.{⊎_elim}
use native.Mathlib.Omega.{arith}
use Rattle.basics.proofs.Order.{le-or-lt}
use Rattle.paths.specs.Graph.{Graph, Lawful}
use Rattle.paths.specs.Walk.{HasWalk, ListsWalks, walks}
use Rattle.paths.specs.Distance.{distance, path_count}
use Rattle.paths.specs.Faithful.{Faithful}
use Rattle.paths.proofs.Listing.{walks-exact}
use Rattle.paths.proofs.Distinct.{walks-distinct}
use Rattle.paths.proofs.Distance.{distance-walk}
use Rattle.paths.proofs.Bound.{reached-exact, distance-shortest}
use Rattle.paths.proofs.Counting.{count, count-walk}

pub walks-listed : (g : Graph) → Lawful g → (k u t : ℕ) → u < g.size → ListsWalks g k u t (walks g k u t)
walks-listed g L k u t in-u = record { exactly = walks-exact g L k u t; each_once = walks-distinct g L t k u in-u }

module _ (g : Graph) (L : Lawful g) (small : g.size ≤ 16384) (u t : ℕ) (in-u : u < g.size) where
  pub faithful : Faithful g u t
  unfolding path_count
  faithful = record {
    reached = reached-exact g L u in-u small t;
    attained = distance-walk g u t;
    least = distance-shortest g L u in-u small t;
    cheapest = walks g (distance g u t) u t;
    listed = walks-listed g L (distance g u t) u t in-u;
    counted = refl;
  }

  pub path_count-none : ((k : ℕ) → HasWalk g k u t → ⊥) → path_count g u t ≡ 0
  unfolding path_count count
  path_count-none lone =
      ⊎_elim (λ z. omega arith) (λ p. absurd (lone (distance g u t) (count-walk g (distance g u t) u t p)))
      (le-or-lt (count g (distance g u t) u t) 0)
