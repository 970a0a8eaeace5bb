-- What the cheapest cost and the number of cheapest walks are, in terms of open walks alone: a statement for a reader
-- who does not want to look into the listing. The theorem is `faithful`, in proofs/Faithful.antt.
--
--   Faithful g u t   == the distance is below `unreachable` exactly where a walk joins u to t; it is then the cost of a
--                       walk, and no walk costs less; and the path count is the length of a list that has each cheapest
--                       walk once and nothing else
use Rattle.std.specs.Prelude.{ℕ, ◌≤◌, ◌<◌, ◌≡◌, ◌↔◌, List, length}
use Rattle.paths.specs.Graph.{Graph}
use Rattle.paths.specs.Walk.{HasWalk, ListsWalks}
use Rattle.paths.specs.Distance.{unreachable, distance, path_count}

pub record Faithful (g : Graph) (u t : ℕ) : Type 0 where
  pub reached : (distance g u t < unreachable) ↔ ((k : ℕ) × HasWalk g k u t)
  pub attained : distance g u t < unreachable → HasWalk g (distance g u t) u t
  pub least : (k : ℕ) → HasWalk g k u t → distance g u t ≤ k
  pub cheapest : List (List ℕ)
  pub listed : ListsWalks g (distance g u t) u t cheapest
  pub counted : length cheapest ≡ path_count g u t
