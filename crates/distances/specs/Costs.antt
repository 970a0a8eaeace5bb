-- Used by contracts between functions; nobody has to believe it: laws tie it to the definitions.
-- The costs from one vertex, and what stands in the working slice beside them.
--
--   SettledCosts ..        == d holds the distances from a, and the working slice begins with the n vertices that have
--                             one, in order; past the order it is as it was
--   Costing ..             == what is asked of the operations: a good job from a to itself, and slices of V and of 4 * V
--                             places
--   OrderedCosts ..        == d holds the distances from a; the working slice has the order, and the masks
--   FilledCosts g a d work == d holds the distances from a, and the working slice is all 0
use Rattle.std.specs.Prelude.{ℕ, ◌*◌, ◌≤◌, ◌<◌, ◌≡◌, List, length}
use Rattle.basics.specs.Lists.{tabulate, zeros}
use Rattle.floor.specs.Floor.{Floor, vertices}
use Rattle.moves.specs.declared.Directions.{Directions}
use Rattle.paths.specs.Graph.{Graph}
use Rattle.paths.specs.Distance.{distance}
use Rattle.paths.specs.Local.{entry}
use Rattle.grid.specs.Grid.{floor_graph}
use Rattle.grid.specs.Known.{GoodJob}
use Rattle.workspace.specs.Regions.{Ordered, MasksIn}

pub record SettledCosts (g : Graph) (a n : ℕ) (d work work' : List ℕ) : Type 0 where
  pub costs : d ≡ tabulate g.size (distance g a)
  pub few : n ≤ g.size
  pub work_len : length work' ≡ 4 * g.size
  pub ordered : Ordered g.size n (entry d) (entry work')
  pub rest : (i : ℕ) → g.size < i → entry work' i ≡ entry work i

-- ---- the operations

pub record Costing (w h : ℕ) (map : List ℕ) (r : Directions) (a : ℕ) (d work : List ℕ) : Type 0 where
  pub job : GoodJob w h map r a a
  pub d_len : length d ≡ vertices w h
  pub work_len : length work ≡ 4 * vertices w h

pub record OrderedCosts (f : Floor) (r : Directions) (a n : ℕ) (d work : List ℕ) : Type 0 where
  pub costs : d ≡ tabulate (floor_graph f r).size (distance (floor_graph f r) a)
  pub few : n ≤ (floor_graph f r).size
  pub work_len : length work ≡ 4 * (floor_graph f r).size
  pub ordered : Ordered (floor_graph f r).size n (entry d) (entry work)
  pub masks : MasksIn f r work

pub record FilledCosts (g : Graph) (a : ℕ) (d work : List ℕ) : Type 0 where
  pub costs : d ≡ tabulate g.size (distance g a)
  pub clear : work ≡ zeros (4 * g.size)
