-- Used by contracts between functions; nobody has to believe it: laws tie it to the definitions.
-- The planner's working slice: the vertices that have a cost, in order, and the masks of the open moves of all.
--
--   mask_at v work u     == the mask of vertex u, where there are v vertices
--   Ordered v n D O      == O 0, .. O (n - 1) are the vertices below v that have a cost, by rising cost D
--   mask_on f work v     == the mask of vertex v of the floor f
--   MasksIn f r work     == the mask of each vertex says which moves of the directions r are open from it
--   MasksFilled f r w w' == `MasksIn f r w'`, and the slice w' is as long as w
--   Masked g r s work    == the masks, with the directions r and their shifts s, give the steps of the graph g
use Rattle.std.specs.Prelude.{ℕ, ◌+◌, ◌*◌, ◌≤◌, ◌<◌, ◌≡◌, List, length}
use Rattle.floor.specs.Floor.{Floor, vertices}
use Rattle.moves.specs.declared.Directions.{Directions}
use Rattle.masks.specs.Masks.{OpenAt}
use Rattle.paths.specs.Graph.{Graph}
use Rattle.paths.specs.Distance.{unreachable}
use Rattle.paths.specs.Local.{entry}
use Rattle.neighbours.proofs.Shown.{Shows}

abbrev pub mask_at : ℕ → List ℕ → ℕ → ℕ
mask_at v work u = entry work (2 * v + u)

pub record Ordered (v n : ℕ) (D O : ℕ → ℕ) : Type 0 where
  pub inside : (i : ℕ) → i < n → O i < v
  pub placed : (i : ℕ) → i < n → D (O i) < unreachable
  pub found : (u : ℕ) → u < v → D u < unreachable → (i : ℕ) × (i < n) × (O i ≡ u)
  pub rising : (i j : ℕ) → i ≤ j → j < n → D (O i) ≤ D (O j)

abbrev pub mask_on : Floor → List ℕ → ℕ → ℕ
mask_on f = mask_at (vertices f.wide f.high)

pub record MasksIn (f : Floor) (r : Directions) (work : List ℕ) : Type 0 where
  pub at : (v : ℕ) → v < vertices f.wide f.high → OpenAt f r v (mask_on f work v)

pub record MasksFilled (f : Floor) (r : Directions) (work work' : List ℕ) : Type 0 where
  pub len : length work' ≡ length work
  pub masks : MasksIn f r work'

pub record Masked (g : Graph) (r : Directions) (s work : List ℕ) : Type 0 where
  pub shows : (u : ℕ) → u < g.size → Shows g r s (mask_at g.size work u) u
