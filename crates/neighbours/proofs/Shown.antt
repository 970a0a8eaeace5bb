-- The mask of a vertex of a floor and the shifts of the directions give the steps of a graph from it.
--
--   Shows g r s mask v   == the steps from v by its mask are those of the graph g, and can be read
--   mask-shows           == on a floor the mask of v's moves that pass the test S `Shows` the graph of those moves
use Prim.Native.Nat.{ℕ, ◌≤◌, ◌<◌}
use mathlib.Core.Path.{◌≡◌, refl, sym, ◌∙◌}
use mathlib.Core.Bool.{Bool, true}
use mathlib.Core.List.{List}
use Rattle.floor.specs.Floor.{Floor, vertices}
use Rattle.sight.specs.Sight.{Segment}
use Rattle.moves.specs.declared.Directions.{Directions}
use Rattle.moves.specs.Table.{lawful_dirs}
use Rattle.moves.specs.Moves.{move_at}
use Rattle.moves.proofs.Opposites.{goes, goes-inside}
use Rattle.masks.specs.Masks.{MaskAt}
use Rattle.offsets.specs.Offsets.{Shifts}
use Rattle.paths.specs.Graph.{Graph}
use Rattle.grid.specs.Leaving.{graph_if}
use Rattle.grid.proofs.Masks.{step-masked, step-movable}
use Rattle.neighbours.specs.Reading.{read_step, mask_graph, Readable}
use Rattle.neighbours.proofs.Agree.{Agrees}

pub record Shows (g : Graph) (r : Directions) (s : List ℕ) (mask v : ℕ) : Type 0 where
  pub readable : Readable g.size r s mask v
  pub agrees : Agrees (mask_graph g.size r s mask) g v

module _ (S : Floor → Segment → Bool) (f : Floor) (r : Directions) (lawful : lawful_dirs r ≡ true) {s : List ℕ}
    (H : Shifts f.wide r s) (p : f.wide ≤ 127) (q : f.high ≤ 127) (mask v : ℕ)
    (i : v < vertices f.wide f.high) (o : MaskAt S f r v mask) where
  step_same : (m : ℕ) → m < r.count → read_step r s mask v m ≡ (graph_if S f r).step m v
  step_same m l = step-masked S f r lawful s H v mask o m l

  pub mask-shows : Shows (graph_if S f r) r s mask v
  mask-shows = record {
    readable = record {
      lawful = lawful;
      shifts_len = H.len;
      vertex = i;
      movable = λ m l. step-movable S f r lawful s H v mask o m l p q i;
      inside = λ m w l t. goes-inside S f (move_at r m) v w (goes S f (move_at r m) v w (sym (step_same m l) ∙ t));
    };
    agrees = record { moves = refl; cost = λ m l. refl; step = step_same };
  }
