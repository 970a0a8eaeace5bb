-- Used by contracts between functions; nobody has to believe it: laws tie it to the definitions.
-- The moves of a vertex as the inner loops read them: the directions of the neighbourhood, by how much the move of each
-- direction changes a vertex number, and the mask of the vertex's open moves. The contracts of the loops are stated by
-- the definitions of paths, over the graph `mask_graph` of the moves whose bits are set in the mask.
--
--   read_step r s mask v m == the far end of move m of the directions r from v, by its mask and the shifts s; none
--                             where the bit is not set
--   mask_graph n r s mask  == the graph of n vertices with the steps `read_step` and the costs of the directions r
--   Readable n r s mask v  == every move from v can be worked out, and leads to a vertex below n
--   tight_by g D v m       == D w and the cost of move m make D v, where m leads from v to w: the test of `tight`
--   inflow_by g D F v m    == F w where `tight_by g D v m` and m leads from v to w, else 0: what move m adds to
--                             `inflow`
--   sum_of x               == x as the code answers a sum: x where it fits 64 bits, else none
use Rattle.std.specs.Prelude.{ℕ, ◌+◌, ◌^◌, ◌<◌, ◌≡◌, Bool, true, List, ltb, eqb, length, Option as Answer, Some, None}
use Rattle.std.proofs.Math.Option.{Option, some}
use Rattle.basics.specs.Bounded.{pick}
use Rattle.moves.specs.declared.Directions.{Directions}
use Rattle.moves.specs.Moves.{dir_count, dir_at, move_at}
use Rattle.moves.specs.Table.{lawful_dirs}
use Rattle.offsets.specs.Offsets.{Movable, shifted_by, dir_end}
use Rattle.paths.specs.Graph.{Graph}
use Rattle.paths.specs.Local.{given, is-there, when-eq}

abbrev pub read_step : Directions → List ℕ → ℕ → ℕ → ℕ → Option ℕ
read_step r s mask v m = dir_end s mask v (dir_at r m)

abbrev pub mask_graph : ℕ → Directions → List ℕ → ℕ → Graph
mask_graph n r s mask = record {
  size = n;
  moves = r.count;
  cost = λ m. (move_at r m).cost;
  step = λ m v. read_step r s mask v m;
}

pub record Readable (n : ℕ) (r : Directions) (s : List ℕ) (mask v : ℕ) : Type 0 where
  pub lawful : lawful_dirs r ≡ true
  pub shifts_len : length s ≡ dir_count
  pub vertex : v < n
  pub movable : (m : ℕ) → m < r.count → Movable mask v (dir_at r m) (shifted_by s (dir_at r m))
  pub inside : (m w : ℕ) → m < r.count → read_step r s mask v m ≡ some w → w < n

unfoldable pub tight_by : Graph → (ℕ → ℕ) → ℕ → ℕ → Bool
tight_by g D v m = is-there (g.step m v) (λ w. eqb (D w + g.cost m) (D v))

unfoldable pub inflow_by : Graph → (ℕ → ℕ) → (ℕ → ℕ) → ℕ → ℕ → ℕ
inflow_by g D F v m = given (g.step m v) (λ w. when-eq (D w + g.cost m) (D v) (F w))

unfoldable pub sum_of : ℕ → Answer ℕ
sum_of x = pick (ltb x (2 ^ 64)) (Some x) None
