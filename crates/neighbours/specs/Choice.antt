-- Used by contracts between functions; nobody has to believe it: laws tie it to the definitions.
-- The next vertex of the central route, as the code reads it from slices of costs and counts.
--
--   Choosing r s mask d e goal v     == the moves from v can be read, and the slices of costs have v and the goal
--   Counted n f b                    == the slices of counts have n places, and the traversal counts fit 64 bits
--   OffWay d e goal i j              == no vertex v with i ≤ v < j is on the way to the goal
--   follows_by on D v w c            == the far end w of a move from v that costs c is on the way, and D w = D v + c:
--                                       the test of `candidate`
--   candidate_of, traversal_of       == `candidate`, and the traversal count f(v) * b(v), by the slices
--   next_of r s mask d e f b goal v  == `next_vertex`, by the slices
--   OnwardBy r s mask d e f b goal v == some move leads on from v, by the slices (`Onward` of paths)
--   LeadsBy r s mask d e f b goal v  == where v is on the way and not the goal, some move leads on from v, by the
--                                       slices (`Leads` of paths)
use Rattle.std.specs.Prelude.{ℕ, ◌+◌, ◌*◌, ◌^◌, ◌≤◌, ◌<◌, ◌≡◌, Bool, false, ◌&&◌, List, eqb, length}
use Rattle.std.proofs.Math.Option.{Option}
use Rattle.paths.specs.Route.{on_shortest, candidate, next_vertex}
use Rattle.paths.specs.Onward.{Onward, Leads}
use Rattle.paths.specs.Local.{entry}
use Rattle.moves.specs.declared.Directions.{Directions}
use Rattle.neighbours.specs.Reading.{mask_graph, Readable}

pub record Choosing (r : Directions) (s : List ℕ) (mask : ℕ) (d e : List ℕ) (goal v : ℕ) : Type 0 where
  pub readable : Readable (length d) r s mask v
  pub goal_in : goal < length d
  pub e_len : length e ≡ length d

abbrev pub traversal_of : List ℕ → List ℕ → ℕ → ℕ
traversal_of f b v = entry f v * entry b v

pub record Counted (n : ℕ) (f b : List ℕ) : Type 0 where
  pub f_len : length f ≡ n
  pub b_len : length b ≡ n
  pub fit : (v : ℕ) → v < n → traversal_of f b v < 2 ^ 64

pub record OffWay (d e : List ℕ) (goal i j : ℕ) : Type 0 where
  pub at : (v : ℕ) → i ≤ v → v < j → on_shortest (entry d) (entry e) goal v ≡ false

unfoldable pub follows_by : (ℕ → Bool) → (ℕ → ℕ) → ℕ → ℕ → ℕ → Bool
follows_by on D v w c = on w && eqb (D w) (D v + c)

abbrev pub candidate_of : Directions → List ℕ → ℕ → List ℕ → List ℕ → ℕ → ℕ → ℕ → Option ℕ
candidate_of r s mask d e goal =
    candidate (mask_graph (length d) r s mask) (on_shortest (entry d) (entry e) goal) (entry d)

abbrev pub next_of : Directions → List ℕ → ℕ → List ℕ → List ℕ → List ℕ → List ℕ → ℕ → ℕ → Option ℕ
next_of r s mask d e f b goal =
    next_vertex (mask_graph (length d) r s mask) (on_shortest (entry d) (entry e) goal) (entry d) (traversal_of f b)

abbrev pub OnwardBy : Directions → List ℕ → ℕ → List ℕ → List ℕ → List ℕ → List ℕ → ℕ → ℕ → Type 0
OnwardBy r s mask d e f b goal =
    Onward (mask_graph (length d) r s mask) (on_shortest (entry d) (entry e) goal) (entry d) (traversal_of f b)

abbrev pub LeadsBy : Directions → List ℕ → ℕ → List ℕ → List ℕ → List ℕ → List ℕ → ℕ → ℕ → Type 0
LeadsBy r s mask d e f b goal =
    Leads (mask_graph (length d) r s mask) (on_shortest (entry d) (entry e) goal) (entry d) (traversal_of f b) goal
