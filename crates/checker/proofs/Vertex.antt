-- The tests of one vertex as the code runs them. The graph that a mask gives at a vertex is the same whichever slice
-- its number of vertices is taken from.
--
--   counts_from   == `counts_test` fails where the count f does
--   counts_to     == `counts_test` is the test of the count b where f passes
--   vertex-costs  == on a route sheet `vertex_test` fails where the costs do
--   vertex-counts == on a route sheet `vertex_test` is the test of the counts where the costs pass
--   vertex-cost   == on a no_route sheet `vertex_test` fails where the cost from a does
--   vertex-blank  == on a no_route sheet `vertex_test` is the test of the zeros where the cost from a passes
use Prim.Native.Nat.{ℕ, ◌≤◌}
use mathlib.Core.Path.{◌≡◌, refl, sym, ap, ap₂, ◌∙◌}
use mathlib.Core.Bool.{Bool, true, false, ◌&&◌}
use mathlib.Core.List.{List}
use lib.Dec.{eqb}
use lib.ListN.{length}
use Rattle.moves.specs.declared.Directions.{Directions}
use Rattle.offsets.specs.declared.Class.{Class}
use Rattle.offsets.specs.Classes.{Classes}
use Rattle.paths.specs.Graph.{Graph}
use Rattle.paths.specs.Distance.{unreachable}
use Rattle.paths.specs.Route.{on_shortest}
use Rattle.paths.specs.Sheet.{Sheet}
use Rattle.paths.specs.Local.{count_at, entry, local_on, blank_at}
use Rattle.neighbours.specs.Reading.{mask_graph, Readable}
use Rattle.neighbours.specs.Least.{right_cost_in, right_least, ClassMoves}
use Rattle.neighbours.proofs.Agree.{Agrees, count_at-agrees}
use Rattle.neighbours.proofs.Least.{least-right}
use Rattle.neighbours.proofs.Classed.{mask-classed}
use Rattle.checker.specs.Tests.{counts_test, vertex_test}
use Rattle.checker.proofs.Chains.{fails, holds}

module _ (r : Directions) (shifts : List ℕ) (mask a b : ℕ) (s : Sheet) (v : ℕ) where
  abbrev graph : Graph
  graph = mask_graph (length s.d) r shifts mask

  same-moves : (n : ℕ) → Agrees (mask_graph n r shifts mask) graph v
  same-moves n = record { moves = refl; cost = λ k l. refl; step = λ k l. refl }

  module _ {o p : Bool} (on : o ≡ on_shortest (entry s.d) (entry s.e) b v)
      (from : p ≡ eqb (entry s.f v) (count_at graph a (λ u. o) (entry s.d) (entry s.f) v)) where
    -- `count_at` asks only of v itself whether it is on the way.
    count-on : (h : Graph) (c : ℕ) (D F : ℕ → ℕ)
        → count_at h c (λ u. o) D F v ≡ count_at h c (local_on b s) D F v
    unfolding count_at local_on
    count-on h c D F = rw on

    from_is : p ≡ eqb (entry s.f v) (count_at graph a (local_on b s) (entry s.d) (entry s.f) v)
    from_is = from ∙ ap (eqb (entry s.f v)) (count-on graph a (entry s.d) (entry s.f))

    pub counts_from : p ≡ false → p ≡ counts_test graph a b s v
    unfolding counts_test
    counts_from t = fails from_is _ t

    pub counts_to : p ≡ true → {q : Bool}
        → q ≡ eqb (entry s.b v) (count_at (mask_graph (length s.e) r shifts mask) b (λ u. o) (entry s.e) (entry s.b) v)
        → q ≡ counts_test graph a b s v
    unfolding counts_test
    counts_to u to =
        holds from_is u (to ∙ ap (eqb (entry s.b v))
        (count_at-agrees (same-moves (length s.e)) (entry s.e) b (λ u. o) (entry s.b)
        ∙ count-on graph b (entry s.e) (entry s.b)))

-- The tests of the numbers at v, where the moves from v can be read from a mask and `classes` are their classes.
module _ (j : Bool) (a b : ℕ) (s : Sheet) {r : Directions} {shifts : List ℕ} {classes : List Class} {mask v : ℕ}
    (R : Readable (length s.d) r shifts mask v) (C : Classes r classes) (small : entry s.d v ≤ unreachable) where
  abbrev g : Graph
  g = mask_graph (length s.d) r shifts mask

  moves : ClassMoves g shifts classes mask v
  moves = mask-classed C shifts mask v R.lawful (length s.d)

  abbrev near : ℕ → List ℕ → Bool
  near c l = right_least shifts classes mask c (entry l) v

  -- A route sheet.
  module _ (with : j ≡ true) (small-e : entry s.e v ≤ unreachable) {k : Bool}
      (found : k ≡ (near a s.d && near b s.e)) where
    costs : k ≡ (right_cost_in g a (entry s.d) v && right_cost_in g b (entry s.e) v)
    costs =
        found ∙ sym (ap₂ ◌&&◌ (least-right moves (entry s.d) small a) (least-right moves (entry s.e) small-e b))

    pub vertex-costs : k ≡ false → k ≡ vertex_test j g a b s v
    unfolding vertex_test
    vertex-costs t = rw with (fails costs _ t)

    pub vertex-counts : k ≡ true → {p : Bool} → p ≡ counts_test g a b s v
        → p ≡ vertex_test j g a b s v
    unfolding vertex_test
    vertex-counts t q = rw with (holds costs t q)

  -- A no_route sheet.
  module _ (without : j ≡ false) {k : Bool} (found : k ≡ near a s.d) where
    cost : k ≡ right_cost_in g a (entry s.d) v
    cost = found ∙ sym (least-right moves (entry s.d) small a)

    pub vertex-cost : k ≡ false → k ≡ vertex_test j g a b s v
    unfolding vertex_test
    vertex-cost t = rw without (fails cost _ t)

    pub vertex-blank : k ≡ true → {p : Bool} → p ≡ blank_at s v
        → p ≡ vertex_test j g a b s v
    unfolding vertex_test
    vertex-blank t q = rw without (holds cost t q)
