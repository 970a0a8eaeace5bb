-- One pass over the vertices of a floor, row by row.
--
--   vertex_test-agrees    == the test of a vertex reads only the moves from it
--   vertices-rows        == vertices_test j g a b s is row_test j g a b s w y for every row y
--   column-mask          == the mask of the vertex in column x is that of the moves that leave it
--   column-readable      == the moves that leave the vertex in column x can be read from its mask
--   column-passes        == the code's test of the vertex in column x is `column_test`
use Prim.Native.Nat.{ℕ, suc, ◌<◌}
use mathlib.Core.Path.{◌≡◌, sym, ◌∙◌}
use mathlib.Core.Bool.{Bool}
use mathlib.Core.List.{List}
use lib.ListN.{length}
use Rattle.basics.specs.Bounded.{every}
use Rattle.basics.proofs.Bounded.{every-rows}
use Rattle.floor.specs.Floor.{floor_of, vertices, number}
use Rattle.floor.proofs.Numbers.{number_lt}
use Rattle.moves.specs.declared.Directions.{Directions}
use Rattle.moves.specs.Table.{OnFloor}
use Rattle.moves.specs.Leaving.{leaves}
use Rattle.masks.specs.Masks.{MaskAt, Leaving}
use Rattle.masks.proofs.Masks.{mask-number}
use Rattle.offsets.specs.Offsets.{Shifts}
use Rattle.paths.specs.Graph.{Graph}
use Rattle.paths.specs.Sheet.{Sheet}
use Rattle.paths.specs.Local.{entry, local_on}
use Rattle.grid.specs.Leaving.{leaving_graph}
use Rattle.neighbours.specs.Reading.{mask_graph, Readable}
use Rattle.neighbours.proofs.Agree.{Agrees, right_cost_in-agrees, count_at-agrees}
use Rattle.checker.specs.Tests.{counts_test, vertex_test, vertices_test, column_test, row_test, CheckInput}
use Rattle.checker.proofs.CheckInput.{input-readable, input-agrees}

pub vertex_test-agrees : {g h : Graph} {v : ℕ} → Agrees g h v → (j : Bool) (a b : ℕ) (s : Sheet)
    → vertex_test j g a b s v ≡ vertex_test j h a b s v
unfolding vertex_test counts_test
vertex_test-agrees q j a b s =
    rw (
      right_cost_in-agrees q (entry s.d) a,
      right_cost_in-agrees q (entry s.e) b,
      count_at-agrees q (entry s.d) a (local_on b s) (entry s.f),
      count_at-agrees q (entry s.e) b (local_on b s) (entry s.b),
    )

pub vertices-rows : (w h : ℕ) (l : List ℕ) (r : Directions) (j : Bool) (a b : ℕ) (s : Sheet)
    → let g = leaving_graph (floor_of w h l) r in every (suc h) (row_test j g a b s w) ≡ vertices_test j g a b s
unfolding vertices_test
vertices-rows w h l r j a b s = sym (every-rows (suc h) (suc w) (vertex_test j (leaving_graph (floor_of w h l) r) a b s))

-- The vertex in column x, over the graph of the moves that leave.
module _ {w h : ℕ} {l : List ℕ} {r : Directions} {a b : ℕ} {s : Sheet} (p : CheckInput w h l r a b s) {m : List ℕ}
    (S : Shifts w r m) {x y mask v : ℕ} (o : OnFloor w h x y) (k : Leaving (floor_of w h l) r x y mask)
    (numbered : v ≡ number w x y) where
  abbrev g : Graph
  g = leaving_graph (floor_of w h l) r

  inside : number w x y < vertices w h
  inside = number_lt w h x y o.column o.row

  pub column-mask : MaskAt leaves (floor_of w h l) r (number w x y) mask
  column-mask = mask-number (floor_of w h l) x y o.column k

  pub column-readable : Readable (length s.d) r m mask v
  column-readable = rw numbered (input-readable p S inside column-mask)

  pub column-passes : (j : Bool) {t : Bool} → t ≡ vertex_test j (mask_graph (length s.d) r m mask) a b s v
      → t ≡ column_test j g a b s w y x
  column-passes j is = rw numbered at is ∙ vertex_test-agrees (input-agrees p S inside column-mask) j a b s
