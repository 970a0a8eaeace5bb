-- The far end of a move that passes a test S, by vertex numbers; and the opposite move leads back, where S says the
-- same both ways, as sight does.
--
--   goes              == where `end_if S f m x y` is w, move m goes to w
--   goes-column, -row == the column and row of the far end of a move that passes the test
--   goes-inside       == the far end of a move that passes the test is a vertex
--   goes-dx, goes-dy  == two moves between the same two vertices have the same offsets
--   goes_back         == where m goes from u to w, a move of the opposite offsets goes from w to u
use Prim.Native.Nat.{ℕ, ◌<◌}
use mathlib.Core.Path.{◌≡◌, sym, ap, ◌∙◌}
use mathlib.Core.Bool.{Bool}
use mathlib.Core.Option.{some}
use native.Mathlib.Omega.{arith}
use Rattle.floor.specs.Floor.{Floor, vertices, column, row}
use Rattle.floor.proofs.Numbers.{number_lt, number_of, column-le, row-le, column-number, row_number}
use Rattle.sight.specs.Sight.{Segment, segment_of}
use Rattle.sight.proofs.Symmetry.{back}
use Rattle.moves.specs.declared.Move.{Move}
use Rattle.moves.specs.Steps.{end_if}
use Rattle.moves.specs.AnyTable.{Turned}
use Rattle.moves.proofs.Table.{offset-eq}
use Rattle.moves.proofs.Steps.{Goes, end_goes}

module _ (S : Floor → Segment → Bool) (f : Floor) where
  abbrev W : ℕ
  W = f.wide

  abbrev X : ℕ → ℕ
  X = column W

  abbrev Y : ℕ → ℕ
  Y = row W

  pub goes : (m : Move) (u w : ℕ) → end_if S f m (X u) (Y u) ≡ some w → Goes S f m (X u) (Y u) w
  goes m u w e = end_goes S f m (X u) (Y u) w (column-le W u) e

  pub goes-column : (m : Move) (u w : ℕ) (g : Goes S f m (X u) (Y u) w) → X w ≡ g.i
  goes-column m u w g = ap X g.vertex ∙ column-number W g.i g.j g.columns.inside

  pub goes-row : (m : Move) (u w : ℕ) (g : Goes S f m (X u) (Y u) w) → Y w ≡ g.j
  goes-row m u w g = ap Y g.vertex ∙ row_number W g.i g.j g.columns.inside

  pub goes-inside : (m : Move) (u w : ℕ) → Goes S f m (X u) (Y u) w → w < vertices W f.high
  goes-inside m u w g = rw g.vertex (number_lt W f.high g.i g.j g.columns.inside g.rows.inside)

  -- Two moves between the same two vertices have the same offsets.
  pub goes-dx : (m n : Move) (u w : ℕ) → Goes S f m (X u) (Y u) w → Goes S f n (X u) (Y u) w → m.dx ≡ n.dx
  goes-dx m n u w g k =
      offset-eq m.dx n.dx
      (omega (arith, goes-column m u w g, goes-column n u w k, g.columns.moved, k.columns.moved))

  pub goes-dy : (m n : Move) (u w : ℕ) → Goes S f m (X u) (Y u) w → Goes S f n (X u) (Y u) w → m.dy ≡ n.dy
  goes-dy m n u w g k =
      offset-eq m.dy n.dy (omega (arith, goes-row m u w g, goes-row n u w k, g.rows.moved, k.rows.moved))

  -- A move of the opposite offsets leads back.
  pub goes_back : ((s : Segment) → S f (back s) ≡ S f s)
      → (m n : Move) (u w : ℕ) → u < vertices W f.high → Turned n.dx m.dx
      → Turned n.dy m.dy
      → Goes S f m (X u) (Y u) w → Goes S f n (X w) (Y w) u
  goes_back same m n u w l p q g = record {
    i = X u;
    j = Y u;
    columns = record {
      moved = omega (arith, goes-column m u w g, g.columns.moved, p.up_down, p.down_up);
      inside = column-le W u;
    };
    rows = record {
      moved = omega (arith, goes-row m u w g, g.rows.moved, q.up_down, q.down_up);
      inside = row-le W f.high u l;
    };
    vertex = sym (number_of W u);
    held = rw (goes-column m u w g, goes-row m u w g) (same (segment_of (X u) (Y u) g.i g.j) ∙ g.held);
  }
