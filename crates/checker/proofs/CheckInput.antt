-- Laws of `CheckInput`: a sheet whose slices have the right lengths, with a good job.
--
--   input-goal      == where `CheckInput` holds, it holds with b for the start
--   input-shaped    == every slice is as long as d
--   input-readable  == the moves that leave a vertex can be read from its mask
--   input-agrees    == the moves in the mask of a vertex are those that leave it on the floor
use Prim.Native.Nat.{ℕ, ◌<◌}
use mathlib.Core.Path.{refl, sym, ◌∙◌, subst}
use mathlib.Core.List.{List}
use lib.ListN.{length}
use Rattle.floor.specs.Floor.{floor_of, vertices}
use Rattle.moves.specs.declared.Directions.{Directions}
use Rattle.moves.specs.Leaving.{leaves}
use Rattle.moves.proofs.Table.{listed-lawful}
use Rattle.masks.specs.Masks.{MaskAt}
use Rattle.offsets.specs.Offsets.{Shifts}
use Rattle.paths.specs.Sheet.{Sheet}
use Rattle.paths.specs.Local.{Shaped}
use Rattle.grid.specs.Leaving.{leaving_graph}
use Rattle.grid.proofs.Jobs.{goal-alone}
use Rattle.neighbours.specs.Reading.{mask_graph, Readable}
use Rattle.neighbours.proofs.Agree.{Agrees}
use Rattle.neighbours.proofs.Shown.{Shows, mask-shows}
use Rattle.checker.specs.Tests.{CheckInput}

module _ {w h : ℕ} {l : List ℕ} {r : Directions} {a b : ℕ} {s : Sheet} (p : CheckInput w h l r a b s) where
  pub input-goal : CheckInput w h l r b b s
  input-goal = record { job = goal-alone p.job; shape = p.shape }

  pub input-shaped : Shaped (length s.d) s
  input-shaped = record {
    d = refl;
    e = p.shape.e ∙ sym p.shape.d;
    f = p.shape.f ∙ sym p.shape.d;
    b = p.shape.b ∙ sym p.shape.d;
    route = p.shape.route ∙ sym p.shape.d;
    next = p.shape.next ∙ sym p.shape.d;
  }

  module _ {m : List ℕ} (S : Shifts w r m) {mask v : ℕ} (i : v < vertices w h)
      (o : MaskAt leaves (floor_of w h l) r v mask) where
    shown : Shows (leaving_graph (floor_of w h l) r) r m mask v
    shown =
        mask-shows leaves (floor_of w h l) r (listed-lawful p.job.listed) S p.job.sized.wide
        p.job.sized.high mask v i o

    pub input-readable : Readable (length s.d) r m mask v
    input-readable = subst (λ (n : ℕ). Readable n r m mask v) (sym p.shape.d) shown.readable

    pub input-agrees : Agrees (mask_graph (length s.d) r m mask) (leaving_graph (floor_of w h l) r) v
    input-agrees = let q = shown.agrees in record { moves = q.moves; cost = q.cost; step = q.step }
