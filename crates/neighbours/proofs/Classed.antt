-- The moves of a neighbourhood by class, for classes as `offsets::classes_of` answers them.
--
--   mask-classed  == `ClassMoves` of the graph `mask_graph`
--   classes-lent  == `ClassesLent` where `Readable`: the far ends of the classes can be worked out where those of the
--                    moves can
use Prim.Native.Nat.{ℕ, ◌<◌}
use mathlib.Core.Path.{◌≡◌, refl, ap}
use mathlib.Core.Bool.{true}
use mathlib.Core.List.{List}
use mathlib.Core.Option.{Option, none, some}
use native.Mathlib.Omega.{arith}
use Rattle.moves.specs.declared.Directions.{Directions}
use Rattle.moves.specs.Moves.{dir_at}
use Rattle.moves.specs.Table.{lawful_dirs}
use Rattle.moves.proofs.Table.{lawful-move}
use Rattle.offsets.specs.declared.Class.{Class}
use Rattle.offsets.specs.Offsets.{dir_end}
use Rattle.offsets.specs.Classes.{Classes}
use Rattle.neighbours.specs.Reading.{mask_graph, Readable}
use Rattle.neighbours.specs.Least.{end_at, DirLent, ClassesLent, ClassMoves}

module _ {r : Directions} {l : List Class} (C : Classes r l) (s : List ℕ) (mask v : ℕ) where
  pub mask-classed : lawful_dirs r ≡ true → (n : ℕ) → ClassMoves (mask_graph n r s mask) s l mask v
  mask-classed lawful n = record {
    move = λ k j h i pos.
        let m = (C.each k h).move pos j i in (
          m.0,
          record { dir = i; listed = m.1; step = ap (dir_end s mask v) m.2; cost = m.3 },
        );
    covers = λ m lt.
        let k = C.covers m lt in
        let j = k.2 in (
          k.0,
          j.0,
          k.1,
          omega (arith, k.3, (lawful-move r m lawful lt).cost_low),
          record { dir = j.1; listed = lt; step = ap (dir_end s mask v) j.2; cost = k.3 },
        );
    paired = C.paired;
  }

  module _ {n : ℕ} (R : Readable n r s mask v) where
    ends-in : (k : ℕ) (o : Option ℕ) → dir_end s mask v k ≡ o → ((u : ℕ) → o ≡ some u → u < n) → end_at s mask v k < n
    ends-in k none e in-n = rw e R.vertex
    ends-in k (some u) e in-n = rw e (in-n u refl)

    dir-lent : (m : ℕ) → m < r.count → DirLent n s mask v (dir_at r m)
    dir-lent m lt = record {
      listed = omega (arith, (lawful-move r m R.lawful lt).in_the_table, R.shifts_len);
      movable = R.movable m lt;
      inside = ends-in (dir_at r m) _ refl (λ u e. R.inside m u lt e);
    }

    pub classes-lent : ClassesLent n s l mask v
    classes-lent = record {
      vertex = R.vertex;
      class = λ k h. record {
        dir = λ pos j i. let m = (C.each k h).move pos j i in rw m.2 at (dir-lent m.0 m.1);
      };
    }
