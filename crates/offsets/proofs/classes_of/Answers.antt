-- `offsets::classes_of` meets its contract: the classes are those of `classes_for`. Assumes nothing.
use mathlib.Core.Path.{◌≡◌}
use mathlib.Core.Bool.{true}
use Prim.Native.Nat.{ℕ, ◌<◌}
use native.Mathlib.Omega.{arith}
use Rattle.moves.specs.Table.{lawful_dirs}
use Rattle.moves.proofs.Table.{listed-lawful}
use Rattle.offsets.proofs.Classes.{four-moves, middle-low, listed-classes, listed_same}
use Rattle.offsets.proofs.classes_of.Goals.{Start}
use Rattle.offsets.proofs.classes_of.Goals as goal

-- `offsets::classes_of` meets its contract: the classes are those of `classes_for`. Assumes nothing.
-- The precondition of `class_of` for one of the first four moves.
takes : (s : Start) (m : ℕ) → m < 4 → (lawful_dirs s.args.dirs ≡ true) × (m < s.args.dirs.count)
takes s m h = (listed-lawful s.requires, omega (arith, four-moves s.requires))

pub class_of-first-requires : goal.class_of-first-requires
class_of-first-requires c = takes (goal.at.class_of-first-requires c).Start 0 (omega arith)

pub class_of-second-requires : goal.class_of-second-requires
class_of-second-requires c = takes (goal.at.class_of-second-requires c).Start _ (omega (arith, middle-low c.requires))

pub overflow_sub-middle : goal.overflow_sub-middle
overflow_sub-middle c = omega (arith, middle-low c.requires)

pub class_of-third-requires : goal.class_of-third-requires
class_of-third-requires c = takes (goal.at.class_of-third-requires c).Start _ (omega arith)

pub class_of-fourth-requires : goal.class_of-fourth-requires
class_of-fourth-requires c = takes (goal.at.class_of-fourth-requires c).Start 3 (omega arith)

pub returns : goal.returns
returns c =
    let h = c.requires in (
      listed-classes h _ _ _ _ c.class_of-first.ensures c.class_of-second.ensures c.class_of-third.ensures
          c.class_of-fourth.ensures,
      listed_same h _ _ _ _ c.class_of-first.ensures c.class_of-second.ensures c.class_of-third.ensures
          c.class_of-fourth.ensures,
    )
