-- The classes of moves of one cost: a test that antt computes for each neighbourhood, and what follows from it.
--
--   four-moves     == a neighbourhood has four moves at least
--   middle-low     == the middle of a quarter turn is one of a neighbourhood's first four moves
--   listed_same    == the classes of its moves, one after the other, are `classes_for`
--   listed-classes == `Classes r` of the four classes that `classes_for r` has
use Prim.Native.Nat.{ℕ, ◌-◌, ◌≤◌}
use mathlib.Core.Path.{◌≡◌, refl}
use mathlib.Core.Logic.{⊎_elim}
use mathlib.Core.Bool.{Bool, true, ◌&&◌, ◌||◌}
use mathlib.Core.List.{List, [], ◌∷◌}
use native.Mathlib.Omega.{arith}
use borrow.Author.Tests.{eqb-true, leb-true}
use lib.Dec.{leb, eqb}
use Rattle.basics.specs.Bounded.{every, any, bounded-opened}
use Rattle.basics.proofs.Bools.{and_both, or_cases}
use Rattle.basics.proofs.Bounded.{every-at, any-cases}
use Rattle.moves.specs.declared.Directions.{Directions}
use Rattle.offsets.specs.declared.Class.{Class}
use Rattle.moves.specs.Moves.{directions_of, dir_at, move_at}
use Rattle.moves.specs.Table.{Listed}
use Rattle.offsets.specs.Classes.{class_count, class_at, class_dir, CostClass, Classes}
use Rattle.offsets.specs.Classes.{class_for, middle_of, classes_for}
use Rattle.moves.proofs.Table.{each-listed}

-- ---- the test

abbrev dir_test : Directions → Class → ℕ → ℕ → Bool
dir_test r c j m = eqb (dir_at r m) (class_dir c j) && eqb (move_at r m).cost c.cost

abbrev move_test : Directions → Class → ℕ → Bool
move_test r c j = any r.count (dir_test r c j)

abbrev class_test : Directions → Class → Bool
class_test r c = leb c.cost 4095 && (leb c.cost 0 || every 4 (move_test r c))

abbrev member_test : Directions → Class → ℕ → Bool
member_test r c m = any 4 (λ j. dir_test r c j m)

abbrev cover_test : Directions → List Class → ℕ → Bool
cover_test r l m = any class_count (λ k. member_test r (class_at l k) m)

class-true : (r : Directions) (c : Class) → class_test r c ≡ true → CostClass r c
class-true r c e =
    let both = and_both (leb c.cost 4095) (leb c.cost 0 || every 4 (move_test r c)) e in
    record {
      high = leb-true _ _ both.0;
      move = λ some j h. ⊎_elim (λ none. absurd (omega (arith, leb-true c.cost 0 none)))
          (λ all.
          let m = any-cases r.count (dir_test r c j) (every-at 4 (move_test r c) all j h) in
          let t = and_both (eqb (dir_at r m.0) (class_dir c j)) (eqb (move_at r m.0).cost c.cost) m.2 in
          (m.0, m.1, eqb-true _ _ t.0, eqb-true _ _ t.1))
          (or_cases (leb c.cost 0) (every 4 (move_test r c)) both.1);
    }

-- There are four moves at least, the middle of a quarter turn is one of the first four, and the classes pass.
record Tested (r : Directions) (l : List Class) : Type 0 where
  pub many : 4 ≤ r.count
  pub middle : middle_of r ≤ 3
  pub each : every class_count (λ k. class_test r (class_at l k)) ≡ true
  pub covers : every r.count (cover_test r l) ≡ true
  pub paired : eqb (class_at l 2).cost (class_at l 3).cost ≡ true

tested : (r : Directions) (l : List Class) → Tested r l → Classes r l
tested r l t = record {
  each = λ k h. class-true r (class_at l k) (every-at class_count (λ k. class_test r (class_at l k)) t.each k h);
  covers = λ m h.
      let k = any-cases class_count (λ k. member_test r (class_at l k) m)
      (every-at r.count (cover_test r l) t.covers m h) in
      let c = class_at l k.0 in
      let j = any-cases 4 (λ j. dir_test r c j m) k.2 in
      let u = and_both (eqb (dir_at r m) (class_dir c j.0)) (eqb (move_at r m).cost c.cost) j.2 in
      (k.0, k.1, (j.0, j.1, eqb-true _ _ u.0), eqb-true _ _ u.1);
  paired = eqb-true _ _ t.paired;
}

-- ---- the classes of each neighbourhood

cardinal-classes : Tested (directions_of 0 4 4) (classes_for (directions_of 0 4 4))
unfolding bounded-opened
cardinal-classes = record { many = omega arith; middle = omega arith; each = refl; covers = refl; paired = refl }

eight-classes : Tested (directions_of 0 2 8) (classes_for (directions_of 0 2 8))
unfolding bounded-opened
eight-classes = record { many = omega arith; middle = omega arith; each = refl; covers = refl; paired = refl }

sixteen-classes : Tested (directions_of 16 1 16) (classes_for (directions_of 16 1 16))
unfolding bounded-opened
sixteen-classes = record { many = omega arith; middle = omega arith; each = refl; covers = refl; paired = refl }

module _ {r : Directions} (h : Listed r) where
  listed-tested : Tested r (classes_for r)
  listed-tested = each-listed (λ r. Tested r (classes_for r)) cardinal-classes eight-classes sixteen-classes h

  pub four-moves : 4 ≤ r.count
  four-moves = listed-tested.many

  pub middle-low : middle_of r ≤ 3
  middle-low = listed-tested.middle

  -- The classes as the code makes them, one by one.
  pub listed-classes : (a b c d : Class) → a ≡ class_for r 0 → b ≡ class_for r (middle_of r)
      → c ≡ class_for r (3 - middle_of r) → d ≡ class_for r 3 → Classes r (a ∷ b ∷ c ∷ d ∷ [])
  listed-classes a b c d p q s t = rw (p, q, s, t) (tested r (classes_for r) listed-tested)

  -- and they are `classes_for`
  pub listed_same : (a b c d : Class) → a ≡ class_for r 0 → b ≡ class_for r (middle_of r)
      → c ≡ class_for r (3 - middle_of r) → d ≡ class_for r 3 → (a ∷ b ∷ c ∷ d ∷ []) ≡ classes_for r
  listed_same a b c d p q s t = rw (p, q, s, t) refl
