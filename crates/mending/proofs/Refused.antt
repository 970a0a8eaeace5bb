-- No refusal of the shape of the input has the number 0 or 7, so that an answer with one of these numbers has a true
-- sheet.
--
--   other n       == the number n is neither 0 nor 7
--   mend-other    == `other` of the number of every refusal of the shape of the input
--   other-counts  == an answer whose number is neither 0 nor 7 has 0 for each slice
--   other-points  == an answer with a number other than 0 has no points
use Prim.Native.Nat.{ℕ, ◌*◌}
use mathlib.Core.Path.{◌≡◌, refl, sym, ap, ◌∙◌}
use mathlib.Core.Bool.{Bool, true, false, ◌&&◌, ◌||◌, not}
use mathlib.Core.List.{List}
use lib.Dec.{ltb, eqb}
use lib.ListN.{length}
use Rattle.std.specs.Prelude.{Option, Some, None, Result, Ok, Err}
use Rattle.basics.specs.Bounded.{pick}
use Rattle.basics.proofs.Bools.{not-both}
use Rattle.floor.specs.Floor.{floor_of, map_length, vertices, column, row}
use Rattle.floor.specs.Refusals.{Shape, refusal_number, and_then, side, sides_shape, unused_clear, floor_shape, end_shape}
use Rattle.floor.specs.declared.Refusal.{Refusal}
use Rattle.floor.specs.declared.Refusal.TheVariants.{Size, MapLength, UnusedBit, End, Pinched}
use Rattle.sight.specs.Sight.{pinch}
use Rattle.moves.specs.declared.Directions.{Directions}
use Rattle.moves.specs.Moves.{neighbourhood_of}
use Rattle.paths.specs.Sheet.{Sheet}
use Rattle.grid.specs.Grid.{with_dirs, pinch_shape, ends_shape, job_shape}
use Rattle.mending.specs.Mending.{MendAnswer, if_sized, mend_shape, number_by, points_by, mend_number, mend_points}
use Rattle.mending.specs.Mending.{mend_differences, no_differences}

abbrev pub other : ℕ → Bool
other n = not (eqb n 0 || eqb n 7)

-- ---- answers whose refusals have numbers other than 0 and 7

abbrev other_in : {A : Type 0} → Result A Refusal → Bool
other_in (Ok x) = true
other_in (Err r) = other (refusal_number r)

record Other {A : Type 0} (s : Result A Refusal) : Type 0 where
  is : other_in s ≡ true

then-other : {A : Type 0} (s : Shape) (t : Result A Refusal) → Other s → Other t → Other (and_then s t)
then-other (Ok x) t p q = q
then-other (Err r) t p q = record { is = p.is }

pick_other : (b : Bool) (r : Refusal) → other (refusal_number r) ≡ true → Other {A = Unit {0}} (pick b (Ok tt) (Err r))
pick_other true r e = record { is = refl }
pick_other false r e = record { is = e }

pick-refused : (b : Bool) (r : Refusal) → other (refusal_number r) ≡ true → Other {A = Unit {0}} (pick b (Err r) (Ok tt))
pick-refused true r e = record { is = e }
pick-refused false r e = record { is = refl }

dirs-other : (n : Option Directions) (s : Shape) → Other s → Other (with_dirs n s)
dirs-other (Some r) s q = then-other s (Ok r) q (record { is = refl })
dirs-other None s q = record { is = refl }

sized-other : (z : Bool) (j : Result Directions Refusal) → Other j → Other (if_sized z j)
sized-other true (Ok dirs) e = record { is = refl }
sized-other false (Ok dirs) e = record { is = refl }
sized-other z (Err r) e = e

-- ---- the shape of the operation's input

module _ (w h : ℕ) (map : List ℕ) where
  floor-other : Other (floor_shape w h map)
  unfolding floor_shape sides_shape
  floor-other =
      then-other _ _ (pick_other (side w && side h) Size refl)
      (then-other _ _ (pick_other (eqb (length map) (map_length (w * h))) MapLength refl)
      (pick_other (unused_clear (w * h) map) UnusedBit refl))

  end-other : (v : ℕ) → Other (end_shape w h v)
  unfolding end_shape
  end-other v = pick_other (ltb v (vertices w h)) End refl

  pinch-other : (v : ℕ) → Other (pinch_shape (floor_of w h map) v)
  unfolding pinch_shape
  pinch-other v = pick-refused (pinch (floor_of w h map) (column w v) (row w v)) Pinched refl

  ends-other : (a b : ℕ) → Other (ends_shape w h map a b)
  unfolding ends_shape
  ends-other a b =
      then-other _ _ (then-other _ _ (end-other a) (end-other b)) (then-other _ _ (pinch-other a) (pinch-other b))

  module _ (nb a b : ℕ) where
    job-other : Other (job_shape w h map nb a b)
    unfolding job_shape
    job-other =
        let ends = ends_shape w h map a b in
        then-other (floor_shape w h map) (with_dirs (neighbourhood_of nb) ends) floor-other
        (dirs-other (neighbourhood_of nb) ends (ends-other a b))

    pub mend-other : (old second : Sheet) (work : List ℕ) {z : Refusal}
        → mend_shape w h map nb a b old second work ≡ Err z
        → other (refusal_number z) ≡ true
    unfolding mend_shape
    mend-other old second work e = ap other_in (sym e) ∙ (sized-other _ (job_shape w h map nb a b) job-other).is

number-not : (p : Option ℕ) → other (number_by p) ≡ false
number-not (Some n) = refl
number-not None = refl

points-not : (p : Option ℕ) → (number_by p ≡ 0 → ⊥) → points_by p ≡ 0
points-not (Some n) e = absurd (e refl)
points-not None e = refl

pub other-counts : (r : MendAnswer) → other (mend_number r) ≡ true → mend_differences r ≡ no_differences
other-counts (Ok m) e = not-both _ e (number-not m.points)
other-counts (Err z) e = refl

pub other-points : (r : MendAnswer) → (mend_number r ≡ 0 → ⊥) → mend_points r ≡ 0
other-points (Ok m) e = points-not m.points e
other-points (Err z) e = refl
