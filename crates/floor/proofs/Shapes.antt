-- The refusals over the shape: what is of good shape by `sides_shape`, `floor_shape` and `end_shape`, and what follows
-- from a good shape.
use Prim.Native.Nat.{ℕ, ◌*◌, ◌≤◌, ◌<◌}
use mathlib.Core.Path.{◌≡◌, refl}
use mathlib.Core.Bool.{Bool, true, false, ◌&&◌}
use mathlib.Core.List.{List}
use borrow.Author.Tests.{leb-true, le-leb, eqb-true, eq-eqb, ltb-true}
use lib.Dec.{leb, ltb, eqb}
use lib.ListN.{length}
use Rattle.std.proofs.Common.{Result, Ok, Err}
use Rattle.basics.specs.Bounded.{pick}
use Rattle.basics.proofs.Bools.{and_left, and_right}
use Rattle.floor.specs.Floor.{map_length, vertices}
use Rattle.floor.specs.Known.{Sized}
use Rattle.floor.specs.Refusals.{Shape, side, unused_clear, sides_shape, floor_shape, end_shape, and_then}
use Rattle.floor.specs.declared.Refusal.{Refusal}
use Rattle.floor.specs.declared.Refusal.TheVariants.{Size, MapLength, UnusedBit, End}

side-of : (n : ℕ) → 1 ≤ n → n ≤ 127 → side n ≡ true
side-of n a b = rw (le-leb 1 n a, le-leb n 127 b)

pub sides-good : (w h : ℕ) → 1 ≤ w → w ≤ 127 → 1 ≤ h → h ≤ 127 → Ok tt ≡ sides_shape w h
unfolding sides_shape
sides-good w h a b c d = rw (side-of w a b, side-of h c d)

-- Where `and_then` of two answers is good, both are.
pub good-first : {A : Type 0} {x : A} (s : Shape) (t : Result A Refusal) → and_then s t ≡ Ok x → s ≡ Ok tt
good-first (Ok _) t e = refl
good-first (Err r) t e = cc

pub good-second : {A : Type 0} {x : A} (s : Shape) (t : Result A Refusal) → and_then s t ≡ Ok x → t ≡ Ok x
good-second (Ok _) t e = e
good-second (Err r) t e = cc

-- A test whose shape is good holds.
pub good-pick : {A : Type 0} {x : A} (r : Refusal) (b : Bool) → pick b (Ok x) (Err r) ≡ Ok x → b ≡ true
good-pick r true e = refl
good-pick r false e = cc

-- What holds of sides of good shape.
pub record GoodSides (w h : ℕ) : Type 0 where
  pub wide_pos : 1 ≤ w
  pub wide : w ≤ 127
  pub high_pos : 1 ≤ h
  pub high : h ≤ 127

pub good_sides : (w h : ℕ) → sides_shape w h ≡ Ok tt → GoodSides w h
unfolding sides_shape
good_sides w h e =
    let t = good-pick Size (side w && side h) e in
    let p = and_left (side w) (side h) t in
    let q = and_right (side w) (side h) t in
    record {
      wide_pos = leb-true 1 w (and_left (leb 1 w) (leb w 127) p);
      wide = leb-true w 127 (and_right (leb 1 w) (leb w 127) p);
      high_pos = leb-true 1 h (and_left (leb 1 h) (leb h 127) q);
      high = leb-true h 127 (and_right (leb 1 h) (leb h 127) q);
    }

-- What holds of a floor of good shape.
pub record GoodFloor (w h : ℕ) (l : List ℕ) : Type 0 where
  pub sized : Sized w h l
  pub wide_pos : 1 ≤ w
  pub high_pos : 1 ≤ h
  pub unused : unused_clear (w * h) l ≡ true

module _ (w h : ℕ) (l : List ℕ) where
  abbrev length_shape : Shape
  length_shape = pick (eqb (length l) (map_length (w * h))) (Ok tt) (Err MapLength)

  abbrev unused_shape : Shape
  unused_shape = pick (unused_clear (w * h) l) (Ok tt) (Err UnusedBit)

  pub floor-good : 1 ≤ w → w ≤ 127 → 1 ≤ h → h ≤ 127 → length l ≡ map_length (w * h) → unused_clear (w * h) l ≡ true
      → Ok tt ≡ floor_shape w h l
  unfolding floor_shape
  floor-good a b c d e t = rw (← sides-good w h a b c d, eq-eqb (length l) (map_length (w * h)) e, t)

  pub good-floor : floor_shape w h l ≡ Ok tt → GoodFloor w h l
  unfolding floor_shape
  good-floor e =
      let s = good_sides w h (good-first (sides_shape w h) (and_then length_shape unused_shape) e) in
      let m : and_then length_shape unused_shape ≡ Ok tt = good-second (sides_shape w h) _ e in
      let size = good-pick MapLength (eqb (length l) (map_length (w * h))) (good-first length_shape unused_shape m) in
      record {
        sized = record { wide = s.wide; high = s.high; size = eqb-true (length l) (map_length (w * h)) size };
        wide_pos = s.wide_pos;
        high_pos = s.high_pos;
        unused = good-pick UnusedBit (unused_clear (w * h) l) (good-second length_shape unused_shape m);
      }

pub good-end : (w h v : ℕ) → end_shape w h v ≡ Ok tt → v < vertices w h
unfolding end_shape
good-end w h v e = ltb-true v (vertices w h) (good-pick End (ltb v (vertices w h)) e)
