-- What a rectangle does not cover, and what follows from a good shape of post, strike and the writing of the working map.
use Prim.Native.Nat.{ℕ, ◌+◌, ◌≤◌, ◌<◌}
use mathlib.Core.Path.{◌≡◌, sym, ap}
use mathlib.Core.Bool.{false, ◌&&◌, not, and-false}
use mathlib.Core.List.{List}
use borrow.Author.Tests.{lt-leb, le-ltb, ltb-true, eqb-true}
use lib.Dec.{leb, ltb, eqb}
use lib.ListN.{length}
use Rattle.std.proofs.Common.{Ok, Err}
use Rattle.basics.specs.Bounded.{pick}
use Rattle.basics.proofs.Bools.{and_left}
use Rattle.floor.specs.Refusals.{sides_shape, floor_shape, left_by}
use Rattle.floor.specs.declared.Refusal.{Refusal}
use Rattle.floor.specs.declared.Refusal.TheVariants.{SliceLength, ClosureBounds, SlotsFull, SlotEmpty}
use Rattle.floor.proofs.Shapes.{good-first, good-second, good-pick}
use Rattle.closures.specs.Plain.{
  Plain,
  free_in,
  lowest_free,
  within,
  post_shape,
  post_answer,
  strike_shape,
  covers,
  work_shape,
  working_map,
}
use Rattle.closures.specs.Table.{held, Writes}
use Rattle.closures.specs.declared.Rectangle.{Rectangle}
use Rattle.closures.specs.declared.Closures.{Closures}

module _ (r : Rectangle) (i j : ℕ) where
  pub above_of : j < r.row → covers r i j ≡ false
  unfolding covers
  above_of a = rw (lt-leb r.row j a, and-false (leb r.column i && ltb i (r.column + r.columns)))

  pub below_of : r.row + r.rows ≤ j → covers r i j ≡ false
  unfolding covers
  below_of a =
      rw (
        le-ltb j (r.row + r.rows) a,
        and-false (leb r.row j),
        and-false (leb r.column i && ltb i (r.column + r.columns)),
      )

pub good-post : (w h : ℕ) (m : Plain) (r : Rectangle) → post_shape w h m r ≡ Ok tt → lowest_free m < 16
unfolding post_shape
good-post w h m r e =
    ltb-true (lowest_free m) 16 (good-pick SlotsFull (ltb (lowest_free m) 16)
    (good-second (pick (within w h r) (Ok tt) (Err ClosureBounds)) _ (good-second (sides_shape w h) _ e)))

-- The slot that post answers is one of the sixteen.
pub posted-slot : (w h : ℕ) (m : Plain) (r : Rectangle) (k : ℕ) → post_answer w h m r ≡ Ok k → k < 16
posted-slot w h m r k e =
    let s = post_shape w h m r in
    let q : Ok (lowest_free m) ≡ Ok k = good-second s (Ok (lowest_free m)) e in
    let n : lowest_free m ≡ k = cc in
    rw (sym n) (good-post w h m r (good-first s (Ok (lowest_free m)) e))

pub good-strike : (w h : ℕ) (m : Plain) (k : ℕ) → strike_shape w h m k ≡ Ok tt → k < 16
unfolding strike_shape
good-strike w h m k e =
    ltb-true k 16 (and_left (ltb k 16) (not (free_in m k))
    (good-pick SlotEmpty (ltb k 16 && not (free_in m k)) (good-second (sides_shape w h) _ e)))

pub good-work : (w h : ℕ) (base : List ℕ) (n : ℕ) → work_shape w h base n ≡ Ok tt
    → (floor_shape w h base ≡ Ok tt) × (n ≡ length base)
unfolding work_shape
good-work w h base n e = (
  good-first (floor_shape w h base) _ e,
  eqb-true n (length base) (good-pick SliceLength (eqb n (length base)) (good-second (floor_shape w h base) _ e)),
)

-- Where the shape is a refusal, that is the answer, and the working slice is as it was. The proofs go without it; docs
-- name it.
pub writes-refused : (t : Closures) (base work : List ℕ) {x : Refusal}
    → work_shape t.width t.height base (length work) ≡ Err x → Writes t base work (Err x) work
writes-refused t base work e = record {
  answers = sym e;
  leaves = sym (ap (λ s. left_by s (working_map t.width t.height base (held t)) work) e);
}
