-- The search for the lowest free slot.
--
--   Searched m k == a search for the lowest free slot of m is at k: lowest_free m = seek (16 - k) k (free_in m)
use Prim.Native.Nat.{ℕ, suc, ◌+◌, ◌-◌, ◌≤◌, ◌<◌}
use mathlib.Core.Path.{◌≡◌, refl, ◌∙◌}
use mathlib.Core.Bool.{Bool, true, false}
use native.Mathlib.Omega.{arith}
use native.Mathlib.Numerals.{add-one}
use borrow.Author.Tests.{lt-ltb}
use Rattle.std.proofs.Common.{Option, None, Some, is_some, not}
use Rattle.basics.specs.Bounded.{seek}
use Rattle.basics.proofs.Bounded.{seek-here, seek-past}
use Rattle.closures.specs.Plain.{Plain, is_free, free_in, lowest_free}
use Rattle.closures.specs.Known.{slot_found}
use Rattle.closures.specs.declared.Rectangle.{Rectangle}

pub record Searched (m : Plain) (k : ℕ) : Type 0 where
  pub within : k ≤ 16
  pub same : lowest_free m ≡ seek (16 - k) k (free_in m)

pub searched-none : (m : Plain) → Searched m 0
unfolding lowest_free
searched-none m = record { within = omega arith; same = refl }

-- What the test of a slot says.
slot_free : (s : Option Rectangle) (b : Bool) → is_some s ≡ not b → is_free s ≡ b
slot_free None true e = refl
slot_free None false e = cc
slot_free (Some r) true e = cc
slot_free (Some r) false e = refl

found : (m : Plain) (k : ℕ) → k < 16 → lowest_free m ≡ k → Some k ≡ slot_found m
found m k l e = rw (e, lt-ltb k 16 l) refl

pub searched-found : {m : Plain} {k : ℕ} {b : Bool} → Searched m k → k < 16 → is_some (m k) ≡ not b → b ≡ true
    → Some k ≡ slot_found m
searched-found {m} {k} {b} h l e t =
    let d : 16 - k ≡ suc (16 - suc k) = omega arith in
    found m k l (h.same ∙ rw d (seek-here (16 - suc k) k (free_in m) (slot_free (m k) b e ∙ t)))

pub searched-more : {m : Plain} {k : ℕ} {b : Bool} → Searched m k → k < 16 → is_some (m k) ≡ not b → b ≡ false
    → Searched m (k + 1)
searched-more {m} {k} {b} h l e t =
    let d : 16 - k ≡ suc (16 - suc k) = omega arith in
    record {
      within = omega arith;
      same = rw add-one (h.same ∙ rw d (seek-past (16 - suc k) k (free_in m) (slot_free (m k) b e ∙ t)));
    }

pub searched-all : {m : Plain} {k : ℕ} → Searched m k → 16 ≤ k → None ≡ slot_found m
unfolding seek
searched-all {m} {k} h l =
    let e : k ≡ 16 = omega (arith, h.within) in
    let q : lowest_free m ≡ 16 = rw e at h.same in
    rw q refl
