-- A text written at the start of a buffer: its length, and that the buffer begins with it.
use Prim.Native.Nat.{ℕ, ◌≤◌}
use mathlib.Core.Path.{◌≡◌, sym, ap, ◌∙◌}
use mathlib.Core.List.{List}
use native.Mathlib.Omega.{arith}
use native.Mathlib.Nat.{zero-add}
use lib.ListN.{length, take}
use lib.Seq.{take_at}
use Rattle.records.specs.Known.{Written}
use Rattle.records.proofs.Writing.{written-length}

module _ {out text out' : List ℕ} {n : ℕ} (w : Written out 0 text out' n) where
  pub written-size : n ≡ length text
  written-size = w.place ∙ zero-add (length text)

  pub written-take : take n out' ≡ text
  written-take = ap (take n) w.holds ∙ take_at text _ n (sym written-size)

  pub written-within : n ≤ length out'
  written-within = omega (arith, w.room, w.place, written-length w)
