-- `neighbours::row_passes` meets its contract: the flag says whether the vertices before column x pass. Assumes nothing.
use Prim.Native.Nat.{ℕ, ◌+◌, ◌*◌, ◌≤◌}
use mathlib.Core.Path.{◌≡◌}
use mathlib.Core.Bool.{Bool}
use lib.ListN.{get_or}
use Rattle.basics.specs.Bounded.{every}
use Rattle.neighbours.proofs.row_passes.Given as goal

abbrev pub invariant-loop-x : goal.invariant-loop-x
invariant-loop-x g l =
    (p : ℕ → Bool)
    → ((x : ℕ) (b : Bool) → x ≤ l.w → goal.F-post g l.passes (l.y * (l.w + 1) + x) (get_or l.masks x 0) b → b ≡ p x)
    → l.right ≡ every l.x p
