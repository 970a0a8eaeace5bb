-- `thinning::record` meets its contract: `Recording` says what the loop has recorded. Assumes nothing.
use Prim.Native.Nat.{ℕ, suc, ◌-◌, ◌≤◌, ◌<◌}
use mathlib.Core.Path.{◌≡◌}
use lib.ListN.{length}
use Rattle.thinning.proofs.Recording.{Recording}
use Rattle.thinning.proofs.record.Given as goal

abbrev pub invariant-loop-i : goal.invariant-loop-i
invariant-loop-i g l = record {
  inside : l.i < l.n;
  counted : l.m ≤ suc l.i;
  told : (next : ℕ → ℕ) → ((i j : ℕ) → suc i < l.n → goal.F-post g l.next i j → j ≡ next i)
      → Recording next l.n (length l.initial.out) l.m l.i l.out;
}

abbrev pub decreases-loop-i : goal.decreases-loop-i
decreases-loop-i g l = l.n - l.i
