-- `replay::move_cost` meets its contract: the loop goes on while no move leads from u to v. Assumes nothing.
use Prim.Native.Nat.{ℕ, ◌<◌}
use mathlib.Core.Path.{◌≡◌}
use mathlib.Core.Bool.{false}
use Rattle.moves.specs.Moves.{move_at}
use Rattle.moves.specs.Steps.{far_end_at}
use Rattle.replay.specs.Replay.{goes_to}
use Rattle.replay.proofs.move_cost.Given as goal

abbrev pub invariant-loop-m : goal.invariant-loop-m
invariant-loop-m l =
    (k : ℕ) → k < l.m → goes_to (far_end_at l.floor.w l.floor.h (move_at l.dirs k) l.x l.y) l.v.0 ≡ false
