-- `replay::follow_cost` meets its contract: a record can follow only where its own vertex is no pinch. Assumes nothing.
use mathlib.Core.Path.{◌≡◌, sym, ◌∙◌}
use mathlib.Core.Bool.{true, false}
use Rattle.std.proofs.Common.{rules}
use Rattle.floor.specs.Plan.{floor_on}
use Rattle.replay.specs.Replay.{pinch_at, follow_cost}
use Rattle.replay.proofs.follow_cost.Goals.{Then-on_pinch, Else-on_pinch}
use Rattle.replay.proofs.follow_cost.Goals as goal

shut : (c : Then-on_pinch) → pinch_at (floor_on c.args.floor) c.args.v.0 ≡ true
shut c = sym c.on_pinch.ensures ∙ c.if-on_pinch.true

free : (c : Else-on_pinch) → pinch_at (floor_on c.args.floor) c.args.v.0 ≡ false
free c = sym c.on_pinch.ensures ∙ c.if-on_pinch.false

pub returns-then-on_pinch : goal.returns-then-on_pinch
unfolding follow_cost
returns-then-on_pinch c = rw (shut c)

pub returns-in-Some : goal.returns-in-Some
unfolding follow_cost
returns-in-Some c = let n = free (goal.at.returns-in-Some c).Else-on_pinch in rw n (search rules)
