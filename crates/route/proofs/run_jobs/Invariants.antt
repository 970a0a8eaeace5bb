-- `route::run_jobs` meets its contract: before each turn the text from its cursor on is due, and each turn but the last
-- moves the cursor on, so that less of the input is left; the costs keep their length.
use Prim.Native.Nat.{◌-◌, ◌≤◌}
use mathlib.Core.Path.{◌≡◌}
use lib.ListN.{length, take}
use Rattle.floor.specs.Floor.{vertices}
use Rattle.program_text.specs.Contract.{SmallFloor}
use Rattle.records.specs.Settled.{longest}
use Rattle.route.specs.Sent.{Due}
use Rattle.route.proofs.run_jobs.Given as goal

abbrev pub invariant-loop-sent : goal.invariant-loop-sent
invariant-loop-sent l =
    let w = l.floor.0 in
    let h = l.floor.1.0 in
    let map = l.floor.1.1.0.now in
    Due (take l.r.count l.input) l.r.over w h map l.c l.written × SmallFloor w h map × (length l.d ≡ vertices w h)
    × (length l.input ≡ longest) × (l.r.count ≤ length l.input) × (length l.input ≡ length l.initial.input)

abbrev pub decreases-loop-sent : goal.decreases-loop-sent
decreases-loop-sent l = longest - l.c.at
