-- `planner::finish_job` meets its contract: the masks are stored, and counts, route and next vertices cleared; then no
-- walk joins the ends, or each call has what it requires by what the calls before it leave; the working slice is cleared
-- last. Assumes nothing.
use native.Mathlib.Omega.{arith}
use mathlib.Core.Path.{◌≡◌, ◌∙◌}
use Prim.Native.Nat.{◌<◌}
use lib.ListN.{length}
use Rattle.std.proofs.Common.{rules}
use Rattle.basics.specs.Lists.{zeros}
use Rattle.planner.specs.Plan.{slices_of}
use Rattle.planner.specs.Parts.{Findable}
use Rattle.planner.proofs.Shaped.{finishable-on}
use Rattle.planner.proofs.Finding.{
  found-costing,
  found-few,
  found-sized,
  found-same,
  found-input,
  found-known,
  found-choosable,
  found-walkable,
  found-many,
  found-route,
  finish-none,
  finish-findable,
  finish-cleared,
}
use Rattle.planner.proofs.finish_job.Goals.{Else-d-goal, Else-not-fill_counts}
use Rattle.planner.proofs.finish_job.Goals as goal

-- A walk joins the ends, and what the search and the counts need is in its place.
findable : (c : Else-d-goal)
    → let a = c.args in
    Findable a.floor.w a.floor.h a.floor.map.now a.dirs a.a.0 a.b.0 a.d.now
    (slices_of a.slices.e.now c.fill.new.self c.fill-2.new.self c.fill-3.new.self c.fill-4.new.self
    c.store_masks.new.work)
findable c =
    finish-findable (finishable-on c.requires c.store_masks.ensures.len) (search rules) (search rules) (search rules)
    (search rules) c.store_masks.ensures.masks c.if-d-goal.false

goal-read : (c : Else-not-fill_counts) → c.args.b.0 < length c.args.d.now
goal-read c = (found-sized (findable (goal.at.Else-not-fill_counts c).Else-d-goal)).1

goal-small : (c : Else-not-fill_counts) → c.args.b.0 < 16384
goal-small c = omega (arith, goal-read c, found-few (findable (goal.at.Else-not-fill_counts c).Else-d-goal))

pub returns-then-d-goal : goal.returns-then-d-goal
returns-then-d-goal c =
    let blank : c.fill-then-d-goal-2.new.self ≡ zeros (length c.store_masks.new.work) = search rules in
    finish-none (finishable-on c.requires c.store_masks.ensures.len) (search rules) (search rules) (search rules)
    (search rules) c.if-d-goal.true (search rules) blank

pub costs_over_masks-n-requires : goal.costs_over_masks-n-requires
costs_over_masks-n-requires c =
    let F = findable (goal.at.costs_over_masks-n-requires c).Else-d-goal in
    record { costing = found-costing F; masks_in = F.masks }

pub fill_counts-requires : goal.fill_counts-requires
fill_counts-requires c =
    let F = findable (goal.at.fill_counts-requires c).Else-d-goal in
    let s = found-sized F in
    let C = c.costs_over_masks-n.ensures in
    let S = c.shifts_of-shifts.ensures in
    (found-input F C S, found-same F C S, s.0, s.1, s.2, s.3)

pub returns-then-not-fill_counts : goal.returns-then-not-fill_counts
returns-then-not-fill_counts c =
    let F = findable (goal.at.returns-then-not-fill_counts c).Else-d-goal in
    let C = c.costs_over_masks-n.ensures in
    let S = c.shifts_of-shifts.ensures in
    let E = C.costs in
    let blank : c.fill-then-not-fill_counts.new.self ≡ zeros (length c.fill_counts.new.work) = search rules in
    finish-cleared (found-many F C S E (c.fill_counts.ensures _ (found-known F C S E)) c.if-not-fill_counts.true)
    (c.fill_counts.auto.work ∙ C.work_len) blank

pub fill_next-requires : goal.fill_next-requires
fill_next-requires c =
    let F = findable (goal.at.fill_next-requires c).Else-d-goal in
    let C = c.costs_over_masks-n.ensures in
    let S = c.shifts_of-shifts.ensures in
    let E = C.costs in
    found-choosable F C S E (c.fill_counts.ensures _ (found-known F C S E)) c.if-not-fill_counts.false

pub write_route-points-requires : goal.write_route-points-requires
write_route-points-requires c =
    let F = findable (goal.at.write_route-points-requires c).Else-d-goal in
    let C = c.costs_over_masks-n.ensures in
    let S = c.shifts_of-shifts.ensures in
    let E = C.costs in
    let filled = c.fill_counts.ensures _ (found-known F C S E) in
    (_, found-walkable F C S E filled c.if-not-fill_counts.false c.fill_next.ensures)

pub offset_bounds-d-goal-2 : goal.offset_bounds-d-goal-2
offset_bounds-d-goal-2 c = omega (arith, goal-small (goal.at.offset_bounds-d-goal-2 c).Else-not-fill_counts)

pub bounds-d-goal-2 : goal.bounds-d-goal-2
bounds-d-goal-2 c = goal-read (goal.at.bounds-d-goal-2 c).Else-not-fill_counts

pub returns : goal.returns
returns c =
    let F = findable (goal.at.returns c).Else-d-goal in
    let C = c.costs_over_masks-n.ensures in
    let S = c.shifts_of-shifts.ensures in
    let E = C.costs in
    let filled = c.fill_counts.ensures _ (found-known F C S E) in
    let fit = c.if-not-fill_counts.false in
    let N = c.fill_next.ensures in
    let blank : c.fill-5.new.self ≡ zeros (length c.fill_counts.new.work) = search rules in
    finish-cleared
    (found-route F C S E filled fit N c.write_route-points.result
    (c.write_route-points.ensures _ (found-walkable F C S E filled fit N)))
    (c.fill_counts.auto.work ∙ C.work_len) blank
