-- `counts::count_along` meets its contract: at each turn a vertex on the way gets its count, since the cheaper vertices
-- on the way have theirs. Assumes nothing.
use Prim.Native.Nat.{◌<◌}
use mathlib.Core.Path.{◌≡◌}
use native.Mathlib.Omega.{arith}
use lib.ListN.{length}
use Rattle.neighbours.specs.Reading.{sum_of}
use Rattle.workspace.specs.Regions.{mask_at}
use Rattle.counts.specs.Passes.{turn_place, count_of}
use Rattle.counts.proofs.Sequence.{place-lt}
use Rattle.counts.proofs.Passing.{turn-start, turn-len, turn_more, turn-over, turn_end}
use Rattle.counts.proofs.count_along.Goals.{After-count_of, After-vertex_of_turn-u}
use Rattle.counts.proofs.count_along.Goals as goal

-- The vertex of the turn is a vertex of the floor.
inside : (c : After-vertex_of_turn-u)
    → c.vertex_of_turn-u.result < length c.args.d.now
inside c =
    let i = c.loop-i.i in
    let l = place-lt c.args.n i c.args.rev (omega arith) in
    omega (arith, c.vertex_of_turn-u.ensures, c.requires.0.vertex (turn_place c.args.n i c.args.rev) l)

pub loop-i-init : goal.loop-i-init
loop-i-init c = turn-start c.requires.1

pub vertex_of_turn-u-requires : goal.vertex_of_turn-u-requires
vertex_of_turn-u-requires c =
    (omega (arith, c.requires.0.short, c.requires.0.work_len), omega arith)

pub mask_at-mask-requires : goal.mask_at-mask-requires
mask_at-mask-requires c =
    let p = c.requires.0 in
    (p.few, p.work_len, inside c)

-- What `count_of` answers, with the mask as it stands in the working slice.
counted : (c : After-count_of)
    → let a = c.args in
    let u = c.vertex_of_turn-u.result in
    c.count_of.result
    ≡ sum_of (count_of a.dirs a.shifts.now (mask_at (length a.d.now) a.work.now u) a.start a.d.now
    c.loop-i.f u)
counted c = rw c.mask_at-mask.ensures at c.count_of.ensures

pub count_of-requires : goal.count_of-requires
count_of-requires c =
    let p = c.requires in
    (rw c.mask_at-mask.ensures (p.0.readable _ (inside (goal.at.count_of-requires c).After-vertex_of_turn-u)), c.loop-i.invariant.len)

pub shape_of-f-in_default : goal.shape_of-f-in_default
shape_of-f-in_default c =
    turn-len c.loop-i.invariant c.requires.1

pub returns-in_default : goal.returns-in_default
returns-in_default c =
    turn-over c.loop-i.invariant (omega arith) c.vertex_of_turn-u.result c.vertex_of_turn-u.ensures
    c.count_of.result (counted (goal.at.returns-in_default c).After-count_of) c.in_default.is

pub offset_bounds-f-u : goal.offset_bounds-f-u
offset_bounds-f-u c =
    omega (arith, inside (goal.at.offset_bounds-f-u c).After-vertex_of_turn-u, c.requires.0.few)

pub bounds-f-u : goal.bounds-f-u
bounds-f-u c =
    omega (arith, inside (goal.at.bounds-f-u c).After-vertex_of_turn-u, c.loop-i.invariant.len)

pub loop-i-preserved : goal.loop-i-preserved
loop-i-preserved c =
    turn_more c.loop-i.invariant (omega arith) c.vertex_of_turn-u.result c.vertex_of_turn-u.ensures
    c.count_of.result (counted (goal.at.loop-i-preserved c).After-count_of) c.in-Some.x c.in-Some.is

pub shape_of-f : goal.shape_of-f
shape_of-f c = turn-len c.loop-i.invariant c.requires.1

pub returns : goal.returns
returns c = turn_end c.loop-i.invariant (omega arith)
