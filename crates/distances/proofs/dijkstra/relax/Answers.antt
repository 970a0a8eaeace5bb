-- `distances::dijkstra::relax` meets its contract: on any graph that it can run on, the far ends of the moves
-- of the first j directions of the class were offered the key. Assumes nothing.
use native.Mathlib.Omega.{arith}
use mathlib.Core.Path.{◌≡◌, sym, ◌∙◌}
use Prim.Native.Nat.{◌≤◌, ◌<◌}
use lib.ListN.{length}
use Rattle.offsets.specs.Classes.{class_dir}
use Rattle.paths.specs.Local.{entry}
use Rattle.distances.proofs.Store.{settled-le}
use Rattle.distances.proofs.Relax.{far_at, far_at-is, vertex-in, class-rows, relaxed-none, dir-low}
use Rattle.distances.proofs.Relax.{reaching, offering, relaxed-more, relaxed-all}
use Rattle.distances.proofs.dijkstra.relax.Given.{Over}
use Rattle.distances.proofs.dijkstra.relax.Goals.{After-end_or_self-x, After-settled_at, In-loop-j, Start}
use Rattle.distances.proofs.dijkstra.relax.Goals as goal

place_in : {g : Over} (s : Start g) → s.args.p < length s.args.work.now
place_in s =
    let B = s.requires.3 in
    let S = B.ready.settled in
    omega (arith, B.place, settled-le S, S.work_len)

few : {g : Over} (s : Start g) → length s.args.d.now ≤ 16384
few s = let S = s.requires.3.ready.settled in omega (arith, S.d_len, S.few)

vertex : {g : Over} (w : After-settled_at g) → w.settled_at.result < length w.args.d.now
vertex w = omega (arith, w.settled_at.ensures, vertex-in w.requires.3)

ends : {g : Over} (e : After-end_or_self-x g)
    → let a = e.args in
    e.end_or_self-x.result.0
    ≡ far_at a.shifts.now a.work.now (length a.d.now) (entry a.work.now a.p)
    (class_dir a.class e.loop-j.j)
ends e =
    let a = e.args in
    far_at-is a.shifts.now a.work.now (length a.d.now) e.settled_at.ensures
    e.mask_at-mask.ensures e.class_dir.ensures e.end_or_self-x.ensures

-- The direction is one of the four.
row_in : {g : Over} (c : In-loop-j g) → c.loop-j.j < 4
row_in c = omega (arith, class-rows c.requires.3)

pub settled_at-requires : goal.settled_at-requires
settled_at-requires o c = place_in (goal.at.settled_at-requires o c).Start

pub mask_at-mask-requires : goal.mask_at-mask-requires
mask_at-mask-requires o c =
    let S = c.requires.3.ready.settled in
    (few (goal.at.mask_at-mask-requires o c).Start, omega (arith, S.d_len, S.work_len), vertex c)

pub loop-j-init : goal.loop-j-init
loop-j-init o c = (λ g r a B. relaxed-none B, omega arith)

pub class_dir-requires : goal.class_dir-requires
class_dir-requires o c = dir-low c.requires.3 (row_in c)

pub end_or_self-x-requires : goal.end_or_self-x-requires
end_or_self-x-requires o c =
    rw (c.mask_at-mask.ensures, c.settled_at.ensures, c.class_dir.ensures)
    (reaching c.requires.3 (row_in (goal.at.end_or_self-x-requires o c).In-loop-j))

pub offer-k-requires : goal.offer-k-requires
offer-k-requires o c =
    let B = c.requires.3 in
    offering B (row_in (goal.at.offer-k-requires o c).In-loop-j) (ends (goal.at.offer-k-requires o c).After-end_or_self-x) (c.loop-j.invariant.0 _ _ _ B)

pub loop-j-preserved : goal.loop-j-preserved
loop-j-preserved o c =
    let i = row_in (goal.at.loop-j-preserved o c).In-loop-j in
    (λ g r a B. relaxed-more B i (ends (goal.at.loop-j-preserved o c).After-end_or_self-x) (c.loop-j.invariant.0 g r a B) c.offer-k.ensures, omega (arith, i))

pub shape_of-d : goal.shape_of-d
shape_of-d o c =
    let B = c.requires.3 in
    (c.loop-j.invariant.0 _ _ _ B).ready.settled.d_len ∙ sym B.ready.settled.d_len

pub shape_of-work : goal.shape_of-work
shape_of-work o c =
    let B = c.requires.3 in
    (c.loop-j.invariant.0 _ _ _ B).ready.settled.work_len ∙ sym B.ready.settled.work_len

pub returns : goal.returns
returns o c =
    let end : c.loop-j.j ≡ 4 = omega (arith, c.loop-j.invariant.1, class-rows c.requires.3) in
    λ g r a B. relaxed-all B (rw end at (c.loop-j.invariant.0 g r a B))
