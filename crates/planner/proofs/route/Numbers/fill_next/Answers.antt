-- `planner::route::Numbers::fill_next` meets its contract: the vertices of the parts before `part` have their next vertices, and
-- the others 0. Assumes nothing.
use native.Mathlib.Omega.{arith}
use mathlib.Core.Path.{◌≡◌}
use Prim.Native.Nat.{◌+◌, ◌*◌, min}
use lib.ListN.{length}
use Rattle.planner.proofs.Numbering.{numbered-none, numbered-off, numbered-all}
use Rattle.planner.proofs.route.Numbers.fill_next.Goals.{then-any_on_way, else-any_on_way}
use Rattle.planner.proofs.route.Numbers.fill_next.Goals as goal

pub loop-part-init : goal.loop-part-init
loop-part-init c = let e : min (length c.args.self.d.now) 0 ≡ 0 = omega arith in rw e (numbered-none c.requires.1)

pub loop-part-preserved : goal.loop-part-preserved
loop-part-preserved c =
    let v = length c.args.self.d.now in
    let i = c.loop-part.part in
    let first : min v (i * 64) ≡ i * 64 = omega (arith, c.loop-part-test.true) in
    let past : min v ((i + 1) * 64) ≡ c.min-past.result = omega (arith, c.min-past.ensures) in
    rw past (elim c.if-any_on_way.branch [
      | then-any_on_way w ↦ rw w.next-is w.fill_part.ensures
      | else-any_on_way w ↦
          rw w.next-is
          (numbered-off (rw first at c.loop-part.invariant) (omega (arith, c.min-past.ensures, c.loop-part-test.true))
          (c.any_on_way.ensures w.if-any_on_way.false))
    ])

pub returns : goal.returns
returns c =
    let all : min (length c.args.self.d.now) (c.loop-part.part * 64) ≡ length c.args.self.d.now
    = omega (arith, c.loop-part-test.false) in
    numbered-all (rw all at c.loop-part.invariant) (omega arith)
