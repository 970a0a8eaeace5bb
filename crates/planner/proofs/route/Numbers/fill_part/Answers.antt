-- `planner::route::Numbers::fill_part` meets its contract: the places before v have their next vertices. Assumes nothing.
use Prim.Native.Nat.{◌<◌}
use mathlib.Core.Path.{◌≡◌, subst}
use native.Mathlib.Omega.{arith}
use lib.ListN.{length}
use Rattle.planner.specs.Parts.{NumberedBy}
use Rattle.planner.proofs.Numbering.{numbered_more}
use Rattle.planner.proofs.route.Numbers.fill_part.Goals.{In-loop-v}
use Rattle.planner.proofs.route.Numbers.fill_part.Goals as goal

-- v is a vertex.
vertex : (c : In-loop-v) → c.loop-v.v < length c.args.self.d.now
vertex c = omega (arith, c.requires.3)

pub loop-v-init : goal.loop-v-init
loop-v-init c = let p = c.requires in (p.1, p.2)

pub next_number-requires : goal.next_number-requires
next_number-requires c = (c.requires.0, vertex (goal.at.next_number-requires c).In-loop-v)

pub overflow_cast-next : goal.overflow_cast-next
overflow_cast-next c = omega (arith, c.next_number.ensures.1, c.requires.0.few)

pub offset_bounds-next-v : goal.offset_bounds-next-v
offset_bounds-next-v c = omega (arith, vertex (goal.at.offset_bounds-next-v c).In-loop-v, c.requires.0.few)

pub bounds-next-v : goal.bounds-next-v
bounds-next-v c = omega (arith, vertex (goal.at.bounds-next-v c).In-loop-v, c.loop-v.invariant.0.len)

pub overflow_step-v : goal.overflow_step-v
overflow_step-v c = omega (arith, vertex (goal.at.overflow_step-v c).In-loop-v, c.requires.0.few)

pub loop-v-preserved : goal.loop-v-preserved
loop-v-preserved c = (
  numbered_more c.loop-v.invariant.0 (vertex (goal.at.loop-v-preserved c).In-loop-v) c.next_number.result
      c.next_number.ensures.0,
  omega arith,
)

pub returns : goal.returns
returns c =
    let ends : c.loop-v.v ≡ c.args.past = omega (arith, c.loop-v.invariant.1) in
    subst (λ z. NumberedBy c.args.self z c.loop-v.next) ends c.loop-v.invariant.0
