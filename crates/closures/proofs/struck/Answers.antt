-- `closures::struck` meets its contract: a slot that is struck is one of the sixteen, and it is freed. Assumes nothing.
use mathlib.Core.Path.{◌≡◌, sym, ◌∙◌}
use native.Mathlib.Omega.{arith}
use Rattle.std.proofs.Common.{Ok}
use Rattle.closures.specs.Plain.{strike_shape}
use Rattle.closures.specs.Table.{held}
use Rattle.closures.proofs.Shapes.{good-strike}
use Rattle.closures.proofs.struck.Goals.{In-Ok}
use Rattle.closures.proofs.struck.Goals as goal

good : (c : In-Ok)
    → let t = c.args.table in
    strike_shape t.width t.height (held t) c.args.k ≡ Ok tt
good c = sym c.strike_shape.ensures ∙ c.in-Ok.is

pub with_slot-requires : goal.with_slot-requires
with_slot-requires c =
    let t = c.args.table in
    let l = good-strike t.width t.height (held t) c.args.k (good (goal.at.with_slot-requires c).In-Ok) in
    omega arith

pub returns-in-Ok : goal.returns-in-Ok
returns-in-Ok c =
    let e = good (goal.at.returns-in-Ok c).In-Ok in
    record { answers = sym e; leaves = rw e c.with_slot.ensures }
