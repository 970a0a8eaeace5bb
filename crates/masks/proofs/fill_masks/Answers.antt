-- `masks::fill_masks` meets its contract: the masks of the moves that leave the vertices are stored, and then the moves
-- to pinches of the rows before y are cleared. Assumes nothing.
use Prim.Native.Nat.{suc, ◌*◌}
use mathlib.Core.Path.{◌≡◌, ap}
use native.Mathlib.Omega.{arith}
use Rattle.floor.specs.Floor.{number}
use Rattle.floor.specs.Plan.{floor_on}
use Rattle.masks.proofs.Clearing.{cleared-none, cleared-all}
use Rattle.masks.proofs.fill_masks.Goals as goal

pub loop-y-init : goal.loop-y-init
loop-y-init c =
    let a = c.args in
    let zero : number a.floor.w 0 0 ≡ 0 = omega arith in
    (rw zero (cleared-none (floor_on a.floor) a.dirs c.requires.0 c.fill_leaving.ensures), omega arith)

pub returns : goal.returns
returns c =
    let a = c.args in
    let end : c.loop-y.y ≡ suc a.floor.h = omega (arith, c.loop-y.invariant.1) in
    cleared-all (floor_on a.floor) a.dirs c.requires.0 (omega (arith, ap (λ z. z * suc a.floor.w) end))
    c.loop-y.invariant.0
