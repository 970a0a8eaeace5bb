-- `masks::store_row` meets its contract: the masks of the vertices of the row are stored. Assumes nothing.
use native.Mathlib.Omega.{arith}
use mathlib.Core.Path.{◌≡◌}
use Prim.Native.Nat.{◌+◌, ◌-◌}
use Rattle.masks.proofs.Masks.{row-stored}
use Rattle.masks.proofs.store_row.Goals as goal

pub returns : goal.returns
returns c =
    let f = c.vertex_at-first.result.0 in
    let n : f + (c.args.floor.w + 1) - f ≡ c.args.floor.w + 1 = omega arith in
    rw (c.copy_from_slice.ensures.after, n)
    (row-stored c.args.floor.sized.wide c.vertex_at-first.ensures.0 (omega arith) c.requires.0
    (rw c.vertex_at-first.ensures.0 c.requires.2) c.requires.1)
