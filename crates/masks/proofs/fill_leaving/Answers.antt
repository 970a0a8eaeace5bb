-- `masks::fill_leaving` meets its contract: the masks of the rows before y are stored, and `above` and `here` are the
-- windows of the lines above y and at y. Assumes nothing.
use Prim.Native.Nat.{◌+◌, ◌-◌}
use mathlib.Core.Path.{◌≡◌}
use native.Mathlib.Omega.{arith}
use native.Mathlib.Numerals.{add-one}
use Rattle.masks.proofs.fill_leaving.Goals as goal

pub leaving_between-leaving-requires : goal.leaving_between-leaving-requires
leaving_between-leaving-requires c = (
  omega arith,
  c.requires.0,
  c.requires.1,
  record {
    upper = c.loop-y.invariant.1;
    middle = c.loop-y.invariant.2;
    lower = rw add-one at c.window_row-below.ensures;
  },
)

pub loop-y-preserved : goal.loop-y-preserved
loop-y-preserved c =
    let back : c.loop-y.y ≡ c.loop-y.y + 1 - 1 = omega arith in (
      c.store_row.ensures,
      rw back at c.loop-y.invariant.2,
      c.window_row-below.ensures,
      omega arith,
    )
