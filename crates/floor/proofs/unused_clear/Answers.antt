-- `floor::unused_clear` meets its contract: where 8 divides n every bit is a cell, otherwise all unused bits are in the
-- last byte. Assumes nothing.
use mathlib.Core.Path.{◌∙◌}
use borrow.Author.Tests.{eq-eqb}
use native.Mathlib.Omega.{arith}
use Rattle.floor.proofs.Unused.{all-used, last-tells}
use Rattle.floor.proofs.unused_clear.Goals as goal

pub returns-then-n-eq0 : goal.returns-then-n-eq0
returns-then-n-eq0 c =
    eq-eqb _ 0 c.if-n-eq0.true ∙ all-used c.args.n c.args.map.now c.requires c.if-n-eq0.true

pub returns-else-n-eq0 : goal.returns-else-n-eq0
returns-else-n-eq0 c =
    last-tells c.args.n c.args.map.now c.requires (λ k. omega (arith, c.type_inv.map k)) c.if-n-eq0.false
