-- `floor::store_cells` meets its contract: the cells below `at` are stored. Assumes nothing.
use mathlib.Core.Path.{◌≡◌}
use native.Mathlib.Omega.{arith}
use borrow.Author.Rules.{rules}
use lib.ListN.{length}
use Rattle.basics.specs.Lists.{zeros}
use Rattle.floor.proofs.Storing.{storing-none, storing-more, storing-done}
use Rattle.floor.proofs.store_cells.Goals as goal

pub loop-at-init : goal.loop-at-init
loop-at-init c =
    let e : c.fill.new.self ≡ zeros (length c.args.map.now) = search rules in
    storing-none c.args.cells.now _ _ c.requires e

pub loop-at-preserved : goal.loop-at-preserved
loop-at-preserved c = storing-more _ _ (omega arith) _ c.loop-at.invariant c.store_cell.ensures

pub returns : goal.returns
returns c = storing-done c.loop-at.invariant (omega arith)
