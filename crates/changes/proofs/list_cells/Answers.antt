-- `changes::list_cells` meets its contract: `Noted` says what the loop has noted. Assumes nothing.
use mathlib.Core.Path.{◌≡◌, refl, ◌∙◌}
use native.Mathlib.Omega.{arith}
use lib.ListN.{length}
use Rattle.std.proofs.Common.{rules}
use Rattle.basics.specs.Lists.{zeros}
use Rattle.changes.proofs.Noting.{noted-none}
use Rattle.changes.proofs.list_cells.Goals.{After-fill}
use Rattle.changes.proofs.list_cells.Goals as goal

-- Clearing keeps the length.
kept : (c : After-fill)
    → length c.fill.new.self
    ≡ length c.args.cells.now
kept c = c.fill.ensures.len

pub loop-c-init : goal.loop-c-init
loop-c-init c =
    let e : c.fill.new.self ≡ zeros (length c.args.cells.now) = search rules in
    (refl, rw (kept (goal.at.loop-c-init c).After-fill, e) (noted-none c.requires))

pub note_cell-t-requires : goal.note_cell-t-requires
note_cell-t-requires c =
    let i = c.loop-c.invariant in rw i.1.len (i.1, omega arith)

pub loop-c-preserved : goal.loop-c-preserved
loop-c-preserved c =
    let i = c.loop-c.invariant in
    (i.0, rw i.1.len at c.note_cell-t.ensures)

pub shape_of-cells : goal.shape_of-cells
shape_of-cells c = c.loop-c.invariant.1.len ∙ kept (goal.at.shape_of-cells c).After-fill

pub returns : goal.returns
returns c =
    let i = c.loop-c.invariant in
    let e : c.loop-c.c ≡ length c.fill.new.self = omega (arith, i.0, i.1.within) in
    rw (← kept (goal.at.returns c).After-fill) (rw e at i.1)
