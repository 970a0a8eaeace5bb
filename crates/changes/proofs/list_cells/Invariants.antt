-- `changes::list_cells` meets its contract: `Noted` says what the loop has noted. Assumes nothing.
use mathlib.Core.Path.{◌≡◌}
use lib.ListN.{length}
use Rattle.changes.specs.Known.{Noted}
use Rattle.changes.proofs.list_cells.Given as goal

abbrev pub invariant-loop-c : goal.invariant-loop-c
invariant-loop-c l =
    (l.c-end ≡ length l.initial.cells) × Noted l.map l.map2 (length l.initial.cells) l.c l.t l.cells
