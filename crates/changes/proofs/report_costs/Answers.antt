-- `changes::report_costs` meets its contract: the costs are filled on each floor, then compared. Assumes nothing.
use mathlib.Core.Path.{refl}
use Rattle.changes.proofs.Changing.{filled-report}
use Rattle.changes.proofs.report_costs.Goals as goal

pub returns : goal.returns
returns c =
    filled-report refl c.costs_from.ensures c.costs_from-2.ensures
    (rw c.requires.change_len at c.write_changes.ensures)
