-- `distances::costs_from` meets its contract: the masks are stored, the costs are filled over them, and then the
-- working slice is cleared. Assumes nothing.
use mathlib.Core.Path.{◌≡◌}
use lib.ListN.{length}
use Rattle.std.proofs.Common.{rules}
use Rattle.basics.specs.Lists.{zeros}
use Rattle.distances.proofs.Operations.{costing-on, filled-costs}
use Rattle.distances.proofs.costs_from.Goals as goal

pub costs_over_masks-requires : goal.costs_over_masks-requires
costs_over_masks-requires c =
    record {
      costing = costing-on c.requires c.store_masks.ensures.len;
      masks_in = c.store_masks.ensures.masks;
    }

pub returns : goal.returns
returns c =
    let clear : c.fill.new.self ≡ zeros (length c.costs_over_masks.new.work) = search rules in
    filled-costs c.costs_over_masks.ensures clear
