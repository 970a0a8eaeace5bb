-- `offsets::shifts_of` meets its contract: the shifts of a table hold for the directions that are in it. Assumes
-- nothing.
use Rattle.moves.proofs.Table.{table-sixteen, table-eight, table-within}
use Rattle.offsets.proofs.Masked.{shifts-within}
use Rattle.offsets.proofs.shifts_of.Goals as goal

pub returns-then-dirs-eq16 : goal.returns-then-dirs-eq16
returns-then-dirs-eq16 c =
    shifts-within (rw (table-sixteen c.args.dirs c.if-dirs-eq16.true) at (table-within c.requires.1))
    c.table_shifts.ensures

pub returns-else-dirs-eq16 : goal.returns-else-dirs-eq16
returns-else-dirs-eq16 c =
    shifts-within (rw (table-eight c.args.dirs c.if-dirs-eq16.false) at (table-within c.requires.1))
    c.table_shifts-else-dirs-eq16.ensures
