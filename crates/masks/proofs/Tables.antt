-- What a function over the directions of a table needs of them.
use Rattle.moves.proofs.Table.{listed-lawful, eight-listed, sixteen-listed, table-sixteen, table-eight, table-within}

pub ruleset tables = (listed-lawful, eight-listed, sixteen-listed, table-sixteen, table-eight, table-within)
