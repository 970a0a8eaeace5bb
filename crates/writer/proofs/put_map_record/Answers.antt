-- `writer::put_map_record` meets its contract: the mark and the sides, then the cells. Assumes nothing.
use mathlib.Core.Path.{ap}
use Rattle.records.proofs.Writing.{written-more, written_as}
use Rattle.writer.specs.Records.{map_bytes}
use Rattle.writer.proofs.Cells.{cells_are}
use Rattle.writer.proofs.put_map_record.Goals as goal

pub returns : goal.returns
returns c =
    let f = c.args.floor in
    written_as (ap (map_bytes f.w f.h) (cells_are f.w f.h f.map.now))
    (written-more c.put_text-cells.ensures c.put_cells.ensures)
