-- `records::lines::put_at` meets its contract: three texts are written one after the other. Assumes nothing.
use native.Mathlib.Omega.{arith}
use Rattle.records.proofs.Writing.{written-length, written-more, room_after}
use Rattle.records.proofs.lines.put_at.Goals as goal

pub put_vertices-last-requires : goal.put_vertices-last-requires
put_vertices-last-requires c =
    record { kept = c.requires.kept; k_in_bounds = room_after c.put_text-first.ensures 3 _ (omega arith) c.requires.k_in_bounds }

pub returns : goal.returns
returns c =
    written-more (written-more c.put_text-first.ensures c.put_vertices-last.ensures.written) c.put_text.ensures

pub shape_of-buf : goal.shape_of-buf
shape_of-buf c = written-length (returns c)
