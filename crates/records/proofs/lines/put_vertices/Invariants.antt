-- `records::lines::put_vertices` meets its contract: i vertices are written, each in at most 6 bytes. Assumes nothing.
use Rattle.records.proofs.Vertices.{Listing}
use Rattle.records.proofs.lines.put_vertices.Given as goal

abbrev pub invariant-loop-p : goal.invariant-loop-p
invariant-loop-p l = Listing l.initial.buf l.at l.fn.kept l.route l.k l.p-index l.buf l.next
