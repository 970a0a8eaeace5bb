-- `records::lines::put_vertices` meets its contract: i vertices are written, each in at most 6 bytes. Assumes nothing.
use Prim.Native.Nat.{◌<◌}
use mathlib.Core.Path.{◌∙◌}
use lib.ListN.{get_or, length-take}
use lib.Seq.{get_or-take}
use native.Mathlib.Omega.{arith}
use Rattle.records.proofs.Decimal.{decimal-u16}
use Rattle.records.proofs.Vertices.{listing_none, listing-more, listing-done}
use Rattle.records.proofs.lines.put_vertices.Goals as goal

pub loop-p-init : goal.loop-p-init
loop-p-init c = listing_none _ _ _ _ _ c.requires.k_in_bounds

pub loop-p-preserved : goal.loop-p-preserved
loop-p-preserved c =
    let i = c.loop-p.p-index in
    let l : i < c.args.k = omega (arith, c.loop-p-test.true, length-take c.args.k c.args.kept.now) in
    let e = c.from.ensures ∙ get_or-take c.args.k c.args.kept.now i 0 l in
    let small = c.type_inv.route (get_or c.args.kept.now i 0) in
    listing-more c.loop-p.invariant l (rw e at c.put_vertex-next.ensures)
    (omega (arith, decimal-u16 (get_or c.args.route.now (get_or c.args.kept.now i 0) 0) (omega arith)))

pub returns : goal.returns
returns c = record {
  written = listing-done c.loop-p.invariant
      (omega (arith, c.requires.kept.count, length-take c.args.k c.args.kept.now));
  upper_bound = omega (arith, c.loop-p.invariant.few);
}
