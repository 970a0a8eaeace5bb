-- `mending::sheet_differences` meets its contract: each count is that of its slices. Assumes nothing.
use Rattle.basics.proofs.Counting.{differences-pairs}
use Rattle.mending.proofs.sheet_differences.Goals as goal

pub returns : goal.returns
returns c =
    let same = c.requires in
    let old = c.args.old in
    let new = c.args.new in
    rw (
      c.differences.ensures,
      differences-pairs old.d.now new.d.now same.d,
      c.differences-2.ensures,
      differences-pairs old.e.now new.e.now same.e,
      c.differences-3.ensures,
      differences-pairs old.f.now new.f.now same.f,
      c.differences-4.ensures,
      differences-pairs old.back.now new.back.now same.b,
      c.differences-5.ensures,
      differences-pairs old.route.now new.route.now same.route,
      c.differences-6.ensures,
      differences-pairs old.next.now new.next.now same.next,
    )
