-- `thinning::PointList::record_kept` meets its contract: the positions are those of the chain of `next_kept`. Assumes
-- nothing.
use Prim.Native.Nat.{ℕ, suc, ◌<◌}
use mathlib.Core.Path.{◌≡◌, ap, ◌∙◌}
use native.Mathlib.Omega.{arith}
use lib.ListN.{length}
use Rattle.std.proofs.Common.{rules}
use Rattle.basics.specs.Lists.{padded}
use Rattle.floor.specs.Plan.{floor_on}
use Rattle.thinning.specs.Points.{seen_in}
use Rattle.thinning.specs.Thinning.{sees_next, next_kept}
use Rattle.thinning.specs.Known.{Leg}
use Rattle.thinning.proofs.Shapes.{Joined, joined-list, joined-sees}
use Rattle.thinning.proofs.Kept.{Next, next-kept, kept-chain}
use Rattle.thinning.proofs.points.PointList.record_kept.Goals.{Start}
use Rattle.thinning.proofs.points.PointList.record_kept.Goals as goal

joined : (s : Start) → Joined (floor_on s.args.self.floor) s.args.self.list.now s.args.self.n
joined s = joined-list (floor_on s.args.self.floor) s.args.self.list.now s.args.self.n s.requires.joined

-- There is a leg from each position before the last, and `next_kept` is the `Next` position.
on : (s : Start) → (i : ℕ) → suc i < s.args.self.n → Leg (floor_on s.args.self.floor) s.args.self.list.now s.args.self.n i
unfolding sees_next
on s i a = let j = joined s in record { listed = j.listed; more = a; sees = joined-sees j i a }

moved : (s : Start) → (i : ℕ) → suc i < s.args.self.n
    → Next (seen_in s.args.self) s.args.self.n i (next_kept (seen_in s.args.self) s.args.self.n i)
moved s i a = next-kept (seen_in s.args.self) s.args.self.n i a (joined-sees (joined s) i a)

pub record-requires-clause-room : goal.record-requires-clause-room
record-requires-clause-room c =
    let j = joined (goal.at.record-requires-clause-room c).Start in
    (j.some, omega (arith, j.listed.within, c.requires.short), omega (arith, j.listed.within, c.requires.same))

pub record-requires-clause-steps : goal.record-requires-clause-steps
record-requires-clause-steps c =
    let p = c.args.self in
    let s = (goal.at.record-requires-clause-steps c).Start in
    record {
      may = λ i a. let l = on s i a in search rules;
      later = λ i j a e. let q : j ≡ next_kept (seen_in p) p.n i = search rules in rw q (moved s i a).after;
      within = λ i j a e. let q : j ≡ next_kept (seen_in p) p.n i = search rules in rw q (moved s i a).within;
    }

pub returns : goal.returns
returns c =
    let p = c.args.self in
    let e = kept-chain (floor_on p.floor) p.list.now p.n in
    record {
      count = c.record.ensures.count (next_kept (seen_in p) p.n) (λ i j a q. search rules) ∙ ap length e;
      output =
          c.record.ensures.output (next_kept (seen_in p) p.n) (λ i j a q. search rules)
          ∙ ap (padded (length c.args.out.now)) e;
    }
