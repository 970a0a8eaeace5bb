-- `legs::LegList::record_kept` meets its contract: the positions are those of the chain of `farthest_next`. Assumes
-- nothing.
use Prim.Native.Nat.{ℕ, suc, ◌<◌}
use mathlib.Core.Path.{◌≡◌, ap, ◌∙◌}
use native.Mathlib.Omega.{arith}
use lib.ListN.{length}
use Rattle.std.proofs.Common.{rules}
use Rattle.basics.specs.Lists.{padded}
use Rattle.legs.specs.Answer.{farthest_next, proposed}
use Rattle.legs.specs.Lists.{sight_in}
use Rattle.legs.proofs.Farthest.{Far, farthest-is, proposed-chain}
use Rattle.legs.proofs.Shapes.{joined-few}
use Rattle.legs.proofs.leg_list.LegList.record_kept.Goals.{Start}
use Rattle.legs.proofs.leg_list.LegList.record_kept.Goals as goal

-- The position that is recorded after i.
moved : (s : Start) → (i : ℕ) → suc i < s.args.self.points.n
    → Far (sight_in s.args.self) s.args.self.points.n i (farthest_next (sight_in s.args.self) s.args.self.points.n i)
moved s = farthest-is (sight_in s.args.self) s.args.self.points.n s.args.self.joined.sees

pub record-requires-clause-room : goal.record-requires-clause-room
record-requires-clause-room c =
    let p = c.args.self in (p.joined.some, omega (arith, joined-few p.joined), c.requires.0)

pub record-requires-clause-steps : goal.record-requires-clause-steps
record-requires-clause-steps c =
    let p = c.args.self in
    let s = (goal.at.record-requires-clause-steps c).Start in
    record {
      may = λ i a. search rules;
      later = λ i j a e.
          let q : j ≡ farthest_next (sight_in p) p.points.n i = search rules in rw q (moved s i a).leg.later;
      within = λ i j a e.
          let q : j ≡ farthest_next (sight_in p) p.points.n i = search rules in rw q (moved s i a).leg.within;
    }

pub returns : goal.returns
unfolding proposed
returns c =
    let p = c.args.self in
    let e = proposed-chain (sight_in p) p.points.n p.points.n 0 in
    record {
      count = c.record.ensures.count (farthest_next (sight_in p) p.points.n) (λ i j a q. search rules) ∙ ap length e;
      output =
          c.record.ensures.output (farthest_next (sight_in p) p.points.n) (λ i j a q. search rules)
          ∙ ap (padded (length c.args.kept.now)) e;
    }
