-- `records::stream::job_settled` meets its contract: a wrong byte of the mark settles the job, a missing one leaves it
-- open, and a whole record settles it. Assumes nothing.
use Prim.Native.Nat.{ℕ, ◌+◌, ◌-◌}
use native.Mathlib.Omega.{arith}
use borrow.Author.Tests.{eq-eqb, ne_eqb, leb-true, leb-false}
use lib.Dec.{eqb}
use lib.ListN.{length, get_or}
use Rattle.basics.proofs.Bools.{and_left, and_right}
use Rattle.records.proofs.Settled.{decides-yes, decides-no, job-wrong, job-whole, job-open}
use Rattle.records.proofs.stream.job_settled.Goals as goal

pub returns-then-s-at-ne74 : goal.returns-then-s-at-ne74
returns-then-s-at-ne74 c =
    let a = c.args in
    λ k. decides-yes (job-wrong a.s.now a.at k (λ x. eqb x 0x4A) a.at (omega arith)
    (ne_eqb _ _ c.if-s-at-ne74.true) (λ s g. and_left _ _ g.mark))

pub returns-then-left-lt2 : goal.returns-then-left-lt2
returns-then-left-lt2 c =
    λ k. decides-no (job-open _ _ k (λ l. eq-eqb _ _ c.if-s-at-ne74.false) (λ l. absurd (omega arith)) (omega arith))

pub returns-then-s-at-ne66 : goal.returns-then-s-at-ne66
returns-then-s-at-ne66 c =
    let a = c.args in
    λ k. decides-yes (job-wrong a.s.now a.at k (λ x. eqb x 0x42) (a.at + 1) (omega arith)
    (ne_eqb _ _ c.if-s-at-ne66.true) (λ s g. and_right (eqb (get_or s a.at 0) 0x4A) _ g.mark))

pub returns : goal.returns
returns c =
    let a = c.args in
    let left : ℕ = length a.s.now - a.at in
    λ k. record {
      yes = λ w. job-whole a.s.now a.at k (omega (arith, leb-true _ left w));
      no = λ w. job-open a.s.now a.at k (λ l. eq-eqb _ _ c.if-s-at-ne74.false) (λ l. eq-eqb _ _ c.if-s-at-ne66.false)
          (omega (arith, leb-false _ left w));
    }
