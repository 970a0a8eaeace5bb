-- `legs::LegList::true_choice` meets its contract: past the quick tests the answer is that of the numbers. Assumes
-- nothing.
use Prim.Native.Nat.{suc}
use mathlib.Core.Path.{◌≡◌, sym, ◌∙◌}
use mathlib.Core.Bool.{true, true≢false}
use native.Mathlib.Omega.{arith}
use borrow.Author.Tests.{eqb-true}
use lib.ListN.{get_or}
use Rattle.legs.specs.Answer.{kept_right, zero_from}
use Rattle.legs.specs.Lists.{sight_in}
use Rattle.legs.proofs.Tests.{choice-numbers}
use Rattle.legs.proofs.leg_list.LegList.true_choice.Goals.{
  After-numbers_right,
  then-kept_right,
  else-kept_right,
  then-count-number,
  else-count-number,
  then-zero_from,
  else-zero_from,
}
use Rattle.legs.proofs.leg_list.LegList.true_choice.Goals as goal

-- What the quick tests have found, the last of them first.
past-list : (c : After-numbers_right)
    → (c.if-count-number.value ≡ true) × (zero_from c.args.self.points.n c.args.self.legs.now ≡ true)
past-list c =
    let t = c.if-zero_from-2.true in
    elim c.if-zero_from.branch [
      | then-zero_from w ↦ (w.if-zero_from.true, sym w.zero_from-then-zero_from.ensures ∙ sym w.value-is ∙ t)
      | else-zero_from w ↦ absurd (true≢false (sym t ∙ w.value-is ∙ w.if-zero_from.false))
    ]

past-kept : (c : After-numbers_right)
    → (c.if-kept_right.value ≡ true) × (zero_from c.args.count c.args.kept.now ≡ true)
past-kept c =
    let t = (past-list c).0 in
    elim c.if-count-number.branch [
      | then-count-number w ↦ (w.if-count-number.true, sym w.zero_from.ensures ∙ sym w.value-is ∙ t)
      | else-count-number w ↦ absurd (true≢false (sym t ∙ w.value-is ∙ w.if-count-number.false))
    ]

counted : (c : After-numbers_right)
    → let a = c.args in
    (kept_right (sight_in a.self) a.self.points.n a.kept.now a.count ≡ true)
    × (a.count ≡ suc (get_or a.self.legs.now 0 0))
counted c =
    let t = (past-kept c).0 in
    elim c.if-kept_right.branch [
      | then-kept_right w ↦ (
        sym c.kept_right.ensures ∙ w.if-kept_right.true,
        omega (arith, eqb-true _ _ (sym w.value-is ∙ t), w.number.ensures.0),
      )
      | else-kept_right w ↦ absurd (true≢false (sym t ∙ w.value-is ∙ w.if-kept_right.false))
    ]

pub returns-then-zero_from-2 : goal.returns-then-zero_from-2
returns-then-zero_from-2 c =
    c.numbers_right.ensures
    ∙ choice-numbers _ _ _ _ _ (counted c).0 (counted c).1 (past-kept c).1 (past-list c).1
