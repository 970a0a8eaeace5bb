-- `legs::numbers::least_of_eight` meets its contract: the least is at most each of the eight numbers. Assumes nothing.
-- The search proves it too. It is written out so that a body that leaves a number out is refused by that number's fact.
use Rattle.std.proofs.Common.{ℕ, ◌≡◌, ◌+◌, ◌-◌, ◌≤◌, ◌<◌, ◌∙◌, List, get_or, take, drop, arith, get_or-take, get_or-drop, below_none, below_more}
use Rattle.legs.specs.Known.{AtMost}
use Rattle.legs.proofs.numbers.least_of_eight.Goals as goal

-- What is at most each of the eight numbers cut out is so for the positions that they were cut from.
at-most-eight : (l : List ℕ) (k m : ℕ) → ((i : ℕ) → i < 8 → m ≤ get_or (take (k + 8 - k) (drop k l)) i 0)
    → AtMost l k (k + 8) m
at-most-eight l k m h = record {
  each = λ j a b.
      let i = j - k in
      let e = get_or-take (k + 8 - k) (drop k l) i 0 (omega arith) ∙ get_or-drop k l i 0 in
      let q : k + i ≡ j = omega arith in
      rw q at (rw e at (h i (omega arith)));
}

pub returns : goal.returns
returns c =
    at-most-eight _ _ _
    (below_more _ _
    (below_more _ _
    (below_more _ _
    (below_more _ _
    (below_more _ _
    (below_more _ _
    (below_more _ _
    (below_more _ _ (below_none _) (omega arith))
    (omega arith))
    (omega arith))
    (omega arith))
    (omega arith))
    (omega arith))
    (omega arith))
    (omega arith))
