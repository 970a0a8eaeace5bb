-- The least number of legs left at a position to which one leg leads: how the code comes to it, and what it says of the
-- fewest legs.
--
--   leg-seen      == of two positions in order a leg is their sight
--   least-right, least-wrong == where all later numbers are right, that at i is right just where it is one more than
--                    the least, capped by it
--   least-fewest  == with a cap that no number meets, one more than the least is the fewest legs
use Prim.Native.Nat.{ℕ, suc, ◌+◌, ◌<◌, min}
use mathlib.Core.Path.{◌≡◌}
use mathlib.Core.Logic.{⊎_elim}
use mathlib.Core.Bool.{Bool, true}
use mathlib.Core.List.{List}
use native.Mathlib.Omega.{arith}
use borrow.Author.Tests.{lt-ltb}
use lib.ListN.{get_or}
use Rattle.legs.specs.Choices.{is_leg, fewest_legs}
use Rattle.legs.specs.Known.{RightFrom, Least}
use Rattle.legs.proofs.Fewest.{fewest-short, fewest-leg, fewest-witness}

pub leg-seen : (s : ℕ → ℕ → Bool) (n i j : ℕ) → i < j → j < n → is_leg s n i j ≡ s i j
unfolding is_leg
leg-seen s n i j a b = rw (lt-ltb i j a, lt-ltb j n b)

module _ (s : ℕ → ℕ → Bool) (n : ℕ) (l : List ℕ) (i : ℕ) where
  module _ (steady : (k : ℕ) → suc k < n → s k (suc k) ≡ true) (a : suc i < n) (right : RightFrom s n l (suc i)) where
    -- The least is the cap, or one less than the fewest legs, whichever is the lesser.
    ahead-fewest : (cap m : ℕ) → Least s n l i (suc i) n cap m → suc m ≡ min (suc cap) (fewest_legs s n i)
    ahead-fewest cap m h =
        let w = fewest-witness s n steady i a in
        let b = h.below w.0 w.1 w.1.later w.1.within in
        let e = right w.0 w.1.later w.1.within in
        ⊎_elim (λ (c : m ≡ cap). omega (arith, w.2))
        (λ f.
        let g = fewest-leg s n steady i f.0 f.1 in
        let q = right f.0 f.1.later f.1.within in
        omega (arith, w.2, f.2, h.capped)) h.found

    pub least-right : (m : ℕ) → Least s n l i (suc i) n (get_or l i 0) m → m + 1 ≡ get_or l i 0
        → get_or l i 0 ≡ fewest_legs s n i
    least-right m h e = omega (arith, ahead-fewest (get_or l i 0) m h)

    pub least-wrong : (m : ℕ) → Least s n l i (suc i) n (get_or l i 0) m → (m + 1 ≡ get_or l i 0 → ⊥)
        → (get_or l i 0 ≡ fewest_legs s n i → ⊥)
    least-wrong m h ne e = ne (omega (arith, ahead-fewest (get_or l i 0) m h))

    pub least-fewest : (m : ℕ) → Least s n l i (suc i) n n m → m + 1 ≡ fewest_legs s n i
    least-fewest m h = omega (arith, ahead-fewest n m h, fewest-short s n steady i (omega arith))
