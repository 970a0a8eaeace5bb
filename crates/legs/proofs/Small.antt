-- A list of six positions, computed. Beside the next position, 0 sees 3 and 4, and 3 sees 5.
--
--   small             == which positions see each other
--   small-numbers     == the fewest legs: position 1 has more than position 0
--   small-proposed    == the proposal takes 4, the farther of the two positions with one leg left
--   small-accepted    == both choices of two legs are accepted, the other one too
--   small-refused     == not accepted are a choice of three legs, with the true number at position 0 or with its own, a
--                        kept position past the count, and a number past the list
use Prim.Native.Nat.{ℕ, suc}
use mathlib.Core.Path.{◌≡◌, refl}
use mathlib.Core.Bool.{Bool, true, false, ◌&&◌, ◌||◌}
use mathlib.Core.List.{List, [], ◌∷◌}
use lib.Dec.{eqb}
use Rattle.basics.specs.Bounded.{bounded-opened}
use Rattle.basics.specs.Lists.{tabulate, lists-opened}
use Rattle.legs.specs.Choices.{fewest_legs, choices-opened}
use Rattle.legs.specs.Answer.{true_choice, proposed, answer-opened}

abbrev small : ℕ → ℕ → Bool
small i j = eqb j (suc i) || (eqb i 0 && (eqb j 3 || eqb j 4) || eqb i 3 && eqb j 5)

pub small-numbers : tabulate 6 (fewest_legs small 6) ≡ 2 ∷ 3 ∷ 2 ∷ 1 ∷ 1 ∷ 0 ∷ []
unfolding bounded-opened lists-opened choices-opened
small-numbers = refl

pub small-proposed : proposed small 6 ≡ 0 ∷ 4 ∷ 5 ∷ []
unfolding bounded-opened choices-opened answer-opened
small-proposed = refl

-- A proposal in slices of seven places.
abbrev taken : List ℕ → ℕ → List ℕ → Bool
taken kept c legs = true_choice small 6 kept c legs

pub small-accepted :
    (taken (0 ∷ 4 ∷ 5 ∷ 0 ∷ 0 ∷ 0 ∷ 0 ∷ []) 3 (2 ∷ 3 ∷ 2 ∷ 1 ∷ 1 ∷ 0 ∷ 0 ∷ []) ≡ true)
    × (taken (0 ∷ 3 ∷ 5 ∷ 0 ∷ 0 ∷ 0 ∷ 0 ∷ []) 3 (2 ∷ 3 ∷ 2 ∷ 1 ∷ 1 ∷ 0 ∷ 0 ∷ []) ≡ true)
unfolding bounded-opened choices-opened answer-opened
small-accepted = (refl, refl)

pub small-refused :
    (taken (0 ∷ 3 ∷ 4 ∷ 5 ∷ 0 ∷ 0 ∷ 0 ∷ []) 4 (2 ∷ 3 ∷ 2 ∷ 1 ∷ 1 ∷ 0 ∷ 0 ∷ []) ≡ false)
    × (taken (0 ∷ 3 ∷ 4 ∷ 5 ∷ 0 ∷ 0 ∷ 0 ∷ []) 4 (3 ∷ 3 ∷ 2 ∷ 1 ∷ 1 ∷ 0 ∷ 0 ∷ []) ≡ false)
    × (taken (0 ∷ 4 ∷ 5 ∷ 0 ∷ 0 ∷ 0 ∷ 1 ∷ []) 3 (2 ∷ 3 ∷ 2 ∷ 1 ∷ 1 ∷ 0 ∷ 0 ∷ []) ≡ false)
    × (taken (0 ∷ 4 ∷ 5 ∷ 0 ∷ 0 ∷ 0 ∷ 0 ∷ []) 3 (2 ∷ 3 ∷ 2 ∷ 1 ∷ 1 ∷ 0 ∷ 1 ∷ []) ≡ false)
unfolding bounded-opened choices-opened answer-opened
small-refused = (refl, refl, refl, refl)
