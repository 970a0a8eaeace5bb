-- Any calls on the 64 numbers: what they leave and answer, by the operations' contracts. proofs/Simulation.antt proves
-- that it is what the plain map leaves and answers after the same calls.
--
--   none_stored             == 64 zeros, the empty table
--   stored_left w h l c     == the numbers after the call c on the numbers l, for a floor of width w and height h
--   stored_after w h l cs   == the numbers after the calls cs on the numbers l, one after the other
--   stored_answers w h l cs == the answers of the calls cs on the numbers l
use Rattle.std.specs.Prelude.{ℕ, List, [], ◌∷◌}
use Rattle.basics.specs.Lists.{zeros}
use Rattle.closures.specs.Calls.{Call, post, strike, Answer, plain_answer}
use Rattle.stored_closures.specs.Stored.{stored_in, post_stored, strike_stored}

abbrev pub none_stored : List ℕ
none_stored = zeros 64

abbrev pub stored_left : ℕ → ℕ → List ℕ → Call → List ℕ
stored_left w h l (post r) = post_stored w h l r
stored_left w h l (strike k) = strike_stored w h l k

unfoldable pub stored_after : ℕ → ℕ → List ℕ → List Call → List ℕ
stored_after w h l [] = l
stored_after w h l (c ∷ cs) = stored_after w h (stored_left w h l c) cs

unfoldable pub stored_answers : ℕ → ℕ → List ℕ → List Call → List Answer
stored_answers w h l [] = []
stored_answers w h l (c ∷ cs) = plain_answer w h (stored_in l) c ∷ stored_answers w h (stored_left w h l c) cs
