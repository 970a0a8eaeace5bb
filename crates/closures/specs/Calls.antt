-- Any calls from the empty table: what they leave and answer, by the operations' contracts and by the plain map. The
-- two are the same by the laws of proofs/Simulation.antt.
--
--   Call                       == a call of post or of strike
--   Answer                     == what a call of post or of strike answers
--   table_left, plain_left     == what one call leaves, of the table and of the plain map
--   table_answer, plain_answer == what one call answers, by the contracts and by the plain map
--   table_after t cs           == the table t after the calls cs, by what the contracts say that each leaves
--   table_answers t cs         == what the calls cs answer, by the contracts
--   plain_after w h m cs       == the plain map m after the calls cs, for a floor of width w and height h
--   plain_answers w h m cs     == what the calls cs answer by the plain map m, for a floor of width w and height h
use Rattle.std.specs.Prelude.{ℕ, List, [], ◌∷◌, Result}
use Rattle.floor.specs.Refusals.{Shape}
use Rattle.floor.specs.declared.Refusal.{Refusal}
use Rattle.closures.specs.Plain.{Plain, post_answer, post_map, strike_shape, strike_map}
use Rattle.closures.specs.Table.{held, post_left, strike_left}
use Rattle.closures.specs.declared.Rectangle.{Rectangle}
use Rattle.closures.specs.declared.Closures.{Closures}

pub data Call : Type 0 where
  post : Rectangle → Call
  strike : ℕ → Call

pub data Answer : Type 0 where
  of_post : Result ℕ Refusal → Answer
  of_strike : Shape → Answer

abbrev pub table_left : Closures → Call → Closures
table_left t (post r) = post_left t r
table_left t (strike k) = strike_left t k

abbrev pub plain_left : ℕ → ℕ → Plain → Call → Plain
plain_left w h m (post r) = post_map w h m r
plain_left w h m (strike k) = strike_map w h m k

abbrev pub plain_answer : ℕ → ℕ → Plain → Call → Answer
plain_answer w h m (post r) = of_post (post_answer w h m r)
plain_answer w h m (strike k) = of_strike (strike_shape w h m k)

-- By the contracts an answer depends on the table's sides and on what it holds.
abbrev pub table_answer : Closures → Call → Answer
table_answer t c = plain_answer t.width t.height (held t) c

unfoldable pub table_after : Closures → List Call → Closures
table_after t [] = t
table_after t (c ∷ cs) = table_after (table_left t c) cs

unfoldable pub table_answers : Closures → List Call → List Answer
table_answers t [] = []
table_answers t (c ∷ cs) = table_answer t c ∷ table_answers (table_left t c) cs

unfoldable pub plain_after : ℕ → ℕ → Plain → List Call → Plain
plain_after w h m [] = m
plain_after w h m (c ∷ cs) = plain_after w h (plain_left w h m c) cs

unfoldable pub plain_answers : ℕ → ℕ → Plain → List Call → List Answer
plain_answers w h m [] = []
plain_answers w h m (c ∷ cs) = plain_answer w h m c ∷ plain_answers w h (plain_left w h m c) cs
