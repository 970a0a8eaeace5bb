-- Used by contracts between functions; nobody has to believe it: laws tie it to the definitions.
-- What the functions that write lines require, and what they leave.
--
--   Kept k ps vs                      == ps has at least k positions, and each of the first k is a place of vs
--   Written before at text after next == `after` is `before` with the text from `at` on, which fits there, and all else
--                                        unchanged; `next` is the place after the text
use Rattle.std.specs.Prelude.{ℕ, ◌+◌, ◌≤◌, ◌<◌, ◌≡◌, List, ◌++◌, length, get_or, take, drop}

pub record Kept (k : ℕ) (ps vs : List ℕ) : Type 0 where
  pub count : k ≤ length ps
  pub inside : (i : ℕ) → i < k → get_or ps i 0 < length vs

pub record Written (before : List ℕ) (at : ℕ) (text after : List ℕ) (next : ℕ) : Type 0 where
  pub room : at + length text ≤ length before
  pub holds : after ≡ take at before ++ text ++ drop (at + length text) before
  pub place : next ≡ at + length text
