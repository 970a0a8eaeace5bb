-- docs/RULES.md, 2.8 and 2.9, worked by hand: the answers of the sight question on a few small floors, asked both ways.
--
--   Question     == a floor's width, height and map, two vertices, and the answer
--   questions    == floor i with two blocked cells that the segment enters, in two columns and in one, and with a
--                   blocked cell that it does not enter; floor f along its upper border; floor g along its diagonals,
--                   of which one has a pinch, and along its left border; a floor with a blocked cell behind a pinch
--   SightsHold   == the statement: each answer is the one given
use Rattle.std.specs.Prelude.{ℕ, ◌≡◌, List, [], ◌∷◌, Some, None, Ok, Err}
use Rattle.floor.specs.Floor.{stored_cells}
use Rattle.floor.specs.declared.Refusal.TheVariants.{End}
use Rattle.sight.specs.Question.{Sight, sight_answer}
use Rattle.sight.specs.declared.Obstacle.TheVariants.{Cell, Step, Pinch}

pub record Question : Type 0 where
  pub wide : ℕ
  pub high : ℕ
  pub map : List ℕ
  pub first : ℕ
  pub last : ℕ
  pub answer : Sight

-- A question from the cells of its floor, a byte to a cell, its two vertices and its answer.
abbrev pub asked : ℕ → ℕ → List ℕ → ℕ → ℕ → Sight → Question
asked w h l a b s = record { wide = w; high = h; map = stored_cells l; first = a; last = b; answer = s }

abbrev pub clear : Sight
clear = Ok None

abbrev pub cell : ℕ → Sight
cell n = Ok (Some (Cell (record { 0 = n })))

abbrev pub step : ℕ → Sight
step n = Ok (Some (Step (record { 0 = n })))

abbrev pub pinched : ℕ → Sight
pinched n = Ok (Some (Pinch (record { 0 = n })))

-- On floor i, the segment from (0, 0), vertex 0, to (3, 2), vertex 11, enters cells (0, 0), (1, 0), (1, 1) and (2, 1),
-- whose numbers are 0, 1, 4 and 5. On the last floor, the segment from (0, 3), vertex 12, to (3, 0), vertex 3, passes
-- the pinch (1, 2), vertex 9, before it enters the blocked cell (2, 0), number 2; the cell is named.
abbrev pub questions : List Question
questions =
    asked 3 2 (0 ∷ 1 ∷ 0 ∷ 0 ∷ 0 ∷ 1 ∷ []) 0 11 (cell 1)
    ∷ asked 3 2 (0 ∷ 1 ∷ 0 ∷ 0 ∷ 0 ∷ 1 ∷ []) 11 0 (cell 5)
    ∷ asked 3 2 (0 ∷ 1 ∷ 0 ∷ 0 ∷ 1 ∷ 0 ∷ []) 0 11 (cell 1)
    ∷ asked 3 2 (0 ∷ 1 ∷ 0 ∷ 0 ∷ 1 ∷ 0 ∷ []) 11 0 (cell 4)
    ∷ asked 3 2 (0 ∷ 0 ∷ 1 ∷ 0 ∷ 0 ∷ 0 ∷ []) 0 11 clear
    ∷ asked 3 2 (0 ∷ 0 ∷ 1 ∷ 0 ∷ 0 ∷ 0 ∷ []) 11 0 clear
    ∷ asked 2 1 (0 ∷ 1 ∷ []) 0 2 (step 1)
    ∷ asked 2 1 (0 ∷ 1 ∷ []) 2 0 (step 2)
    ∷ asked 2 1 (0 ∷ 1 ∷ []) 0 6 (Err End)
    ∷ asked 2 2 (1 ∷ 0 ∷ 0 ∷ 1 ∷ []) 0 8 (cell 0)
    ∷ asked 2 2 (1 ∷ 0 ∷ 0 ∷ 1 ∷ []) 8 0 (cell 3)
    ∷ asked 2 2 (1 ∷ 0 ∷ 0 ∷ 1 ∷ []) 2 6 (pinched 4)
    ∷ asked 2 2 (1 ∷ 0 ∷ 0 ∷ 1 ∷ []) 6 2 (pinched 4)
    ∷ asked 2 2 (1 ∷ 0 ∷ 0 ∷ 1 ∷ []) 0 6 (step 0)
    ∷ asked 2 2 (1 ∷ 0 ∷ 0 ∷ 1 ∷ []) 6 0 (step 3)
    ∷ asked 3 3 (0 ∷ 0 ∷ 1 ∷ 1 ∷ 0 ∷ 0 ∷ 0 ∷ 1 ∷ 0 ∷ []) 12 3 (cell 2)
    ∷ []

abbrev pub Holds : List Question → Type 0
Holds [] = Unit {0}
Holds (q ∷ l) = (sight_answer q.wide q.high q.map q.first q.last ≡ q.answer) × Holds l

abbrev pub SightsHold : Type 0
SightsHold = Holds questions
