-- docs/RULES.md, 2.12: the answer of the sight question, which says what is in the way, with its number and its values.
--
--   sight_answer w h l a b == the answer for a floor of width w, height h and map l, and the vertex numbers a and b
--   sight_number s         == yes or no, as the firmware gets it: 0 for clear, 100 for an obstacle, else the number of
--                            the refusal
--   obstacle_number o      == what is in the way: 0 nothing, 101 a blocked cell that is entered, 102 a shut step, 103 a
--                            pinch
--   obstacle_place o       == the number of the cell, of the vertex where the step begins, or of the pinch; 0 where
--                            nothing is in the way
--   sight_case s           == `obstacle_number` of what is in the way; at a refusal its number
--   sight_place s          == `obstacle_place` of what is in the way; 0 at a refusal
use Rattle.std.specs.Prelude.{ℕ, List, Option, Some, None, Result, Ok, Err}
use Rattle.basics.specs.Bounded.{pick}
use Rattle.floor.specs.Floor.{floor_of}
use Rattle.floor.specs.Refusals.{refusal_number, floor_shape, end_shape, and_then}
use Rattle.floor.specs.declared.Refusal.{Refusal}
use Rattle.sight.specs.Sight.{segment}
use Rattle.sight.specs.Obstacle.{is_clear, obstacle}
use Rattle.sight.specs.declared.Obstacle.{Obstacle}
use Rattle.sight.specs.declared.Obstacle.TheVariants.{Cell, Step, Pinch}

-- The answer to the sight question: what is in the way, if anything is, or the refusal.
abbrev pub Sight : Type 0
Sight = Result (Option Obstacle) Refusal

unfoldable pub sight_answer : ℕ → ℕ → List ℕ → ℕ → ℕ → Sight
sight_answer w h l a b =
    and_then (and_then (floor_shape w h l) (and_then (end_shape w h a) (end_shape w h b)))
    (Ok (obstacle (floor_of w h l) (segment w a b)))

abbrev pub sight_number : Sight → ℕ
sight_number (Ok o) = pick (is_clear o) 0 100
sight_number (Err r) = refusal_number r

abbrev pub obstacle_number : Option Obstacle → ℕ
obstacle_number None = 0
obstacle_number (Some (Cell c)) = 101
obstacle_number (Some (Step v)) = 102
obstacle_number (Some (Pinch v)) = 103

abbrev pub obstacle_place : Option Obstacle → ℕ
obstacle_place None = 0
obstacle_place (Some (Cell c)) = c.0
obstacle_place (Some (Step v)) = v.0
obstacle_place (Some (Pinch v)) = v.0

abbrev pub sight_case : Sight → ℕ
sight_case (Ok o) = obstacle_number o
sight_case (Err r) = refusal_number r

abbrev pub sight_place : Sight → ℕ
sight_place (Ok o) = obstacle_place o
sight_place (Err r) = 0
