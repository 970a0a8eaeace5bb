-- The sight question: its refusals in their order, what holds where none applies, and the answer in each case.
--
--   Asked w h l a b         == the floor has a good shape, and a and b are vertices of it
--   question w h l a b      == the refusals of the sight question
--   answer-..               == `sight_answer` in each case
--   number-..               == `sight_number` in each case: the number of a refusal, 0 where the ends see each other,
--                              else 100
use Prim.Native.Nat.{ℕ, ◌<◌}
use mathlib.Core.Path.{◌≡◌, sym, ap, ◌∙◌}
use mathlib.Core.List.{List}
use Rattle.std.specs.Prelude.{Ok, Err}
use Rattle.basics.specs.Bounded.{pick}
use Rattle.floor.specs.Floor.{floor_of, vertices}
use Rattle.floor.specs.Known.{Sized}
use Rattle.floor.specs.Refusals.{Shape, refusal_number, floor_shape, end_shape, and_then}
use Rattle.floor.specs.declared.Refusal.{Refusal}
use Rattle.floor.proofs.Shapes.{good-first, good-second, good-floor, good-end}
use Rattle.sight.specs.Sight.{segment, sees}
use Rattle.sight.specs.Obstacle.{obstacle}
use Rattle.sight.specs.Question.{Sight, sight_answer, sight_number}
use Rattle.sight.proofs.Passed.{obstacle-sees-segment}

pub record Asked (w h : ℕ) (l : List ℕ) (a b : ℕ) : Type 0 where
  pub sized : Sized w h l
  pub first : a < vertices w h
  pub last : b < vertices w h

module _ (w h : ℕ) (l : List ℕ) (a b : ℕ) where
  abbrev pub question : Shape
  question = and_then (floor_shape w h l) (and_then (end_shape w h a) (end_shape w h b))

  abbrev answer : Sight
  answer = Ok (obstacle (floor_of w h l) (segment w a b))

  pub asked : question ≡ Ok tt → Asked w h l a b
  asked e =
      let ends : and_then (end_shape w h a) (end_shape w h b) ≡ Ok tt
      = good-second (floor_shape w h l) (and_then (end_shape w h a) (end_shape w h b)) e in
      record {
        sized = (good-floor w h l (good-first (floor_shape w h l) (and_then (end_shape w h a) (end_shape w h b)) e)).sized;
        first = good-end w h a (good-first (end_shape w h a) (end_shape w h b) ends);
        last = good-end w h b (good-second (end_shape w h a) (end_shape w h b) ends);
      }

  pub answer-refused : {r : Refusal} → question ≡ Err r → Err r ≡ sight_answer w h l a b
  unfolding sight_answer
  answer-refused e = sym (ap (λ s. and_then s answer) e)

  pub answer-good : question ≡ Ok tt → answer ≡ sight_answer w h l a b
  unfolding sight_answer
  answer-good e = sym (ap (λ s. and_then s answer) e)

  -- `sight_number`: the number of a refusal, 0 where the ends see each other, else 100.
  pub number-refused : {r : Refusal} → question ≡ Err r → sight_number (sight_answer w h l a b) ≡ refusal_number r
  number-refused e = ap sight_number (sym (answer-refused e))

  pub number-sees : question ≡ Ok tt
      → sight_number (sight_answer w h l a b) ≡ pick (sees (floor_of w h l) (segment w a b)) 0 100
  number-sees e =
      let q = asked e in
      ap sight_number (sym (answer-good e))
      ∙ ap (λ t. pick t 0 100) (obstacle-sees-segment (floor_of w h l) a b q.first q.last)
