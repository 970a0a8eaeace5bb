-- docs/RULES.md, 9.1 to 9.3, and 6.4: what the operation answers and what it leaves, for every input.
--
--   list_shape ..          == the first refusal of 1, 2, 3, of 6 for the list and an output slice of k places, and of
--                             10; else good
--   shape_answer s k       == the answer for the shape s: k positions are kept, or its refusal
--   thin_answer ..         == the answer: the number of positions that are kept, or the refusal
--   thin_output ..         == the output slice afterwards: the kept positions, then 0; unchanged at a refusal
--   Thins .. r left        == r is the answer, and `left` is the output slice afterwards
--   thin_number, thin_kept == the number of an answer (rule 6.1), and the number of positions that are kept
use Rattle.std.specs.Prelude.{ℕ, ◌≡◌, ◌&&◌, List, leb, eqb, length, Result, Ok, Err}
use Rattle.basics.specs.Bounded.{pick}
use Rattle.basics.specs.Lists.{padded}
use Rattle.floor.specs.Floor.{floor_of}
use Rattle.floor.specs.Refusals.{Shape, answer_number, floor_shape, and_then, left_by}
use Rattle.floor.specs.declared.Refusal.{Refusal}
use Rattle.floor.specs.declared.Refusal.TheVariants.{SliceLength, NotJoined}
use Rattle.thinning.specs.Thinning.{kept_positions, joined_list}

unfoldable pub list_shape : ℕ → ℕ → List ℕ → List ℕ → ℕ → ℕ → Shape
list_shape w h map list k n =
    and_then (floor_shape w h map)
    (and_then (pick (leb (length list) 16384 && eqb k (length list)) (Ok tt) (Err SliceLength))
    (pick (joined_list (floor_of w h map) list n) (Ok tt) (Err NotJoined)))

abbrev pub shape_answer : Shape → ℕ → Result ℕ Refusal
shape_answer s k = and_then s (Ok k)

unfoldable pub thin_answer : ℕ → ℕ → List ℕ → List ℕ → List ℕ → ℕ → Result ℕ Refusal
thin_answer w h map list out n =
    shape_answer (list_shape w h map list (length out) n) (length (kept_positions (floor_of w h map) list n))

unfoldable pub thin_output : ℕ → ℕ → List ℕ → List ℕ → List ℕ → ℕ → List ℕ
thin_output w h map list out n =
    left_by (list_shape w h map list (length out) n) (padded (length out) (kept_positions (floor_of w h map) list n)) out

pub record Thins (w h : ℕ) (map list out : List ℕ) (n : ℕ) (r : Result ℕ Refusal) (left : List ℕ) : Type 0 where
  pub answer : r ≡ thin_answer w h map list out n
  pub output : left ≡ thin_output w h map list out n

abbrev pub thin_number : Result ℕ Refusal → ℕ
thin_number r = answer_number r

abbrev pub thin_kept : Result ℕ Refusal → ℕ
thin_kept (Ok k) = k
thin_kept (Err r) = 0
