-- The code's table, and the plain map that it stands for.
--
--   held t          == the plain map that table t stands for
--   with_slot t k s == table t with s in slot k
--   empty_table w h == the empty table for a floor of width w and height h
--   post_left t r   == table t once r is posted; the same table at a refusal
--   strike_left t k == table t once slot k is struck; the same table at a refusal
--   Posts .., Strikes .., Writes .. == the contracts of post, of strike and of the writing of the working map: the
--                        answer, and what is left, for every input
use Rattle.std.specs.Prelude.{ℕ, ◌≡◌, List, length, get_or, set, replicate, Option, None, Some, Result}
use Rattle.floor.specs.Refusals.{Shape, left_by}
use Rattle.floor.specs.declared.Refusal.{Refusal}
use Rattle.closures.specs.Plain.{Plain, lowest_free, post_shape, post_answer, strike_shape, work_shape, work_left}
use Rattle.closures.specs.declared.Rectangle.{Rectangle}
use Rattle.closures.specs.declared.Closures.{Closures}

abbrev pub held : Closures → Plain
held t k = get_or t.slots k None

abbrev pub with_slot : Closures → ℕ → Option Rectangle → Closures
with_slot t k s = record { width = t.width; height = t.height; slots = set t.slots k s }

abbrev pub empty_table : ℕ → ℕ → Closures
empty_table w h = record { width = w; height = h; slots = replicate 16 None }

abbrev pub post_left : Closures → Rectangle → Closures
post_left t r =
    left_by (post_shape t.width t.height (held t) r) (with_slot t (lowest_free (held t)) (Some r)) t

abbrev pub strike_left : Closures → ℕ → Closures
strike_left t k = left_by (strike_shape t.width t.height (held t) k) (with_slot t k None) t

pub record Posts (t : Closures) (r : Rectangle) (answer : Result ℕ Refusal) (left : Closures) : Type 0 where
  pub answers : answer ≡ post_answer t.width t.height (held t) r
  pub leaves : left ≡ post_left t r

pub record Strikes (t : Closures) (k : ℕ) (answer : Shape) (left : Closures) : Type 0 where
  pub answers : answer ≡ strike_shape t.width t.height (held t) k
  pub leaves : left ≡ strike_left t k

pub record Writes (t : Closures) (base work : List ℕ) (answer : Shape) (left : List ℕ) : Type 0 where
  pub answers : answer ≡ work_shape t.width t.height base (length work)
  pub leaves : left ≡ work_left t.width t.height base (held t) work
