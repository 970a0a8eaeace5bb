-- After any calls from empty the table stands for the plain map from slot to rectangle that the same calls leave, and
-- the answers are the same (rule 11.5).
--
--   held-empty         == held (empty_table w h) = nothing_held
--   held-left          == held (table_left t c) = plain_left w h (held t) c, where t has the sides w and h
--   after-any-calls    == after any calls from empty the table left stands for the plain map left
--   answers-any-calls  == any calls from empty answer what they answer by the plain map
--   writes-any-calls   == after any calls from empty, writing the working map answers and leaves what it does by the
--                         plain map
use Prim.Native.Nat.{ℕ, ◌≤◌, ◌<◌}
use mathlib.Core.Path.{◌≡◌, refl, ap₂, ◌∙◌}
use mathlib.Core.Logic.{⊎_elim}
use mathlib.Core.List.{List, [], ◌∷◌}
use borrow.Author.Tests.{eq-eqb, ne_eqb}
use lib.ListN.{length, replicate, length-set, length-replicate, get_or-replicate, get_or-eq_default}
use lib.Seq.{get_or-set_same, get_or-set_other}
use Rattle.basics.proofs.Order.{le-or-lt, eq-or-ne}
use Rattle.floor.specs.Refusals.{Shape}
use Rattle.std.proofs.Common.{Ok, Err, Some, None, Option}
use Rattle.floor.specs.Refusals.{left_by}
use Rattle.closures.specs.Plain.{
  Plain,
  nothing_held,
  changed,
  lowest_free,
  post_shape,
  strike_shape,
  work_shape,
  work_left,
}
use Rattle.closures.specs.Table.{held, with_slot, empty_table, Writes}
use Rattle.closures.specs.Calls.{
  Call,
  post,
  strike,
  table_left,
  table_after,
  table_answers,
  plain_left,
  plain_after,
  plain_answer,
  plain_answers,
}
use Rattle.closures.proofs.Shapes.{good-post, good-strike}
use Rattle.closures.specs.declared.Rectangle.{Rectangle}
use Rattle.closures.specs.declared.Closures.{Closures}

abbrev free_slot : Option Rectangle
free_slot = None

-- A table for a floor of width w and height h, with sixteen slots.
pub record Sided (w h : ℕ) (t : Closures) : Type 0 where
  pub wide : t.width ≡ w
  pub high : t.height ≡ h
  pub sixteen : length t.slots ≡ 16

pub empty-sided : (w h : ℕ) → Sided w h (empty_table w h)
empty-sided w h = record { wide = refl; high = refl; sixteen = length-replicate 16 free_slot }

pub with-sided : {w h : ℕ} {t : Closures} (k : ℕ) (s : Option Rectangle) → Sided w h t → Sided w h (with_slot t k s)
with-sided {w} {h} {t} k s g =
    record { wide = g.wide; high = g.high; sixteen = length-set t.slots k s ∙ g.sixteen }

left-sided : {w h : ℕ} {t : Closures} (x : Shape) (k : ℕ) (s : Option Rectangle) → Sided w h t
    → Sided w h (left_by x (with_slot t k s) t)
left-sided (Ok u) k s g = with-sided k s g
left-sided (Err r) k s g = g

pub call-sided : {w h : ℕ} {t : Closures} (c : Call) → Sided w h t → Sided w h (table_left t c)
call-sided {t = t} (post r) g =
    left-sided (post_shape t.width t.height (held t) r) (lowest_free (held t)) (Some r) g
call-sided {t = t} (strike k) g = left-sided (strike_shape t.width t.height (held t) k) k None g

pub held-empty : (w h : ℕ) → held (empty_table w h) ≡ nothing_held
held-empty w h = λ i k. at k i
  where
    at : (k : ℕ) → held (empty_table w h) k ≡ None
    at k =
        ⊎_elim
        (λ (l : 16 ≤ k). get_or-eq_default (replicate 16 free_slot) free_slot {n = k} l)
        (λ (l : k < 16). get_or-replicate 16 k free_slot free_slot l)
        (le-or-lt 16 k)

pub held_with : (t : Closures) (k : ℕ) (s : Option Rectangle) → k < length t.slots
    → held (with_slot t k s) ≡ changed (held t) k s
held_with t k s l = λ i j. at j i
  where
    at : (j : ℕ) → held (with_slot t k s) j ≡ changed (held t) k s j
    at j =
        ⊎_elim
        (λ (e : j ≡ k). rw (eq-eqb j k e, e) (get_or-set_same t.slots k s None l))
        (λ (n : j ≡ k → ⊥). rw (ne_eqb j k n) (get_or-set_other t.slots k j s None n))
        (eq-or-ne j k)

-- A good shape changes the table and the plain map alike, and a refusal leaves both.
held_by : (t : Closures) (x : Shape) (k : ℕ) (s : Option Rectangle) → (x ≡ Ok tt → k < length t.slots)
    → held (left_by x (with_slot t k s) t) ≡ left_by x (changed (held t) k s) (held t)
held_by t (Ok u) k s l = held_with t k s (l refl)
held_by t (Err r) k s l = refl

pub held-left : (t : Closures) (c : Call) → length t.slots ≡ 16
    → held (table_left t c) ≡ plain_left t.width t.height (held t) c
held-left t (post r) e =
    held_by t (post_shape t.width t.height (held t) r) (lowest_free (held t)) (Some r)
    (λ g. rw e (good-post t.width t.height (held t) r g))
held-left t (strike k) e =
    held_by t (strike_shape t.width t.height (held t) k) k None
    (λ g. rw e (good-strike t.width t.height (held t) k g))

module _ (w h : ℕ) where
  -- One call on a table that stands for m.
  step : (t : Closures) (m : Plain) (c : Call) → Sided w h t → held t ≡ m → held (table_left t c) ≡ plain_left w h m c
  step t m c g e = held-left t c g.sixteen ∙ (λ i. plain_left (g.wide i) (g.high i) (e i) c)

  after : (t : Closures) (m : Plain) (cs : List Call) → Sided w h t → held t ≡ m
      → held (table_after t cs) ≡ plain_after w h m cs
  unfolding table_after plain_after
  after t m [] g e = e
  after t m (c ∷ cs) g e = after (table_left t c) (plain_left w h m c) cs (call-sided c g) (step t m c g e)

  answers : (t : Closures) (m : Plain) (cs : List Call) → Sided w h t → held t ≡ m
      → table_answers t cs ≡ plain_answers w h m cs
  unfolding table_answers plain_answers
  answers t m [] g e = refl
  answers t m (c ∷ cs) g e =
      ap₂ ◌∷◌ (λ i. plain_answer (g.wide i) (g.high i) (e i) c)
      (answers (table_left t c) (plain_left w h m c) cs (call-sided c g) (step t m c g e))

  pub after-any-calls : (cs : List Call) → held (table_after (empty_table w h) cs) ≡ plain_after w h nothing_held cs
  after-any-calls cs = after (empty_table w h) nothing_held cs (empty-sided w h) (held-empty w h)

  pub answers-any-calls : (cs : List Call) → table_answers (empty_table w h) cs ≡ plain_answers w h nothing_held cs
  answers-any-calls cs = answers (empty_table w h) nothing_held cs (empty-sided w h) (held-empty w h)

  after-sided : (t : Closures) (cs : List Call) → Sided w h t → Sided w h (table_after t cs)
  unfolding table_after
  after-sided t [] g = g
  after-sided t (c ∷ cs) g = after-sided (table_left t c) cs (call-sided c g)

  pub writes-any-calls : (cs : List Call) {base work left : List ℕ} {answer : Shape}
      → Writes (table_after (empty_table w h) cs) base work answer left
      → (answer ≡ work_shape w h base (length work))
      × (left ≡ work_left w h base (plain_after w h nothing_held cs) work)
  writes-any-calls cs {base} {work} x =
      let g = after-sided (empty_table w h) cs (empty-sided w h) in (
        x.answers ∙ (λ i. work_shape (g.wide i) (g.high i) base (length work)),
        x.leaves ∙ (λ i. work_left (g.wide i) (g.high i) base (after-any-calls cs i) work),
      )
