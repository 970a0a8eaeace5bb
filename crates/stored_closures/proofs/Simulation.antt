-- After any calls from 64 zeros the numbers stand for the plain map that the same calls leave, and the answers are the
-- same.
--
--   stored-none        == 64 zeros stand for the empty map
--   stored-left        == stored_in (stored_left w h l c) is what the call c leaves of the plain map stored_in l
--   after-any-calls    == after any calls from 64 zeros, the numbers stand for the plain map after these calls
--   answers-any-calls  == the answers of any calls from 64 zeros are those of the plain map
--   writes-any-calls   == after any calls from 64 zeros, the working map is answered and left as by the plain map
use Prim.Native.Nat.{ℕ, ◌+◌, ◌*◌, ◌≤◌, ◌<◌}
use mathlib.Core.Path.{◌≡◌, refl, sym, ap, ap₂, ◌∙◌}
use mathlib.Core.Bool.{◌&&◌}
use mathlib.Core.Logic.{⊎_elim}
use mathlib.Core.List.{List, [], ◌∷◌}
use native.Mathlib.Omega.{arith}
use borrow.Author.Tests.{ne_eqb, leb-true}
use lib.Dec.{leb}
use lib.ListN.{length, length-replicate}
use Rattle.std.proofs.Common.{None, Some, Ok, Err}
use Rattle.basics.specs.Bounded.{pick}
use Rattle.basics.proofs.Order.{le-or-lt}
use Rattle.basics.proofs.Bools.{and_left}
use Rattle.basics.proofs.Lists.{get_or-zeros}
use Rattle.floor.specs.Refusals.{Shape, sides_shape}
use Rattle.floor.specs.declared.Refusal.TheVariants.{ClosureBounds}
use Rattle.floor.proofs.Shapes.{good-first, good-second, good-pick}
use Rattle.floor.specs.Refusals.{left_by}
use Rattle.closures.specs.Plain.{
  Plain,
  nothing_held,
  changed,
  lowest_free,
  within,
  post_shape,
  strike_shape,
  work_shape,
  work_left,
}
use Rattle.closures.specs.Calls.{Call, post, strike, plain_left, plain_after, plain_answer, plain_answers}
use Rattle.closures.specs.declared.Rectangle.{Rectangle}
use Rattle.closures.proofs.Shapes.{good-post, good-strike}
use Rattle.stored_closures.specs.Stored.{hold_of, stored_in, with_numbers, no_numbers, WritesFrom}
use Rattle.stored_closures.specs.Calls.{none_stored, stored_left, stored_after, stored_answers}
use Rattle.stored_closures.proofs.Numbers.{numbers-length, stored-with, stored_past, stored-free}

pub stored-none : stored_in none_stored ≡ nothing_held
stored-none = λ i k. at k i
  where
    at : (k : ℕ) → stored_in none_stored k ≡ None
    at k =
        ⊎_elim (λ p. sym (stored_past none_stored k p))
        (λ p. sym (stored-free none_stored k p (get_or-zeros 64 (4 * k + 2)))) (le-or-lt 16 k)

-- ---- one call

left-length : (x : Shape) (l : List ℕ) (k : ℕ) (r : Rectangle)
    → length (left_by x (with_numbers l k r) l) ≡ length l
left-length (Ok u) l k r = numbers-length l k r
left-length (Err x) l k r = refl

pub call_length : (w h : ℕ) (l : List ℕ) (c : Call) → length (stored_left w h l c) ≡ length l
call_length w h l (post r) = left-length (post_shape w h (stored_in l) r) l (lowest_free (stored_in l)) r
call_length w h l (strike k) = left-length (strike_shape w h (stored_in l) k) l k no_numbers

-- Numbers left by a shape stand for the map left by that shape.
stored-by : (l : List ℕ) (x : Shape) (k : ℕ) (r : Rectangle) → length l ≡ 64 → (x ≡ Ok tt → k < 16)
    → stored_in (left_by x (with_numbers l k r) l) ≡ left_by x (changed (stored_in l) k (hold_of r)) (stored_in l)
stored-by l (Ok u) k r e b = let p : k < 16 = b refl in stored-with l k r (omega arith) p
stored-by l (Err x) k r e b = refl

-- A rectangle that is posted has columns, so that its slot is held.
module _ (w h : ℕ) (m : Plain) (r : Rectangle) where
  posted-columns : post_shape w h m r ≡ Ok tt → 1 ≤ r.columns
  unfolding post_shape within
  posted-columns e =
      let bounds = good-first (pick (within w h r) (Ok tt) (Err ClosureBounds)) _ (good-second (sides_shape w h) _ e) in
      let sizes = and_left (leb 1 r.columns && leb 1 r.rows) _ (good-pick ClosureBounds (within w h r) bounds) in
      leb-true 1 r.columns (and_left (leb 1 r.columns) (leb 1 r.rows) sizes)

  columns-held : 1 ≤ r.columns → hold_of r ≡ Some r
  columns-held p = rw (ne_eqb r.columns 0 (λ e. omega arith))

  post_held : (k : ℕ) → left_by (post_shape w h m r) (changed m k (hold_of r)) m
      ≡ left_by (post_shape w h m r) (changed m k (Some r)) m
  post_held k = by (post_shape w h m r) (λ e. columns-held (posted-columns e))
    where
      by : (x : Shape) → (x ≡ Ok tt → hold_of r ≡ Some r)
          → left_by x (changed m k (hold_of r)) m ≡ left_by x (changed m k (Some r)) m
      by (Ok u) e = ap (changed m k) (e refl)
      by (Err y) e = refl

module _ (w h : ℕ) where
  pub stored-left : (l : List ℕ) (c : Call) → length l ≡ 64
      → stored_in (stored_left w h l c) ≡ plain_left w h (stored_in l) c
  stored-left l (post r) e =
      stored-by l (post_shape w h (stored_in l) r) (lowest_free (stored_in l)) r e (good-post w h (stored_in l) r)
      ∙ post_held w h (stored_in l) r (lowest_free (stored_in l))
  stored-left l (strike k) e =
      stored-by l (strike_shape w h (stored_in l) k) k no_numbers e (good-strike w h (stored_in l) k)

  -- ---- any calls

  -- One call on numbers that stand for m.
  step : (l : List ℕ) (m : Plain) (c : Call) → length l ≡ 64 → stored_in l ≡ m
      → stored_in (stored_left w h l c) ≡ plain_left w h m c
  step l m c n e = stored-left l c n ∙ ap (λ x. plain_left w h x c) e

  after : (l : List ℕ) (m : Plain) (cs : List Call) → length l ≡ 64 → stored_in l ≡ m
      → stored_in (stored_after w h l cs) ≡ plain_after w h m cs
  unfolding stored_after plain_after
  after l m [] n e = e
  after l m (c ∷ cs) n e =
      after (stored_left w h l c) (plain_left w h m c) cs (call_length w h l c ∙ n) (step l m c n e)

  answers : (l : List ℕ) (m : Plain) (cs : List Call) → length l ≡ 64 → stored_in l ≡ m
      → stored_answers w h l cs ≡ plain_answers w h m cs
  unfolding stored_answers plain_answers
  answers l m [] n e = refl
  answers l m (c ∷ cs) n e =
      ap₂ ◌∷◌ (ap (λ x. plain_answer w h x c) e)
      (answers (stored_left w h l c) (plain_left w h m c) cs (call_length w h l c ∙ n) (step l m c n e))

  pub after-any-calls : (cs : List Call) → stored_in (stored_after w h none_stored cs) ≡ plain_after w h nothing_held cs
  after-any-calls cs = after none_stored nothing_held cs (length-replicate {A = ℕ} 64 0) stored-none

  pub answers-any-calls : (cs : List Call) → stored_answers w h none_stored cs ≡ plain_answers w h nothing_held cs
  answers-any-calls cs = answers none_stored nothing_held cs (length-replicate {A = ℕ} 64 0) stored-none

  pub writes-any-calls : (cs : List Call) {base work left : List ℕ} {answer : Shape}
      → WritesFrom w h (stored_after w h none_stored cs) base work answer left
      → (answer ≡ work_shape w h base (length work))
      × (left ≡ work_left w h base (plain_after w h nothing_held cs) work)
  writes-any-calls cs {base} {work} x =
      (x.answers, x.leaves ∙ ap (λ m. work_left w h base m work) (after-any-calls cs))
