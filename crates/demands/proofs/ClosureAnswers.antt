-- Demand 1 of the closures.
--
--   post-answers, strike-answers, working-answers == demand 1 of post, of strike and of writing the working map
--   stored-post-answers, stored-strike-answers, stored-map-answers == demand 1 of post, of strike and of writing the
--                      working map, on a C caller's 64 numbers
use Prim.Native.Nat.{ℕ}
use mathlib.Core.Path.{◌≡◌, refl, ◌∙◌}
use mathlib.Core.Bool.{Bool, true, false, ◌&&◌, not}
use mathlib.Core.List.{List, [], ◌∷◌}
use lib.Dec.{ltb, eqb}
use lib.ListN.{length}
use Rattle.std.proofs.Common.{Some, None, Result, Ok, Err}
use Rattle.floor.specs.Refusals.{Shape, refusal_number, side, sides_shape, and_then, left_by, answer_number}
use Rattle.floor.specs.declared.Refusal.{Refusal}
use Rattle.floor.specs.declared.Refusal.TheVariants.{Size, SliceLength, ClosureBounds, SlotsFull, SlotEmpty}
use Rattle.closures.specs.Plain.{Plain, within, lowest_free, free_in, post_shape, strike_shape}
use Rattle.closures.specs.Plain.{work_shape, working_map, post_slot}
use Rattle.closures.specs.Table.{held, with_slot, Posts, Strikes, Writes as WritesMap}
use Rattle.closures.specs.declared.Rectangle.{Rectangle}
use Rattle.closures.specs.declared.Closures.{Closures}
use Rattle.stored_closures.specs.Stored.{stored_in, with_numbers, no_numbers, PostsIn, StrikesIn, WritesFrom}
use Rattle.demands.specs.Demands.{line, first_of}
use Rattle.demands.specs.Demands.{post_lines, strike_lines}
use Rattle.demands.specs.Demands.{work_lines, AnswersPost, AnswersStrike, AnswersWorkingMap, AnswersStoredPost}
use Rattle.demands.specs.Demands.{AnswersStoredStrike, AnswersStoredMap}
use Rattle.demands.proofs.Shapes.{tested, test-first, floor-first}
use Rattle.demands.proofs.Shapes.{left-zero}

-- The number of two tests in order, and of three, is that of the first line that applies.
two-tests : (x y : Bool) (p q : Refusal)
    → answer_number (and_then (tested x p) (tested y q))
    ≡ first_of (line (refusal_number p) (not x) ∷ line (refusal_number q) (not y) ∷ [])
two-tests true true p q = refl
two-tests true false p q = refl
two-tests false y p q = refl

three-tests : (x y z : Bool) (p q r : Refusal)
    → answer_number (and_then (tested x p) (and_then (tested y q) (tested z r)))
    ≡ first_of (line (refusal_number p) (not x) ∷ line (refusal_number q) (not y) ∷ line (refusal_number r) (not z) ∷ [])
three-tests true true true p q r = refl
three-tests true true false p q r = refl
three-tests true false z p q r = refl
three-tests false y z p q r = refl

-- ---- the closures

post-first : (w h : ℕ) (m : Plain) (r : Rectangle) → answer_number (post_shape w h m r) ≡ first_of (post_lines w h m r)
unfolding post_shape sides_shape
post-first w h m r =
    three-tests (side w && side h) (within w h r) (ltb (lowest_free m) 16) Size ClosureBounds SlotsFull

strike-first : (w h : ℕ) (m : Plain) (k : ℕ) → answer_number (strike_shape w h m k) ≡ first_of (strike_lines w h m k)
unfolding strike_shape sides_shape
strike-first w h m k = two-tests (side w && side h) (ltb k 16 && not (free_in m k)) Size SlotEmpty

work-first : (w h : ℕ) (base work : List ℕ)
    → answer_number (work_shape w h base (length work)) ≡ first_of (work_lines w h base work)
unfolding work_shape
work-first w h base work =
    let t = eqb (length work) (length base) in
    floor-first w h base (λ s. answer_number (and_then s (tested t SliceLength))) (λ r. refl)
    (line 6 (not t) ∷ []) (test-first answer_number (λ r. refl) t SliceLength)

posting-number : (s : Shape) (k : ℕ)
    → (answer_number (and_then s (Ok k)) ≡ answer_number s) × (post_slot (and_then s (Ok k)) ≡ left_by s k 0)
posting-number (Ok _) k = (refl, refl)
posting-number (Err r) k = (refl, refl)

pub post-answers : (t : Closures) (r : Rectangle) (p : Result ℕ Refusal) (t' : Closures) → Posts t r p t'
    → AnswersPost t r p t'
post-answers t r p t' P =
    let s = post_shape t.width t.height (held t) r in
    let k = lowest_free (held t) in
    let e = posting-number s k in
    rw (P.answers, P.leaves) (record {
      number = e.0 ∙ post-first t.width t.height (held t) r;
      slot = rw e.0 (e.1 ∙ left-zero s k 0);
      leaves = rw e.0 (left-zero s (with_slot t k (Some r)) t);
    })

pub strike-answers : (t : Closures) (k : ℕ) (p : Shape) (t' : Closures) → Strikes t k p t' → AnswersStrike t k p t'
strike-answers t k p t' P =
    let s = strike_shape t.width t.height (held t) k in
    rw (P.answers, P.leaves) (record {
      number = strike-first t.width t.height (held t) k;
      leaves = left-zero s (with_slot t k None) t;
    })

pub working-answers : (t : Closures) (base work : List ℕ) (p : Shape) (work' : List ℕ)
    → WritesMap t base work p work' → AnswersWorkingMap t base work p work'
working-answers t base work p work' P =
    let s = work_shape t.width t.height base (length work) in
    rw (P.answers, P.leaves) (record {
      number = work-first t.width t.height base work;
      leaves = left-zero s (working_map t.width t.height base (held t)) work;
    })

module _ (w h : ℕ) (l : List ℕ) where
  pub stored-post-answers : (r : Rectangle) (p : Result ℕ Refusal) (l' : List ℕ) → PostsIn w h l r p l'
      → AnswersStoredPost w h l r p l'
  stored-post-answers r p l' P =
      let s = post_shape w h (stored_in l) r in
      let k = lowest_free (stored_in l) in
      let e = posting-number s k in
      rw (P.answers, P.leaves) (record {
        number = e.0 ∙ post-first w h (stored_in l) r;
        slot = rw e.0 (e.1 ∙ left-zero s k 0);
        leaves = rw e.0 (left-zero s (with_numbers l k r) l);
      })

  pub stored-strike-answers : (k : ℕ) (p : Shape) (l' : List ℕ) → StrikesIn w h l k p l'
      → AnswersStoredStrike w h l k p l'
  stored-strike-answers k p l' P =
      let s = strike_shape w h (stored_in l) k in
      rw (P.answers, P.leaves) (record {
        number = strike-first w h (stored_in l) k;
        leaves = left-zero s (with_numbers l k no_numbers) l;
      })

  pub stored-map-answers : (base work : List ℕ) (p : Shape) (work' : List ℕ) → WritesFrom w h l base work p work'
      → AnswersStoredMap w h l base work p work'
  stored-map-answers base work p work' P =
      let s = work_shape w h base (length work) in
      rw (P.answers, P.leaves) (record {
        number = work-first w h base work;
        leaves = left-zero s (working_map w h base (stored_in l)) work;
      })
