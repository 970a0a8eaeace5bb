-- docs/RULES.md, 10.3 to 10.7: what the checker of a proposal and our own proposer answer and leave, for every input.
--
--   legs_shape ..         == refusals 1, 2, 3, then 6 for the list slice and two proposed slices of k and m places,
--                            then 10
--   kept_right s n l c    == the first c numbers of l are positions that start at 0, end at n - 1, rise, and see each
--                            the next
--   numbers_right s n l   == the first n numbers of l are the fewest legs from their positions
--   zero_from k l         == the slice l has 0 from place k on
--   true_choice s n kept c legs == what is accepted: the first c of `kept` are right and have as many legs as the number
--                          at position 0 says, the numbers `legs` are right, and the rest of both slices is 0
--   check_answer ..       == the checker's answer: the first refusal that applies, the last 19 for a choice that is not
--                            true
--   last_below n p        == the greatest k below n with p k; 0 where there is none
--   farthest_next s n i   == of the positions to which i has a leg, the farthest with the fewest legs left: these are
--                            one fewer than i has
--   proposed_from s n c i == the proposed positions from i on, at most c of them; the last is n - 1
--   proposed s n          == the proposed positions, from 0 on
--   propose_answer ..     == the proposer's answer: how many positions are kept, or the refusal
--   kept_left ..          == the proposer's first slice afterwards: the proposed positions, then 0; untouched at a
--                            refusal
--   legs_left ..          == the proposer's second slice afterwards: the fewest legs from each position, then 0;
--                            untouched at a refusal
--   Proposes ..           == the proposer's promise: `propose_answer`, `kept_left` and `legs_left`, for every input
use Rattle.std.specs.Prelude.{ℕ, zero, suc, pred, ◌≡◌, Bool, ◌&&◌, ◌||◌, List, [], ◌∷◌, leb, ltb, eqb, length, get_or, Result, Ok, Err}
use Rattle.basics.specs.Bounded.{pick, every}
use Rattle.basics.specs.Lists.{tabulate, padded}
use Rattle.floor.specs.Floor.{floor_of}
use Rattle.floor.specs.Refusals.{Shape, floor_shape, and_then, left_by}
use Rattle.floor.specs.declared.Refusal.{Refusal}
use Rattle.floor.specs.declared.Refusal.TheVariants.{SliceLength, NotJoined, FalseChoice}
use Rattle.thinning.specs.Thinning.{seen, joined_list}
use Rattle.thinning.specs.Answer.{shape_answer}
use Rattle.legs.specs.Choices.{is_leg, fewest_legs}

unfoldable pub legs_shape : ℕ → ℕ → List ℕ → List ℕ → ℕ → ℕ → ℕ → Shape
legs_shape w h map list k m n =
    and_then (floor_shape w h map)
    (and_then (pick (leb (length list) 16384 && (eqb k (length list) && eqb m (length list))) (Ok tt) (Err SliceLength))
    (pick (joined_list (floor_of w h map) list n) (Ok tt) (Err NotJoined)))

-- ---- the checker

unfoldable pub kept_right : (ℕ → ℕ → Bool) → ℕ → List ℕ → ℕ → Bool
kept_right s n l c =
    leb 1 c && (leb c (length l) && (eqb (get_or l 0 0) 0 && (eqb (suc (get_or l (pred c) 0)) n
    && every (pred c) (λ k. is_leg s n (get_or l k 0) (get_or l (suc k) 0)))))

unfoldable pub numbers_right : (ℕ → ℕ → Bool) → ℕ → List ℕ → Bool
numbers_right s n l = every n (λ i. eqb (get_or l i 0) (fewest_legs s n i))

unfoldable pub zero_from : ℕ → List ℕ → Bool
zero_from k l = every (length l) (λ i. ltb i k || eqb (get_or l i 0) 0)

unfoldable pub true_choice : (ℕ → ℕ → Bool) → ℕ → List ℕ → ℕ → List ℕ → Bool
true_choice s n kept c legs =
    kept_right s n kept c && (eqb c (suc (get_or legs 0 0)) && (zero_from c kept && (zero_from n legs
    && numbers_right s n legs)))

unfoldable pub check_answer : ℕ → ℕ → List ℕ → List ℕ → ℕ → List ℕ → ℕ → List ℕ → Shape
check_answer w h map list n kept c legs =
    and_then (legs_shape w h map list (length kept) (length legs) n)
    (pick (true_choice (seen (floor_of w h map) list) n kept c legs) (Ok tt) (Err FalseChoice))

-- ---- our own proposer

unfoldable pub last_below : ℕ → (ℕ → Bool) → ℕ
last_below zero p = 0
last_below (suc n) p = pick (p n) n (last_below n p)

unfoldable pub farthest_next : (ℕ → ℕ → Bool) → ℕ → ℕ → ℕ
farthest_next s n i = last_below n (λ j. is_leg s n i j && eqb (fewest_legs s n i) (suc (fewest_legs s n j)))

unfoldable pub proposed_from : (ℕ → ℕ → Bool) → ℕ → ℕ → ℕ → List ℕ
proposed_from s n zero i = []
proposed_from s n (suc c) i = i ∷ pick (ltb (suc i) n) (proposed_from s n c (farthest_next s n i)) []

unfoldable pub proposed : (ℕ → ℕ → Bool) → ℕ → List ℕ
proposed s n = proposed_from s n n 0

unfoldable pub propose_answer : ℕ → ℕ → List ℕ → List ℕ → List ℕ → List ℕ → ℕ → Result ℕ Refusal
propose_answer w h map list kept legs n =
    shape_answer (legs_shape w h map list (length kept) (length legs) n)
    (length (proposed (seen (floor_of w h map) list) n))

unfoldable pub kept_left : ℕ → ℕ → List ℕ → List ℕ → List ℕ → List ℕ → ℕ → List ℕ
kept_left w h map list kept legs n =
    left_by (legs_shape w h map list (length kept) (length legs) n)
    (padded (length kept) (proposed (seen (floor_of w h map) list) n)) kept

unfoldable pub legs_left : ℕ → ℕ → List ℕ → List ℕ → List ℕ → List ℕ → ℕ → List ℕ
legs_left w h map list kept legs n =
    left_by (legs_shape w h map list (length kept) (length legs) n)
    (padded (length legs) (tabulate n (fewest_legs (seen (floor_of w h map) list) n))) legs

pub record Proposes (w h : ℕ) (map list kept legs : List ℕ) (n : ℕ) (r : Result ℕ Refusal) (kept' legs' : List ℕ) : Type 0 where
  pub answer : r ≡ propose_answer w h map list kept legs n
  pub kept_after : kept' ≡ kept_left w h map list kept legs n
  pub legs_after : legs' ≡ legs_left w h map list kept legs n

-- Named on an `unfolding` line, this opens the definitions of choices above, for a theorem that is computed.
unfoldable pub answer-opened : ℕ
unfolding kept_right numbers_right zero_from true_choice last_below farthest_next proposed_from proposed
answer-opened = 0
