-- The shapes that the operations' answers are made of, in terms of the lines of their tables. F gives a refusal its
-- number, and a good shape the number of the lines `rest`.
--
--   tested x r         == the shape of a test x that refuses with r where it fails
--   floor-first        == F of a floor's shape is the number of the first of `floor_lines` and then `rest` that applies
--   floor-cases        == what holds of the good shape and of refusals 1, 2 and 3 holds of a floor's shape
--   known-first        == F of a neighbourhood is the number of the first of line 4 and then `rest` that applies
--   job-first, job-cases == `floor-first` and `floor-cases` for a job's shape: refusals 1 to 5 and 11
--   refused-zero, shape-zero == no refusal has the number 0
--   good-number        == the number of an answer is that of its shape
--   answer-number, answer-kept == the thinning's answer by the shape
--   left-zero          == left_by s x y = at_zero (answer_number s) x y
use Prim.Native.Nat.{ℕ, ◌*◌}
use mathlib.Core.Path.{◌≡◌, refl, ap}
use mathlib.Core.Bool.{Bool, true, false, ◌&&◌, ◌||◌, not}
use mathlib.Core.List.{List, ◌∷◌, ◌++◌}
use borrow.Author.Tests.{eq-eqb}
use lib.Dec.{eqb}
use lib.ListN.{length}
use Rattle.std.proofs.Common.{Option, Some, None, Result, Ok, Err}
use Rattle.basics.specs.Bounded.{pick}
use Rattle.basics.proofs.Bools.{not-both}
use Rattle.floor.specs.Floor.{map_length}
use Rattle.floor.specs.Refusals.{
  refusal_number,
  side,
  sides_shape,
  unused_clear,
  floor_shape,
  end_shape,
  and_then,
  left_by,
  answer_number,
  good_if,
  Shape,
}
use Rattle.floor.specs.declared.Refusal.{Refusal}
use Rattle.floor.specs.declared.Refusal.TheVariants.{
  Size,
  MapLength,
  UnusedBit,
  Neighbourhood as BadNeighbourhood,
  End,
  SliceLength,
  NoRoute,
  TooMany,
  FalseSheet,
  NotJoined,
  Pinched,
  ClosureBounds,
  SlotsFull,
  SlotEmpty,
  SizesDiffer,
  LogLength,
  BadLogRecord,
  NoRoom,
  FalseChoice,
  OutOfTurn,
}
use Rattle.moves.specs.declared.Directions.{Directions}
use Rattle.moves.specs.Moves.{directions_of, neighbourhood_of}
use Rattle.thinning.specs.Answer.{shape_answer, thin_number, thin_kept}
use Rattle.grid.specs.Grid.{with_dirs, pinch_shape, ends_shape, job_shape}
use Rattle.demands.specs.Demands.{Line, line, first_of, at_zero, floor_lines, is_neighbourhood, is_vertex, is_pinch}
use Rattle.demands.specs.Demands.{job_lines, dirs_for}

-- The shape of one test, which refuses with r where it fails.
abbrev pub tested : Bool → Refusal → Shape
tested x r = pick x (Ok tt) (Err r)

-- ---- the shape of a floor

module _ (F : Shape → ℕ) (given : (r : Refusal) → F (Err r) ≡ refusal_number r) where
  -- The number of one test, which refuses with r where it fails.
  pub test-first : (x : Bool) (r : Refusal) → F (tested x r) ≡ pick (not x) (refusal_number r) (F (Ok tt))
  test-first true r = refl
  test-first false r = given r

-- The number of one test that comes before the shape t.
pub and_first : (F : Shape → ℕ) → ((r : Refusal) → F (Err r) ≡ refusal_number r) → (x : Bool) (r : Refusal)
    (t : Shape) → F (and_then (tested x r) t) ≡ pick (not x) (refusal_number r) (F t)
and_first F given true r t = refl
and_first F given false r t = given r

-- The number of two tests in order.
pub two-first : (F : Shape → ℕ) → ((r : Refusal) → F (Err r) ≡ refusal_number r) → (x y : Bool) (p q : Refusal)
    → F (and_then (tested x p) (tested y q))
    ≡ pick (not x) (refusal_number p) (pick (not y) (refusal_number q) (F (Ok tt)))
two-first F given true true p q = refl
two-first F given true false p q = given q
two-first F given false y p q = given p

pub two_cases : (P : Shape → Type 0) (x y : Bool) (p q : Refusal) → P (Err p) → P (Err q) → P (Ok tt)
    → P (and_then (tested x p) (tested y q))
two_cases P true true p q no-p no-q good = good
two_cases P true false p q no-p no-q good = no-q
two_cases P false y p q no-p no-q good = no-p

module _ (w h : ℕ) (map : List ℕ) where
  pub floor-first : (F : Shape → ℕ) → ((r : Refusal) → F (Err r) ≡ refusal_number r) → (rest : List Line)
      → F (Ok tt) ≡ first_of rest → F (floor_shape w h map) ≡ first_of (floor_lines w h map ++ rest)
  unfolding floor_shape sides_shape
  floor-first F given rest e =
      cases (side w && side h) (eqb (length map) (map_length (w * h))) (unused_clear (w * h) map)
    where
      cases : (x y z : Bool)
          → F (and_then (tested x Size) (and_then (tested y MapLength)
          (tested z UnusedBit)))
          ≡ first_of (line 1 (not x) ∷ line 2 (not y) ∷ line 3 (not z) ∷ rest)
      cases false y z = given Size
      cases true false z = given MapLength
      cases true true false = given UnusedBit
      cases true true true = e

  pub floor-cases : (P : Shape → Type 0) → P (Err Size) → P (Err MapLength) → P (Err UnusedBit) → P (Ok tt)
      → P (floor_shape w h map)
  unfolding floor_shape sides_shape
  floor-cases P p1 p2 p3 good =
      cases (side w && side h) (eqb (length map) (map_length (w * h))) (unused_clear (w * h) map)
    where
      cases : (x y z : Bool)
          → P (and_then (tested x Size) (and_then (tested y MapLength)
          (tested z UnusedBit)))
      cases false y z = p1
      cases true false z = p2
      cases true true false = p3
      cases true true true = good

-- ---- the neighbourhood

module _ (nb : ℕ) where
  pub known-cases : (P : Option Directions → Type 0) → P None → P (Some (dirs_for (neighbourhood_of nb)))
      → P (neighbourhood_of nb)
  known-cases P other known = cases (neighbourhood_of nb) refl
    where
      cases : (n : Option Directions) → neighbourhood_of nb ≡ n → P n
      cases None e = other
      cases (Some r) e = rw (ap dirs_for e) at known

  pub known-first : (F : Option Directions → ℕ) → F None ≡ 4 → (rest : List Line)
      → F (Some (dirs_for (neighbourhood_of nb))) ≡ first_of rest
      → F (neighbourhood_of nb) ≡ first_of (line 4 (not (is_neighbourhood nb)) ∷ rest)
  unfolding neighbourhood_of
  known-first F other rest known = cases (eqb nb 16) (eqb nb 8) (eqb nb 4) known
    where
      hood : Bool → Bool → Bool → Option Directions
      hood x y z =
          pick x (Some (directions_of 16 1 16))
          (pick y (Some (directions_of 0 2 8)) (pick z (Some (directions_of 0 4 4)) None))

      cases : (x y z : Bool) → F (Some (dirs_for (hood x y z))) ≡ first_of rest
          → F (hood x y z) ≡ first_of (line 4 (not (z || (y || x))) ∷ rest)
      cases true true true e = e
      cases true true false e = e
      cases true false true e = e
      cases true false false e = e
      cases false true true e = e
      cases false true false e = e
      cases false false true e = e
      cases false false false e = other

-- ---- the shape of a job

module _ (w h : ℕ) (map : List ℕ) (nb a b : ℕ) where
  ends-first : (F : Shape → ℕ) → ((r : Refusal) → F (Err r) ≡ refusal_number r) → (rest : List Line)
      → F (Ok tt) ≡ first_of rest
      → F (ends_shape w h map a b) ≡ first_of (line 5 (not (is_vertex w h a && is_vertex w h b))
      ∷ line 11 (is_pinch w h map a || is_pinch w h map b) ∷ rest)
  unfolding ends_shape end_shape pinch_shape
  ends-first F given rest e =
      cases (is_vertex w h a) (is_vertex w h b) (is_pinch w h map a) (is_pinch w h map b)
    where
      cases : (x y p q : Bool)
          → F (and_then (and_then (tested x End) (tested y End))
          (and_then (pick p (Err Pinched) (Ok tt)) (pick q (Err Pinched) (Ok tt))))
          ≡ first_of (line 5 (not (x && y)) ∷ line 11 (p || q) ∷ rest)
      cases false y p q = given End
      cases true false p q = given End
      cases true true true q = given Pinched
      cases true true false true = given Pinched
      cases true true false false = e

  ends-cases : (P : Shape → Type 0) → P (Err End) → P (Err Pinched) → P (Ok tt) → P (ends_shape w h map a b)
  unfolding ends_shape end_shape pinch_shape
  ends-cases P p5 p11 good =
      cases (is_vertex w h a) (is_vertex w h b) (is_pinch w h map a) (is_pinch w h map b)
    where
      cases : (x y p q : Bool)
          → P (and_then (and_then (tested x End) (tested y End))
          (and_then (pick p (Err Pinched) (Ok tt)) (pick q (Err Pinched) (Ok tt))))
      cases false y p q = p5
      cases true false p q = p5
      cases true true true q = p11
      cases true true false true = p11
      cases true true false false = good

  pub job-first : (F : Result Directions Refusal → ℕ) → ((r : Refusal) → F (Err r) ≡ refusal_number r)
      → (rest : List Line) → F (Ok (dirs_for (neighbourhood_of nb))) ≡ first_of rest
      → F (job_shape w h map nb a b) ≡ first_of (job_lines w h map nb a b ++ rest)
  unfolding job_shape
  job-first F given rest e =
      let n = neighbourhood_of nb in
      let ends = ends_shape w h map a b in
      let past : List Line = line 5 (not (is_vertex w h a && is_vertex w h b))
      ∷ line 11 (is_pinch w h map a || is_pinch w h map b) ∷ rest in
      floor-first w h map (λ s. F (and_then s (with_dirs n ends))) given (line 4 (not (is_neighbourhood nb)) ∷ past)
      (known-first nb (λ n. F (with_dirs n ends)) (given BadNeighbourhood) past
      (ends-first (λ s. F (and_then s (Ok (dirs_for n)))) given rest e))

  pub job-cases : (P : Result Directions Refusal → Type 0) → P (Err Size) → P (Err MapLength) → P (Err UnusedBit)
      → P (Err BadNeighbourhood) → P (Err End) → P (Err Pinched) → P (Ok (dirs_for (neighbourhood_of nb)))
      → P (job_shape w h map nb a b)
  unfolding job_shape
  job-cases P p1 p2 p3 p4 p5 p11 fit =
      let n = neighbourhood_of nb in
      let ends = ends_shape w h map a b in
      floor-cases w h map (λ s. P (and_then s (with_dirs n ends))) p1 p2 p3
      (known-cases nb (λ n. P (with_dirs n ends)) p4
      (ends-cases (λ s. P (and_then s (Ok (dirs_for n)))) p5 p11 fit))

-- ---- what a shape leaves

pub refusal-positive : (r : Refusal) → eqb (refusal_number r) 0 ≡ false
refusal-positive Size = refl
refusal-positive MapLength = refl
refusal-positive UnusedBit = refl
refusal-positive BadNeighbourhood = refl
refusal-positive End = refl
refusal-positive SliceLength = refl
refusal-positive NoRoute = refl
refusal-positive TooMany = refl
refusal-positive FalseSheet = refl
refusal-positive NotJoined = refl
refusal-positive Pinched = refl
refusal-positive ClosureBounds = refl
refusal-positive SlotsFull = refl
refusal-positive SlotEmpty = refl
refusal-positive SizesDiffer = refl
refusal-positive LogLength = refl
refusal-positive BadLogRecord = refl
refusal-positive NoRoom = refl
refusal-positive FalseChoice = refl
refusal-positive OutOfTurn = refl

-- No refusal has the number 0.
pub refused-zero : {P : Type 0} (r : Refusal) → refusal_number r ≡ 0 → P
refused-zero r e = not-both (eqb (refusal_number r) 0) (eq-eqb (refusal_number r) 0 e) (refusal-positive r)

pub shape-zero : (s : Shape) → answer_number s ≡ 0 → s ≡ Ok tt
shape-zero (Ok _) e = refl
shape-zero (Err r) e = refused-zero r e

-- An answer has the number of its shape.
pub good-number : {A : Type 0} (r : Result A Refusal) → answer_number r ≡ answer_number (good_if r)
good-number (Ok x) = refl
good-number (Err r) = refl

-- The number of an answer of the thinning by the shape, and how many it says are kept.
pub answer-number : (s : Shape) (k : ℕ) → thin_number (shape_answer s k) ≡ answer_number s
answer-number (Ok _) k = refl
answer-number (Err r) k = refl

pub answer-kept : (s : Shape) (k : ℕ) → thin_kept (shape_answer s k) ≡ left_by s k 0
answer-kept (Ok _) k = refl
answer-kept (Err r) k = refl

pub left-zero : {A : Type 0} (s : Shape) (x y : A) → left_by s x y ≡ at_zero (answer_number s) x y
left-zero (Ok _) x y = refl
left-zero (Err r) x y = rw (refusal-positive r)
