-- Laws of `count`, `chosen` and `differences`.
--
--   count-le              == count n p <= n
--   count_next            == count (k + 1) p = count k p, plus 1 where p k
--   count_none            == count n p = 0 where no k < n has p k
--   count-zero            == no k < n has p k where count n p = 0
--   count-or              == the k < n with p k or q k are count n p + count n q, where p and q never hold together
--   length-chosen         == length (chosen n p) = count n p
--   chosen-holds          == each number in chosen n p is below n and passes p
--   chosen-has            == each k < n with p k stands in chosen n p
--   chosen-rises          == the numbers in chosen n p ascend
--   differences-none      == k = l where their lengths are equal and differences k l = 0
--   differences-same      == differences l l = 0
--   differences-pairs     == differences_by eqb k l = differences k l where their lengths are equal
use Prim.Native.Nat.{ℕ, zero, suc, ◌+◌, ◌≤◌, ◌<◌}
use mathlib.Core.Path.{◌≡◌, refl, sym, ap, ◌∙◌}
use mathlib.Core.Logic.{⊎_elim}
use mathlib.Core.Bool.{Bool, true, false, ◌&&◌, ◌||◌, not, true≢false}
use mathlib.Core.List.{List, [], ◌∷◌, ◌++◌}
use native.Mathlib.Omega.{arith}
use native.Mathlib.Numerals.{add-one}
use borrow.Author.Tests.{eqb-true, eq-eqb}
use lib.Dec.{eqb}
use lib.ListN.{length, get_or, length-append, get_or-append}
use lib.Seq.{ext_get_or, get_or_at}
use Rattle.std.specs.List.{count_by, zip}
use Rattle.std.proofs.Common.{take}
use Rattle.std.proofs.Math.Seq.{take-length}
use Rattle.std.proofs.lemmas.List.Sums.{count_by_more_yes, count_by_more_no}
use Rattle.std.proofs.lemmas.Slice.Zip.{length-zip, get_or-zip}
use Rattle.basics.specs.Bounded.{pick, sum, count}
use Rattle.basics.specs.Lists.{chosen, differences, differences_by}
use Rattle.basics.proofs.Order.{le-or-lt}
use Rattle.basics.proofs.Bools.{true-or-false}
use Rattle.basics.proofs.Sums.{sum-cong, sum-le, sum_ones, sum-add, sum-zero, sum-next}

-- ---- count

pub bit-small : (b : Bool) → pick b 1 0 ≤ 1
bit-small true = omega arith
bit-small false = omega arith

pub count-le : (n : ℕ) (p : ℕ → Bool) → count n p ≤ n
count-le n p = omega (arith, sum-le n (λ k. pick (p k) 1 0) (λ k. 1) (λ k l. bit-small (p k)), sum_ones n)

pub count_next : (k : ℕ) (p : ℕ → Bool) → count (k + 1) p ≡ count k p + pick (p k) 1 0
count_next k p = sum-next k (λ k. pick (p k) 1 0)

pub count-cong : (n : ℕ) (p q : ℕ → Bool) → ((k : ℕ) → k < n → p k ≡ q k) → count n p ≡ count n q
count-cong n p q h = sum-cong n _ _ (λ k l. ap (λ b. pick b 1 0) (h k l))

pub count_none : (n : ℕ) (p : ℕ → Bool) → ((k : ℕ) → k < n → p k ≡ false) → count n p ≡ 0
count_none n p h = sum-zero n _ (λ k l. ap (λ b. pick b 1 0) (h k l))

pub count-zero : (n : ℕ) (p : ℕ → Bool) → count n p ≡ 0 → (k : ℕ) → k < n → p k ≡ false
unfolding sum
count-zero zero p e k l = absurd (omega arith)
count-zero (suc n) p e k l =
    ⊎_elim (λ (lt : suc k ≤ n). count-zero n p (omega arith) k lt)
    (λ (ge : n < suc k). let q : k ≡ n = omega arith in rw q (last (p n) refl (omega arith)))
    (le-or-lt (suc k) n)
  where
    last : (b : Bool) → p n ≡ b → ◌≡◌ {A = ℕ} (pick (p n) 1 0) 0 → b ≡ false
    last true q z = let y : ◌≡◌ {A = ℕ} (pick (p n) 1 0) 1 = ap (λ b. pick b 1 0) q in absurd (omega arith)
    last false q z = refl

pub count-or : (n : ℕ) (p q : ℕ → Bool) → ((k : ℕ) → k < n → (p k && q k) ≡ false)
    → count n (λ k. p k || q k) ≡ count n p + count n q
count-or n p q h =
    sum-cong n _ _ (λ k l. apart (p k) (q k) (h k l)) ∙ sum-add n (λ k. pick (p k) 1 0) (λ k. pick (q k) 1 0)
  where
    apart : (a b : Bool) → (a && b) ≡ false → pick (a || b) 1 0 ≡ pick a 1 0 + pick b 1 0
    apart true true e = absurd (true≢false e)
    apart true false e = refl
    apart false true e = refl
    apart false false e = refl

-- ---- chosen

pub chosen-next : (k : ℕ) (p : ℕ → Bool) → chosen (k + 1) p ≡ chosen k p ++ pick (p k) (k ∷ []) []
unfolding chosen
chosen-next k p = rw add-one

pub length-chosen : (n : ℕ) (p : ℕ → Bool) → length (chosen n p) ≡ count n p
unfolding chosen sum
length-chosen zero p = refl
length-chosen (suc n) p =
    omega (arith, length-append (chosen n p) (pick (p n) (n ∷ []) []), length-chosen n p, one (p n))
  where
    one : (b : Bool) → length (pick b (n ∷ []) []) ≡ pick b 1 0
    one true = refl
    one false = refl

pub chosen_none : (n : ℕ) (p : ℕ → Bool) → ((k : ℕ) → k < n → p k ≡ false) → chosen n p ≡ []
chosen_none n p h = empty (chosen n p) (length-chosen n p ∙ count_none n p h)
  where
    empty : (l : List ℕ) → length l ≡ 0 → l ≡ []
    empty [] e = refl
    empty (x ∷ l) e = absurd (omega arith)

chosen-zero : (p : ℕ → Bool) → length (chosen 0 p) ≡ 0
unfolding chosen
chosen-zero p = refl

-- A place of chosen (suc n) p past those of chosen n p is the last, and n stands there.
at_last : (n i : ℕ) (p : ℕ → Bool) → i < length (chosen (suc n) p) → length (chosen n p) ≤ i
    → (i ≡ length (chosen n p)) × (p n ≡ true) × (get_or (chosen (suc n) p) i 0 ≡ n)
unfolding chosen
at_last n i p l ge = cases (p n) refl (omega (arith, length-append (chosen n p) (pick (p n) (n ∷ []) [])))
  where
    cases : (b : Bool) → p n ≡ b → i < length (chosen n p) + length (pick (p n) (n ∷ []) [])
        → (i ≡ length (chosen n p)) × (p n ≡ true) × (get_or (chosen n p ++ pick (p n) (n ∷ []) []) i 0 ≡ n)
    cases true q k =
        let one : length (pick (p n) (n ∷ []) []) ≡ 1 = ap (λ b. length (pick b (n ∷ []) [])) q in
        let e : length (chosen n p) ≡ i = omega arith in
        (sym e, q, ap (λ b. get_or (chosen n p ++ pick b (n ∷ []) []) i 0) q ∙ get_or_at (chosen n p) n [] 0 i e)
    cases false q k =
        let none : length (pick (p n) (n ∷ []) []) ≡ 0 = ap (λ b. length (pick b (n ∷ []) [])) q in absurd (omega arith)

before_last : (n i : ℕ) (p : ℕ → Bool) → i < length (chosen n p)
    → get_or (chosen (suc n) p) i 0 ≡ get_or (chosen n p) i 0
unfolding chosen
before_last n i p l = get_or-append (chosen n p) (pick (p n) (n ∷ []) []) 0 i l

pub chosen-holds : (n i : ℕ) (p : ℕ → Bool) → i < length (chosen n p)
    → (get_or (chosen n p) i 0 < n) × (p (get_or (chosen n p) i 0) ≡ true)
chosen-holds zero i p l = absurd (omega (arith, chosen-zero p))
chosen-holds (suc n) i p l = ⊎_elim
    (λ (lt : suc i ≤ length (chosen n p)).
    let r = chosen-holds n i p lt in rw (before_last n i p lt) (omega (arith, r.0), r.1))
    (λ (ge : length (chosen n p) < suc i).
    let r = at_last n i p l (omega arith) in rw r.2 (omega arith, r.1))
    (le-or-lt (suc i) (length (chosen n p)))

pub chosen-rises : (n i j : ℕ) (p : ℕ → Bool) → i < j → j < length (chosen n p)
    → get_or (chosen n p) i 0 < get_or (chosen n p) j 0
chosen-rises zero i j p k l = absurd (omega (arith, chosen-zero p))
chosen-rises (suc n) i j p k l = ⊎_elim
    (λ (lt : suc j ≤ length (chosen n p)).
    rw (before_last n i p (omega arith), before_last n j p lt) (chosen-rises n i j p k lt))
    (λ (ge : length (chosen n p) < suc j).
    let r = at_last n j p l (omega arith) in
    let m : i < length (chosen n p) = omega (arith, r.0) in
    rw (before_last n i p m, r.2) (chosen-holds n i p m).0)
    (le-or-lt (suc j) (length (chosen n p)))

pub chosen-has : (n k : ℕ) (p : ℕ → Bool) → k < n → p k ≡ true
    → (i : ℕ) × (i < length (chosen n p)) × (get_or (chosen n p) i 0 ≡ k)
unfolding chosen
chosen-has zero k p l e = absurd (omega arith)
chosen-has (suc n) k p l e = ⊎_elim
    (λ (lt : suc k ≤ n).
    let r = chosen-has n k p lt e in (
      r.0,
      omega (arith, r.1, length-append (chosen n p) (pick (p n) (n ∷ []) [])),
      get_or-append (chosen n p) (pick (p n) (n ∷ []) []) 0 r.0 r.1 ∙ r.2,
    ))
    (λ (ge : n < suc k).
    let q : k ≡ n = omega arith in
    let t : p n ≡ true = ap p (sym q) ∙ e in
    let one : length (pick (p n) (n ∷ []) []) ≡ 1 = ap (λ b. length (pick b (n ∷ []) [])) t in (
      length (chosen n p),
      omega (arith, length-append (chosen n p) (pick (p n) (n ∷ []) [])),
      ap (λ b. get_or (chosen n p ++ pick b (n ∷ []) []) (length (chosen n p)) 0) t
          ∙ get_or_at (chosen n p) n [] 0 (length (chosen n p)) refl ∙ sym q,
    ))
    (le-or-lt (suc k) n)

-- ---- differences

abbrev differ_at : List ℕ → List ℕ → ℕ → Bool
differ_at k l i = not (eqb (get_or k i 0) (get_or l i 0))

pub differences-same : (l : List ℕ) → differences l l ≡ 0
unfolding differences
differences-same l = count_none (length l) (differ_at l l) (λ i k. ap not (eq-eqb (get_or l i 0) (get_or l i 0) refl))

pub differences-none : (k l : List ℕ) → length k ≡ length l → differences k l ≡ 0 → k ≡ l
unfolding differences
differences-none k l e z =
    ext_get_or 0 k l e (λ i h. equal (get_or k i 0) (get_or l i 0) (count-zero (length k) (differ_at k l) z i (omega arith)))
  where
    equal : (x y : ℕ) → not (eqb x y) ≡ false → x ≡ y
    equal x y q = ⊎_elim (λ t. eqb-true x y t) (λ f. absurd (true≢false (sym (ap not f) ∙ q))) (true-or-false (eqb x y))

-- ---- differences of lists taken place by place

-- The places below i of a list that pass a test.
count-places : {A : Type 0} (p : A → Bool) (d : A) (l : List A) (i : ℕ) → i ≤ length l
    → count_by p (take i l) ≡ count i (λ j. p (get_or l j d))
unfolding sum
count-places p d l zero h = refl
count-places p d l (suc i) h = cases (p (get_or l i d)) refl (count-places p d l i (omega arith))
  where
    cases : (b : Bool) → p (get_or l i d) ≡ b → count_by p (take i l) ≡ count i (λ j. p (get_or l j d))
        → count_by p (take (suc i) l) ≡ count i (λ j. p (get_or l j d)) + pick (p (get_or l i d)) 1 0
    cases true e r = rw e (omega (arith, rw add-one at (count_by_more_yes p l i d h e), r))
    cases false e r = rw e (omega (arith, rw add-one at (count_by_more_no p l i d h e), r))

pub differences-pairs : (k l : List ℕ) → length k ≡ length l → differences_by eqb k l ≡ differences k l
unfolding differences
differences-pairs k l e =
    let pairs = zip k l in
    let n : length pairs ≡ length k = omega (arith, length-zip k l) in
    ap (count_by (λ p. not (eqb p.0 p.1))) (sym (take-length pairs))
    ∙ count-places (λ p. not (eqb p.0 p.1)) (0, 0) pairs (length pairs) (omega arith)
    ∙ rw n (count-cong (length k) _ _ (λ i h. ap (λ p. not (eqb p.0 p.1)) (get_or-zip k l i (0, 0) h (omega arith))))
