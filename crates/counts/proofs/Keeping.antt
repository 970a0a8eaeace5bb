-- A loop that filters a list in place: the numbers that pass a test are kept at its beginning.
--
--   kept-one    == what a test adds to the number of those kept
--   kept-none   == `Filtered` before the first turn
--   kept_more   == `Filtered` after one turn more: the next number is stored after those kept, and counts as kept where
--                  it passes the test
--   kept-all    == `Filtered` after the last turn
use Prim.Native.Nat.{ℕ, ◌+◌, ◌≤◌, ◌<◌}
use mathlib.Core.Path.{◌≡◌, refl, sym, ap, ◌∙◌, subst}
use mathlib.Core.Logic.{◌⊎◌, inl, inr, ⊎_elim}
use mathlib.Core.Bool.{Bool, true, false}
use mathlib.Core.List.{List}
use mir.Val.{bool_byte}
use native.Mathlib.Omega.{arith}
use lib.ListN.{length, set, length-set}
use lib.Seq.{get_or-set_same, get_or-set_other}
use Rattle.basics.specs.Bounded.{pick}
use Rattle.basics.proofs.Order.{eq-or-ne}
use Rattle.basics.proofs.Bools.{true-or-false}
use Rattle.paths.specs.Local.{entry}
use Rattle.counts.specs.Passes.{Filtered}

pub kept-one : (b : Bool) → bool_byte b ≡ pick b 1 0
kept-one true = refl
kept-one false = refl

pub kept-none : {p : ℕ → Bool} {l : List ℕ} → Filtered p 0 0 l l
kept-none = record {
  few = omega arith;
  len = refl;
  rest = λ i lt. refl;
  from = λ i lt. absurd (omega arith);
  passing = λ i lt. absurd (omega arith);
  found = λ j lt y. absurd (omega arith);
  rising = λ D h i j le lt. absurd (omega arith);
}

module _ {p : ℕ → Bool} {n k k' : ℕ} {l l' : List ℕ} (K : Filtered p n k l l') (in-n : n < length l)
    (more : k' ≡ k + pick (p (entry l' n)) 1 0) where
  abbrev l'' : List ℕ
  l'' = set l' k (entry l' n)

  next : entry l' n ≡ entry l n
  next = K.rest n (omega arith)

  stored : entry l'' k ≡ entry l n
  stored = get_or-set_same l' k (entry l' n) 0 (omega (arith, K.len, K.few)) ∙ next

  other : (i : ℕ) → (i ≡ k → ⊥) → entry l'' i ≡ entry l' i
  other i ne = get_or-set_other l' k i (entry l' n) 0 ne

  more_by : {b : Bool} → p (entry l n) ≡ b → k' ≡ k + pick b 1 0
  more_by y = more ∙ ap (λ b. k + pick b 1 0) (ap p next ∙ y)

  -- A number that is kept was kept before, or it is the next one and passes the test.
  kept-cases : (i : ℕ) → i < k'
      → ((i < k) × (entry l'' i ≡ entry l' i)) ⊎ ((entry l'' i ≡ entry l n) × (p (entry l n) ≡ true))
  kept-cases i lt = ⊎_elim
      (λ y. ⊎_elim (λ q. inr (ap (entry l'') q ∙ stored, y)) (λ ne. inl (omega (arith, more_by y), other i ne))
      (eq-or-ne i k))
      (λ y. let before : i < k = omega (arith, more_by y) in inl (before, other i (λ q. omega arith)))
      (true-or-false (p (entry l n)))

  each_kept_from : (i : ℕ) → i < k' → (j : ℕ) × (j < n + 1) × (entry l j ≡ entry l'' i)
  each_kept_from i lt = ⊎_elim
      (λ q. let r = K.from i q.0 in (r.0, omega (arith, r.1), r.2 ∙ sym q.1))
      (λ q. (n, omega arith, sym q.0)) (kept-cases i lt)

  pub kept_more : Filtered p (n + 1) k' l l''
  kept_more = record {
    few = ⊎_elim (λ y. omega (arith, more_by y, K.few)) (λ y. omega (arith, more_by y, K.few))
        (true-or-false (p (entry l n)));
    len = length-set l' k (entry l' n) ∙ K.len;
    rest = λ i le. other i (λ q. omega (arith, K.few)) ∙ K.rest i (omega arith);
    from = each_kept_from;
    passing = λ i lt. ⊎_elim (λ q. ap p q.1 ∙ K.passing i q.0) (λ q. ap p q.0 ∙ q.1) (kept-cases i lt);
    found = λ j lt y. ⊎_elim
        (λ q. (k, omega (arith, more_by (ap (λ i. p (entry l i)) (sym q) ∙ y)), stored ∙ ap (entry l) (sym q)))
        (λ ne. let r = K.found j (omega arith) y in
        (r.0, omega (arith, r.1, more), other r.0 (λ q. omega (arith, r.1)) ∙ r.2)) (eq-or-ne j n);
    rising = λ D h i j le lt. ⊎_elim
        (λ q. rw (q.1, other i (λ z. omega (arith, q.0)))
        (K.rising D (λ i' j' le' lt'. h i' j' le' (omega arith)) i j le q.0))
        (λ q. let r = each_kept_from i (omega arith) in
        rw (q.0, sym r.2) (h r.0 n (omega (arith, r.1)) (omega arith))) (kept-cases j lt);
  }

pub kept-all : {p : ℕ → Bool} {n i k : ℕ} {l l' : List ℕ} → Filtered p i k l l' → i ≤ n → n ≤ i → Filtered p n k l l'
kept-all {p} {n} {i} {k} {l} {l'} K le ge = let q : i ≡ n = omega arith in subst (λ j. Filtered p j k l l') q K
