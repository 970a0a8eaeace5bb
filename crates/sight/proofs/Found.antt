-- What `find_map` over a range of numbers finds, where the closure answers G k at the number k and stays as it is.
--
--   Found a b G r == r is the first of G a, G (a + 1), .., G (b - 1) that is not None; None where each is
--   run-place, run-few, run-whole == the numbers of a run over a range, and how many they are
--   found         == `Found` of what `find_map` returns
use Prim.Native.Nat.{ℕ, zero, suc, ◌+◌, ◌-◌, ◌≤◌, ◌<◌}
use mathlib.Core.Path.{◌≡◌, sym, ap, subst, ◌∙◌}
use mathlib.Core.Bool.{true}
use native.Mathlib.Omega.{arith}
use denote.Param.Members.{Mut, Called}
use Rattle.std.specs.Prelude.{List, [], ◌∷◌, length, slice_get, Option, Some, None, MatchOption, IfSome, IsSomeAnd, IsTrue}
use Rattle.std.specs.Iterator.{Yields}
use Rattle.std.specs.Iterator.Runs.{Run, YieldsRun, SomeRun, CallKeepsClosure, AllItemsGive, IsFirstToGive}
use Rattle.std.specs.declared.ops.Range.{Range}
use Rattle.sight.specs.declared.Obstacle.{Obstacle}

abbrev pub Found : ℕ → ℕ → (ℕ → Option Obstacle) → Option Obstacle → Type 0
Found a b G r =
    MatchOption r ((k : ℕ) → a ≤ k → k < b → G k ≡ None)
    (λ y. (i : ℕ) × (a ≤ i) × (i < b) × (G i ≡ Some y) × ((k : ℕ) → a ≤ k → k < i → G k ≡ None))

-- ---- the numbers that a range gives

-- A call of `next` on a range.
abbrev pub range_step : Range ℕ → Option ℕ → Range ℕ → Type 0
range_step s r t =
    (t.end ≡ s.end) × MatchOption r ((s.end - s.start ≡ 0) × (t.start ≡ s.start))
    (λ x. (0 < s.end - s.start) × (x ≡ s.start) × (t.start ≡ s.start + 1))

passed : (xs : List ℕ) (s t : Range ℕ) → Yields range_step s xs t
    → (t.end ≡ s.end) × (t.start ≡ s.start + length xs) × (length xs ≤ s.end - s.start)
passed [] s t y = (sym (ap (λ k. k.end) y), omega (arith, ap (λ (k : Range ℕ). k.start) y), omega arith)
passed (x ∷ xs) s t y =
    let h = passed xs y.0 t y.2 in
    (h.0 ∙ y.1.0, omega (arith, h.1, y.1.1.2), omega (arith, h.2, y.1.0, y.1.1.0, y.1.1.2))

number_at : (xs : List ℕ) (s t : Range ℕ) → Yields range_step s xs t → (k : ℕ) → k < length xs
    → slice_get xs k ≡ Some (s.start + k)
number_at [] s t y k l = absurd (omega arith)
number_at (x ∷ xs) s t y zero l = ap Some (omega (arith, y.1.1.1))
number_at (x ∷ xs) s t y (suc k) l =
    number_at xs y.0 t y.2 k (omega arith) ∙ ap Some (omega (arith, y.1.1.2))

module _ (p : Run range_step) where
  pub run-place : (k : ℕ) → k < p.len → p.at k ≡ Some (p.from.start + k)
  unfolding YieldsRun
  run-place k l = p.gave.1 k ∙ number_at p.items p.from p.gave.0.0 p.gave.0.1 k (omega (arith, p.long))

  pub run-few : p.len ≤ p.from.end - p.from.start
  unfolding YieldsRun
  run-few = omega (arith, p.long, passed p.items p.from p.gave.0.0 p.gave.0.1)

  pub run-whole : p.whole ≡ true → p.len ≡ p.from.end - p.from.start
  unfolding YieldsRun
  run-whole w =
      let h = passed p.items p.from p.gave.0.0 p.gave.0.1 in
      omega (arith, p.long, h.0, h.1, h.2, (p.gave.0.2 w).1.1.0)

-- ---- what the closure answers at them

module _ {F : Type 0} {g : Mut F (ℕ × Unit {0}) (Option Obstacle)} (f : F) (G : ℕ → Option Obstacle)
    (tells : (x : ℕ) (o : Option Obstacle) (h : F) → Called g f (x, tt) o h → (h ≡ f) × (o ≡ G x)) where
  at-item : (o : Option ℕ) (k : ℕ) (r : Option Obstacle) → o ≡ Some k → IfSome o (λ x. Called g f (x, tt) r f) → r ≡ G k
  at-item o k r e h = (tells k r f (subst (λ p. IfSome p (λ x. Called g f (x, tt) r f)) e h)).1

  at-item-and : (o : Option ℕ) (k : ℕ) (r : Option Obstacle) → o ≡ Some k → IsSomeAnd o (λ x. Called g f (x, tt) r f)
      → r ≡ G k
  at-item-and o k r e h = (tells k r f (subst (λ p. IsSomeAnd p (λ x. Called g f (x, tt) r f)) e h)).1

  keeps : CallKeepsClosure g f
  keeps a o h e = (tells a.0 o h e).0

  -- The numbers of a run over a range.
  module _ (s : Range ℕ) (p : Run range_step) (from : p.from ≡ s) where
    place : (k : ℕ) → k < p.len → p.at k ≡ Some (s.start + k)
    place k l = subst (λ (t : Range ℕ). p.at k ≡ Some (t.start + k)) from (run-place p k l)

    few : p.len ≤ s.end - s.start
    few = subst (λ (t : Range ℕ). p.len ≤ t.end - t.start) from (run-few p)

    all : p.whole ≡ true → p.len ≡ s.end - s.start
    all w = subst (λ (t : Range ℕ). p.len ≡ t.end - t.start) from (run-whole p w)

    by : (r : Option Obstacle)
        → MatchOption r (IsTrue p.whole × AllItemsGive p g f None)
        (λ y. (i : ℕ) × (i < p.len) × (p.len ≡ i + 1) × IsFirstToGive p g f (Some y) None i)
        → Found s.start s.end G r
    by None h =
        λ k l m.
        let j = k - s.start in
        let q : k ≡ s.start + j = omega arith in
        let len = all h.0 in
        ap G q ∙ sym (at-item (p.at j) (s.start + j) None (place j (omega arith)) (h.1 keeps j))
    by (Some y) h =
        let i = h.0 in
        let l = few in (
          s.start + i,
          omega arith,
          omega (arith, h.1),
          sym (at-item-and (p.at i) (s.start + i) (Some y) (place i h.1) (h.3 keeps).0),
          λ k l m.
              let j = k - s.start in
              let q : k ≡ s.start + j = omega arith in
              ap G q
              ∙ sym (at-item-and (p.at j) (s.start + j) None (place j (omega (arith, h.1))) ((h.3 keeps).1 j (omega arith))),
        )

  pub found : (s : Range ℕ) (r : Option Obstacle)
      → SomeRun range_step s (λ p. MatchOption r (IsTrue p.whole × AllItemsGive p g f None)
      (λ y. (i : ℕ) × (i < p.len) × (p.len ≡ i + 1) × IsFirstToGive p g f (Some y) None i))
      → Found s.start s.end G r
  found s r R = by s R.0 R.1 r R.2
