-- The test of a cost by the least that a move gives it, over any graph.
--
--   least-is      == `least_of F n` is `nowhere` or one of F 0, .. F (n - 1), and at most each of them
--   min-found     == where z is min x y, and x is p and y is q, z is min p q
--   by_two        == `least_at` is `least_first` where the third class has no move
--   by-four       == `least_at` is the minimum of `least_first` and `least_further` where the third class has moves
--   right-found   == where r is `right_by z a D v` and z is p, r is `right_by p a D v`
--   least-right   == right_cost_in g a D v = right_least s l mask a D v, where the moves of g are those of the classes
use Prim.Native.Nat.{ℕ, zero, suc, ◌+◌, ◌≤◌, ◌<◌, min}
use mathlib.Core.Path.{◌≡◌, refl, sym, ap, ap₂, ◌∙◌}
use mathlib.Core.Logic.{◌⊎◌, inl, inr, ⊎_elim}
use mathlib.Core.Bool.{Bool, true, false, ◌&&◌, ◌||◌, or_assoc, or_comm}
use mathlib.Core.Option.{Option, none, some}
use mathlib.Core.List.{List}
use native.Mathlib.Omega.{arith}
use borrow.Author.Tests.{leb-true, le-leb, eqb-true, eq-eqb, ne_eqb}
use lib.Dec.{leb, eqb}
use Rattle.basics.proofs.Order.{le-or-lt, eq-or-ne}
use Rattle.basics.proofs.Bools.{iff-eq}
use Rattle.basics.proofs.Bounded.{any-cases, any-one}
use Rattle.offsets.specs.declared.Class.{Class}
use Rattle.offsets.specs.Offsets.{dir_end}
use Rattle.offsets.specs.Classes.{class_count, class_at, class_dir}
use Rattle.paths.specs.Graph.{Graph}
use Rattle.paths.specs.Distance.{unreachable}
use Rattle.paths.specs.Local.{tight}
use Rattle.paths.proofs.Neighbours.{is-there-cases, is-there-at}
use Rattle.neighbours.specs.Reading.{tight_by}
use Rattle.neighbours.specs.Least.{end_or, relaxed_in, right_cost_in, nowhere, least_of, end_at, least_by}
use Rattle.neighbours.specs.Least.{least_first, least_further, least_at, right_by, right_least, ClassMoves}
use Rattle.neighbours.proofs.Incoming.{relaxed_in-cases, relaxed_in-all}

record Minimum (x y z : ℕ) : Type 0 where
  left : z ≤ x
  right : z ≤ y
  is : (z ≡ x) ⊎ (z ≡ y)

min-is : (x y : ℕ) → Minimum x y (min x y)
min-is x y = ⊎_elim
    (λ h. record { left = omega arith; right = omega arith; is = inr (omega arith) })
    (λ h. record { left = omega arith; right = omega arith; is = inl (omega arith) }) (le-or-lt y x)

pub record Least (F : ℕ → ℕ) (n z : ℕ) : Type 0 where
  pub most : z ≤ nowhere
  pub each : (j : ℕ) → j < n → z ≤ F j
  pub is : (z ≡ nowhere) ⊎ ((j : ℕ) × (j < n) × (z ≡ F j))

pub least-is : (F : ℕ → ℕ) (n : ℕ) → Least F n (least_of F n)
unfolding least_of
least-is F zero = record { most = omega arith; each = λ j h. absurd (omega arith); is = inl refl }
least-is F (suc n) =
    let L = least-is F n in
    let K = min-is (least_of F n) (F n) in
    record {
      most = omega (arith, K.left, L.most);
      each = λ j h. ⊎_elim (λ (lt : suc j ≤ n). omega (arith, K.left, L.each j lt))
          (λ (ge : n < suc j). let e : j ≡ n = omega arith in rw e K.right) (le-or-lt (suc j) n);
      is = ⊎_elim
          (λ e. ⊎_elim (λ q. inl (e ∙ q)) (λ q. inr (q.0, omega (arith, q.1), e ∙ q.2)) L.is)
          (λ e. inr (n, omega arith, e)) K.is;
    }

pub right-found : (a v : ℕ) (D : ℕ → ℕ) {z p : ℕ} {r : Bool} → z ≡ p → r ≡ right_by z a D v → r ≡ right_by p a D v
right-found a v D p f = f ∙ ap (λ z. right_by z a D v) p

pub min-found : {x y z p q : ℕ} → x ≡ p → y ≡ q → z ≡ min x y → z ≡ min p q
min-found p q e = e ∙ ap₂ min p q

module _ (s : List ℕ) (l : List Class) (mask : ℕ) (D : ℕ → ℕ) (v : ℕ) where
  pub by_two : {x : ℕ} → (class_at l 2).cost ≡ 0 → x ≡ least_first s l mask D v → x ≡ least_at s l mask D v
  unfolding least_at
  by_two unused first = rw (eq-eqb (class_at l 2).cost 0 unused) first

  pub by-four : {x y z : ℕ} → ((class_at l 2).cost ≡ 0 → ⊥) → x ≡ least_first s l mask D v
      → y ≡ least_further s l mask D v → z ≡ min x y → z ≡ least_at s l mask D v
  unfolding least_at
  by-four used first further e = rw (ne_eqb (class_at l 2).cost 0 used) (min-found first further e)

-- The parts of `right_cost_in` in the order of those of `right_by`.
reordered : (b u s t e : Bool) → (b ≡ true → t ≡ e) → (b && (u || (s || t))) ≡ (b && (e || (u || s)))
reordered true u s t e h = rw (h refl) (sym (or_assoc u s e) ∙ or_comm (u || s) e)
reordered false u s t e h = refl

module _ {g : Graph} {s : List ℕ} {l : List Class} {mask v : ℕ} (C : ClassMoves g s l mask v) (D : ℕ → ℕ) where
  abbrev by : ℕ → ℕ
  by k = least_by s mask D v (class_at l k)

  abbrev X : ℕ
  X = least_at s l mask D v

  -- An open move gives v the cost x.
  record Gives (x : ℕ) : Type 0 where
    move : ℕ
    to : ℕ
    below : move < g.moves
    goes : g.step move v ≡ some to
    is : x ≡ D to + g.cost move

  abbrev ends : ℕ → ℕ → ℕ
  ends k j = D (end_at s mask v (class_dir (class_at l k) j))

  by-moves : (k : ℕ) → 0 < (class_at l k).cost → by k ≡ least_of (ends k) 4 + (class_at l k).cost
  unfolding least_by
  by-moves k pos = rw (ne_eqb (class_at l k).cost 0 (λ e. omega arith))

  -- The least by the first two classes, and by the other two.
  first : Minimum (by 0) (by 1) (least_first s l mask D v)
  first = min-is (by 0) (by 1)

  further : Minimum (by 2) (by 3) (least_further s l mask D v)
  further = min-is (by 2) (by 3)

  abbrev whole : ℕ
  whole = min (least_first s l mask D v) (least_further s l mask D v)

  all : Minimum (least_first s l mask D v) (least_further s l mask D v) whole
  all = min-is (least_first s l mask D v) (least_further s l mask D v)

  -- The least, where the third class has no move and where it has.
  of_two : (class_at l 2).cost ≡ 0 → least_first s l mask D v ≡ X
  of_two unused = by_two s l mask D v unused refl

  of_four : ((class_at l 2).cost ≡ 0 → ⊥) → whole ≡ X
  of_four used = by-four s l mask D v used refl refl refl

  least-class : (k : ℕ) → k < class_count → 0 < (class_at l k).cost → X ≤ by k
  least-class k h pos =
      ⊎_elim (λ unused. two k h pos unused (of_two unused)) (λ used. four k h (of_four used))
      (eq-or-ne (class_at l 2).cost 0)
    where
      two : (k : ℕ) → k < class_count → 0 < (class_at l k).cost → (class_at l 2).cost ≡ 0 → least_first s l mask D v ≡ X
          → X ≤ by k
      two zero h pos unused e = omega (arith, first.left)
      two (suc zero) h pos unused e = omega (arith, first.right)
      two (suc (suc zero)) h pos unused e = absurd (omega arith)
      two (suc (suc (suc zero))) h pos unused e = absurd (omega (arith, C.paired))
      two (suc (suc (suc (suc k)))) h pos unused e = absurd (omega arith)

      four : (k : ℕ) → k < class_count → whole ≡ X → X ≤ by k
      four zero h e = omega (arith, all.left, first.left)
      four (suc zero) h e = omega (arith, all.left, first.right)
      four (suc (suc zero)) h e = omega (arith, all.right, further.left)
      four (suc (suc (suc zero))) h e = omega (arith, all.right, further.right)
      four (suc (suc (suc (suc k)))) h e = absurd (omega arith)

  -- The least is at most what any open move gives.
  least-le : (m w : ℕ) → m < g.moves → g.step m v ≡ some w → X ≤ D w + g.cost m
  least-le m w lt st =
      let c = C.covers m lt in
      let k = c.0 in
      let b = c.4 in
      let e : ends k c.1 ≡ D w = ap (λ o. D (end_or v o)) (sym b.step ∙ st) in
      omega (arith, least-class k c.2 c.3, by-moves k c.3, (least-is (ends k) 4).each c.1 b.dir, b.cost)

  -- The least is what an open move gives, or above the cost of v; what a shut move gives is above it too.
  abbrev Given : ℕ → Type 0
  Given x = (D v < x) ⊎ Gives x

  given-min : {x y z : ℕ} → Given x → Given y → Minimum x y z → Given z
  given-min p q z = ⊎_elim (λ e. rw e p) (λ e. rw e q) z.is

  module _ (small : D v ≤ unreachable) where
    given_by : (k : ℕ) → k < class_count → Given (by k)
    unfolding least_by
    given_by k h = ⊎_elim (λ e. inl (rw (eq-eqb (class_at l k).cost 0 e) (omega arith)))
        (λ ne. let pos : 0 < (class_at l k).cost = omega arith in
        ⊎_elim (λ e. inl (omega (arith, by-moves k pos)))
        (λ j. dir j.0 j.1 pos j.2 (dir_end s mask v (class_dir (class_at l k) j.0)) refl)
        (least-is (ends k) 4).is) (eq-or-ne (class_at l k).cost 0)
      where
        dir : (j : ℕ) → j < 4 → 0 < (class_at l k).cost → least_of (ends k) 4 ≡ ends k j
            → (o : Option ℕ) → dir_end s mask v (class_dir (class_at l k) j) ≡ o → Given (by k)
        dir j i pos e none q =
            let z : ends k j ≡ D v = ap (λ o. D (end_or v o)) q in
            inl (omega (arith, by-moves k pos))
        dir j i pos e (some w) q =
            let z : ends k j ≡ D w = ap (λ o. D (end_or v o)) q in
            let m = C.move k j h i pos in
            inr (record {
              move = m.0;
              to = w;
              below = m.1.listed;
              goes = m.1.step ∙ q;
              is = omega (arith, by-moves k pos, m.1.cost);
            })

    given-least : Given X
    given-least =
        let by_first = given-min (given_by 0 (omega arith)) (given_by 1 (omega arith)) first in
        let by-further = given-min (given_by 2 (omega arith)) (given_by 3 (omega arith)) further in
        ⊎_elim (λ unused. rw (← of_two unused) by_first)
        (λ used. rw (← of_four used) (given-min by_first by-further all)) (eq-or-ne (class_at l 2).cost 0)

    relaxed-least : relaxed_in g D v ≡ leb (D v) X
    relaxed-least = iff-eq (relaxed_in g D v) (leb (D v) X)
        (λ r. le-leb (D v) X (⊎_elim (λ lt. omega arith)
        (λ o. omega (arith, o.is, relaxed_in-cases g D v r o.move o.to o.below o.goes)) given-least))
        (λ t. relaxed_in-all g D v (λ m w lt st. omega (arith, leb-true (D v) X t, least-le m w lt st)))

    tight-least : D v ≤ X → tight g D v ≡ eqb (D v) X
    unfolding tight tight_by
    tight-least le = iff-eq (tight g D v) (eqb (D v) X)
        (λ t.
        let m = any-cases g.moves (tight_by g D v) t in
        let w = is-there-cases (g.step m.0 v) (λ w. eqb (D w + g.cost m.0) (D v)) m.2 in
        eq-eqb (D v) X
        (omega (arith, least-le m.0 w.0 m.1 w.1, eqb-true (D w.0 + g.cost m.0) (D v) w.2)))
        (λ t. ⊎_elim (λ lt. absurd (omega (arith, eqb-true (D v) X t)))
        (λ o. any-one g.moves o.move (tight_by g D v) o.below
        (is-there-at (g.step o.move v) _ o.to o.goes
        (eq-eqb (D o.to + g.cost o.move) (D v) (omega (arith, o.is, eqb-true (D v) X t))))) given-least)

    pub least-right : (a : ℕ) → right_cost_in g a D v ≡ right_least s l mask a D v
    unfolding right_cost_in right_by
    least-right a =
        rw (le-leb (D v) unreachable small, relaxed-least)
        (reordered (leb (D v) X) (eqb (D v) unreachable) (eqb v a) (tight g D v) (eqb (D v) X)
        (λ t. tight-least (leb-true (D v) X t)))
