-- A loop that keeps the best candidate for the next vertex; and which far ends are candidates.
--
--   BestScan T c n k r x   == x is the highest count of the first k candidates of n, 0 where there is none, and r the
--                             best of them where x is positive
--   best-start, -off, -lower, -higher == `BestScan` at the start, and after a move without a candidate, with one of no
--                             higher count, and with one of a higher count
--   best-end               == after all n moves r is `best T c n`, where some candidate has a positive count
--   OffScan d e goal i v t == t is false only where the vertices from i to before v are not on the way
--   off-start, off-more    == `OffScan` before the first vertex and after one vertex more
use Prim.Native.Nat.{ℕ, suc, ◌+◌, ◌≤◌, ◌<◌}
use mathlib.Core.Path.{◌≡◌, refl, sym, ◌∙◌, subst}
use mathlib.Core.Bool.{Bool, true, false, ◌||◌, and-true, and-false}
use mathlib.Core.Logic.{⊎_elim}
use mathlib.Core.List.{List}
use mathlib.Core.Option.{Option, none, some}
use native.Mathlib.Omega.{arith}
use native.Mathlib.Numerals.{add-one}
use borrow.Author.Tests.{lt-ltb, le-ltb, eq-eqb, ne_eqb}
use lib.Dec.{ltb, eqb}
use Rattle.basics.proofs.Order.{le-or-lt}
use Rattle.basics.proofs.Options.{none-some}
use Rattle.paths.specs.Graph.{Graph}
use Rattle.paths.specs.Distance.{unreachable}
use Rattle.paths.specs.Route.{on_shortest, candidate, better, best}
use Rattle.paths.specs.Local.{entry}
use Rattle.paths.proofs.Choice.{Best, best-is, better-first, better-later}
use Rattle.neighbours.specs.Choice.{OffWay, follows_by}

-- ---- the best of the candidates

pub record BestScan (T : ℕ → ℕ) (c : ℕ → Option ℕ) (n k r x : ℕ) : Type 0 where
  pub within : k ≤ n
  pub highest : (i w : ℕ) → i < k → c i ≡ some w → T w ≤ x
  pub is : 0 < x → (best T c k ≡ some r) × (x ≡ T r)

best-more : (T : ℕ → ℕ) (c : ℕ → Option ℕ) (k : ℕ) → best T c (k + 1) ≡ better T (best T c k) (c k)
unfolding best
best-more T c k = rw add-one

better-none : (T : ℕ → ℕ) (o : Option ℕ) → better T o none ≡ o
unfolding better
better-none T none = refl
better-none T (some u) = refl

module _ {T : ℕ → ℕ} {c : ℕ → Option ℕ} {n : ℕ} where
  pub best-start : {r : ℕ} → BestScan T c n 0 r 0
  best-start = record {
    within = omega arith;
    highest = λ i w l e. absurd (omega arith);
    is = λ h. absurd (omega arith);
  }

  module _ {k r x : ℕ} (b : BestScan T c n k r x) (l : k < n) where
    -- Where no count of the first k candidates is above x ≤ y, and that of the next is not above y, none of the k + 1
    -- is above y.
    highest-more : (y : ℕ) → x ≤ y → ((w : ℕ) → c k ≡ some w → T w ≤ y)
        → (i w : ℕ) → i < k + 1 → c i ≡ some w → T w ≤ y
    highest-more y le here i w h e = ⊎_elim (λ lt. omega (arith, b.highest i w lt e))
        (λ ge. here w (subst (λ z. c z ≡ some w) (omega arith) e)) (le-or-lt (suc i) k)

    pub best-off : c k ≡ none → BestScan T c n (k + 1) r x
    best-off e = record {
      within = omega arith;
      highest = highest-more x (omega arith) (λ w q. none-some (sym e ∙ q));
      is = λ h. (best-more T c k ∙ rw e (better-none T (best T c k)) ∙ (b.is h).0, (b.is h).1);
    }

    module _ (w y : ℕ) (is : c k ≡ some w) (counts : y ≡ T w) where
      pub best-lower : y ≤ x → BestScan T c n (k + 1) r x
      best-lower le = record {
        within = omega arith;
        highest = highest-more x (omega arith) (λ u q. let s : u ≡ w = cc in rw s (omega arith));
        is = λ h.
            let p = b.is h in
            (best-more T c k ∙ rw (p.0, is) (better-first T c r w (omega arith)), p.1);
      }

      pub best-higher : x < y → BestScan T c n (k + 1) w y
      unfolding better
      best-higher lt = record {
        within = omega arith;
        highest = highest-more y (omega arith) (λ u q. let s : u ≡ w = cc in rw s (omega arith));
        is = λ h. (best-more T c k ∙ cases (best T c k) (λ u q. best-is T c k u q), counts);
      }
        where
          cases : (o : Option ℕ) → ((u : ℕ) → o ≡ some u → Best T c k u) → better T o (c k) ≡ some w
          cases none first = is
          cases (some u) first =
              let p = first u refl in
              rw is (better-later T c u w (omega (arith, b.highest p.place u p.below p.here)))

  -- At the end, where some candidate has a positive count.
  pub best-end : {k r x : ℕ} → BestScan T c n k r x → n ≤ k → (i w : ℕ) → i < n → c i ≡ some w → 0 < T w
      → best T c n ≡ some r
  best-end {k} {r} {x} b h i w l e pos =
      let same : k ≡ n = omega (arith, b.within) in
      rw same at (b.is (omega (arith, b.highest i w (omega arith) e))).0

-- ---- on the way, and candidates

module _ (D E : ℕ → ℕ) (b v : ℕ) where
  pub on_shortest-none : D b ≡ unreachable → false ≡ on_shortest D E b v
  unfolding on_shortest
  on_shortest-none e = rw (le-ltb (D b) unreachable (omega arith))

  pub on_shortest-sum : D b < unreachable → eqb (D v + E v) (D b) ≡ on_shortest D E b v
  unfolding on_shortest
  on_shortest-sum l = rw (lt-ltb (D b) unreachable l)

-- No vertex from i to before v is on the way, unless `any` says so.
abbrev pub OffScan : List ℕ → List ℕ → ℕ → ℕ → ℕ → Bool → Type 0
OffScan d e goal i v any = any ≡ false → OffWay d e goal i v

module _ (d e : List ℕ) (goal i : ℕ) where
  pub off-start : (any : Bool) → OffScan d e goal i i any
  off-start any z = record { at = λ v l h. absurd (omega arith) }

  pub off-more : {v : ℕ} {any : Bool} → OffScan d e goal i v any → (x y z : ℕ) → x ≡ entry d v → y ≡ entry e v
      → z ≡ entry d goal → OffScan d e goal i (v + 1) (any || eqb (x + y) z)
  unfolding on_shortest
  off-more {v} {any = true} s x y z p q r t = cc
  off-more {v} {any = false} s x y z p q r t = record {
    at = λ u l h. ⊎_elim (λ lt. (s refl).at u l lt)
        (λ ge.
        let same : v ≡ u = omega arith in
        let off : eqb (entry d v + entry e v) (entry d goal) ≡ false = rw (p, q, r) at t in
        subst (λ w. on_shortest (entry d) (entry e) goal w ≡ false) same
        (rw off (and-false (ltb (entry d goal) unreachable)))) (le-or-lt (suc u) v);
  }

module _ (on : ℕ → Bool) (D : ℕ → ℕ) (v w c : ℕ) where
  pub follows-not : (D w ≡ D v + c → ⊥) → false ≡ follows_by on D v w c
  unfolding follows_by
  follows-not ne = rw (ne_eqb (D w) (D v + c) ne) (sym (and-false (on w)))

  pub follows-adds-up : D w ≡ D v + c → on w ≡ follows_by on D v w c
  unfolding follows_by
  follows-adds-up e = rw (eq-eqb (D w) (D v + c) e) (sym (and-true (on w)))

module _ (g : Graph) (on : ℕ → Bool) (D : ℕ → ℕ) (v m : ℕ) where
  pub candidate-none : g.step m v ≡ none → candidate g on D v m ≡ none
  unfolding candidate
  candidate-none e = rw (e, candidate)

  module _ (w : ℕ) (goes : g.step m v ≡ some w) where
    pub candidate-off : follows_by on D v w (g.cost m) ≡ false → candidate g on D v m ≡ none
    unfolding candidate follows_by
    candidate-off e = rw (goes, candidate) (rw e)

    pub candidate-on : follows_by on D v w (g.cost m) ≡ true → candidate g on D v m ≡ some w
    unfolding candidate follows_by
    candidate-on e = rw (goes, candidate) (rw e)
