-- The choice of the next vertex: the candidate with the highest count, and of equals the first in move order.
--
--   Candidate g on D v m w == w is the far end of the open move m from v, on the way, with D w = D v + the cost of m
--   candidate-cases, candidate-at == `candidate g on D v m` is w exactly where w is a `Candidate`
--   Best T c n w           == w is one of the candidates c 0, .. c (n - 1), none of them has a higher count, and each
--                             before it a lower one
--   best-exact             == `best T c n` is w exactly where `Best T c n w`
--   best_none              == where `best T c n` is none, so is each of c 0, .. c (n - 1)
--   next_vertex-exact      == `next_vertex g on D T v` is w exactly where w is the `Best` of the candidates of v
--   candidate-same, next-same == `candidate` and `next_vertex` are the same by functions that agree at every vertex,
--                        such as lists of the true numbers
use Prim.Native.Nat.{ℕ, zero, suc, ◌+◌, ◌≤◌, ◌<◌}
use mathlib.Core.Path.{◌≡◌, refl, sym, ap, ap₂, ◌∙◌, subst}
use mathlib.Core.Logic.{⊎_elim, ◌↔◌}
use mathlib.Core.Bool.{Bool, true, false, ◌&&◌, true≢false}
use mathlib.Core.Option.{Option, none, some}
use native.Mathlib.Omega.{arith}
use borrow.Author.Tests.{eqb-true, eq-eqb, lt-ltb, le-ltb}
use lib.Dec.{ltb, eqb}
use Rattle.basics.proofs.Order.{le-or-lt, eq-or-ne}
use Rattle.basics.proofs.Bools.{and_both}
use Rattle.basics.proofs.Options.{none-some}
use Rattle.paths.specs.Graph.{Graph, Lawful}
use Rattle.paths.specs.Route.{candidate, better, best, next_vertex}

-- ---- candidates

pub record Candidate (g : Graph) (on : ℕ → Bool) (D : ℕ → ℕ) (v m w : ℕ) : Type 0 where
  pub goes : g.step m v ≡ some w
  pub is_on_way : on w ≡ true
  pub adds_up : D w ≡ D v + g.cost m

module _ (g : Graph) (on : ℕ → Bool) (D : ℕ → ℕ) (v m w : ℕ) where
  pub candidate-cases : candidate g on D v m ≡ some w → Candidate g on D v m w
  unfolding candidate
  candidate-cases e = cases (g.step m v) refl e
    where
      tested : (b : Bool) (x : ℕ) → ◌≡◌ {A = Option ℕ} (elim b [ true ↦ some x | false ↦ none ]) (some w)
          → (b ≡ true) × (x ≡ w)
      tested true x h = (refl, cc)
      tested false x h = none-some h

      cases : (o : Option ℕ) → g.step m v ≡ o
          → ◌≡◌ {A = Option ℕ}
          (elim o [
            | none ↦ none
            | some w ↦ elim (on w && eqb (D w) (D v + g.cost m)) [ true ↦ some w | false ↦ none ]
          ])
          (some w)
          → Candidate g on D v m w
      cases none s h = none-some h
      cases (some x) s h =
          let r = tested (on x && eqb (D x) (D v + g.cost m)) x h in
          let t = and_both (on x) _ r.0 in
          record {
            goes = s ∙ ap some r.1;
            is_on_way = ap on (sym r.1) ∙ t.0;
            adds_up = ap D (sym r.1) ∙ eqb-true (D x) (D v + g.cost m) t.1;
          }

  pub candidate-at : Candidate g on D v m w → candidate g on D v m ≡ some w
  unfolding candidate
  candidate-at c = rw (c.goes, c.is_on_way, eq-eqb (D w) (D v + g.cost m) c.adds_up, candidate)

-- ---- the best of them

-- The two outcomes of a test between candidates.
test-yes : (b : Bool) (x y : Option ℕ) → b ≡ true → ◌≡◌ {A = Option ℕ} (elim b [ true ↦ x | false ↦ y ]) x
test-yes true x y e = refl
test-yes false x y e = absurd (true≢false (sym e))

test-no : (b : Bool) (x y : Option ℕ) → b ≡ false → ◌≡◌ {A = Option ℕ} (elim b [ true ↦ x | false ↦ y ]) y
test-no true x y e = absurd (true≢false e)
test-no false x y e = refl

pub record Best (T : ℕ → ℕ) (c : ℕ → Option ℕ) (n w : ℕ) : Type 0 where
  pub place : ℕ
  pub below : place < n
  pub here : c place ≡ some w
  pub highest : (i x : ℕ) → i < n → c i ≡ some x → T x ≤ T w
  pub first : (i x : ℕ) → i < place → c i ≡ some x → T x < T w

module _ (T : ℕ → ℕ) (c : ℕ → Option ℕ) where
  -- With one candidate more the best stays, where that one is no better; or that one is the best, where it is better.
  best-keep : (n w : ℕ) → Best T c n w → ((x : ℕ) → c n ≡ some x → T x ≤ T w) → Best T c (suc n) w
  best-keep n w r h = record {
    place = r.place;
    below = omega (arith, r.below);
    here = r.here;
    highest = λ i x l e. ⊎_elim (λ lt. r.highest i x lt e)
        (λ ge. h x (subst (λ k. c k ≡ some x) (omega arith) e)) (le-or-lt (suc i) n);
    first = r.first;
  }

  best-take : (n w : ℕ) → c n ≡ some w → ((i x : ℕ) → i < n → c i ≡ some x → T x < T w) → Best T c (suc n) w
  best-take n w e h = record {
    place = n;
    below = omega arith;
    here = e;
    highest = λ i x l q. ⊎_elim (λ lt. omega (arith, h i x lt q))
        (λ (ge : n < suc i). let p : c n ≡ some x = subst (λ k. c k ≡ some x) (omega arith) q in
        let s : x ≡ w = cc in rw s (omega arith)) (le-or-lt (suc i) n);
    first = h;
  }

  -- Of two candidates: the first where it has as high a count, else the second.
  pub better-first : (u w : ℕ) → T w ≤ T u → better T (some u) (some w) ≡ some u
  unfolding better
  better-first u w h = test-no (ltb (T u) (T w)) (some w) (some u) (le-ltb (T u) (T w) h)

  pub better-later : (u w : ℕ) → T u < T w → better T (some u) (some w) ≡ some w
  unfolding better
  better-later u w h = test-yes (ltb (T u) (T w)) (some w) (some u) (lt-ltb (T u) (T w) h)

  better-none : (o p : Option ℕ) → better T o p ≡ none → (o ≡ none) × (p ≡ none)
  unfolding better
  better-none none p e = (refl, e)
  better-none (some u) none e = none-some (sym e)
  better-none (some u) (some x) e = ⊎_elim
      (λ le. none-some (sym e ∙ better-first u x le)) (λ lt. none-some (sym e ∙ better-later u x lt))
      (le-or-lt (T x) (T u))

  pub best_none : (n : ℕ) → best T c n ≡ none → (i : ℕ) → i < n → c i ≡ none
  unfolding best
  best_none zero e i l = absurd (omega arith)
  best_none (suc n) e i l =
      let r = better-none (best T c n) (c n) e in
      ⊎_elim (λ lt. best_none n r.0 i lt) (λ ge. subst (λ k. c k ≡ none) (omega arith) r.1) (le-or-lt (suc i) n)

  best-step : (n w : ℕ) (o p : Option ℕ) → best T c n ≡ o → c n ≡ p → better T o p ≡ some w
      → ((u : ℕ) → o ≡ some u → Best T c n u) → Best T c (suc n) w
  unfolding better
  best-step n w none p s q e below =
      best-take n w (q ∙ e) (λ i x l h. none-some (sym (best_none n s i l) ∙ h))
  best-step n w (some u) none s q e below = best-keep n w (below w e) (λ x h. none-some (sym q ∙ h))
  best-step n w (some u) (some x) s q e below = ⊎_elim kept taken (le-or-lt (T x) (T u))
    where
      kept : T x ≤ T u → Best T c (suc n) w
      kept le =
          let h = sym (better-first u x le) ∙ e in
          let z : u ≡ w = cc in
          best-keep n w (below w h) (λ y j. let k : y ≡ x = cc in rw k (rw z at le))

      taken : T u < T x → Best T c (suc n) w
      taken lt =
          let h = sym (better-later u x lt) ∙ e in
          let z : x ≡ w = cc in
          let l : T u < T w = rw z at lt in
          best-take n w (q ∙ h) (λ i y k j. omega (arith, (below u refl).highest i y k j))

  pub best-is : (n w : ℕ) → best T c n ≡ some w → Best T c n w
  unfolding best
  best-is zero w e = none-some e
  best-is (suc n) w e = best-step n w (best T c n) (c n) refl refl e (λ u h. best-is n u h)

  pub best-some : (n i w : ℕ) → i < n → c i ≡ some w → (x : ℕ) × (best T c n ≡ some x)
  best-some n i w l e = cases (best T c n) refl
    where
      cases : (o : Option ℕ) → best T c n ≡ o → (x : ℕ) × (o ≡ some x)
      cases none h = none-some (sym (best_none n h i l) ∙ e)
      cases (some x) h = (x, refl)

  best-one : (n w x : ℕ) → Best T c n w → Best T c n x → x ≡ w
  best-one n w x r s = ⊎_elim
      (λ e. let p : c r.place ≡ some x = rw e s.here in let q = r.here in cc)
      (λ ne. ⊎_elim
      (λ lt. absurd (omega (arith, s.first r.place w lt r.here, r.highest s.place x s.below s.here)))
      (λ ge. absurd (omega (
        arith,
        r.first s.place x (omega arith) s.here,
        s.highest r.place w r.below r.here,
      ))) (le-or-lt (suc r.place) s.place))
      (eq-or-ne r.place s.place)

  pub best-at : (n w : ℕ) → Best T c n w → best T c n ≡ some w
  best-at n w r =
      let s = best-some n r.place w r.below r.here in
      s.1 ∙ ap some (best-one n w s.0 r (best-is n s.0 s.1))

  pub best-exact : (n w : ℕ) → (best T c n ≡ some w) ↔ Best T c n w
  best-exact n w = (best-is n w, best-at n w)

-- ---- the next vertex

pub next_vertex-exact : (g : Graph) (on : ℕ → Bool) (D T : ℕ → ℕ) (v w : ℕ)
    → (next_vertex g on D T v ≡ some w) ↔ Best T (candidate g on D v) g.moves w
unfolding next_vertex
next_vertex-exact g on D T v w = best-exact T (candidate g on D v) g.moves w

pub record Next (g : Graph) (on : ℕ → Bool) (D : ℕ → ℕ) (v w : ℕ) : Type 0 where
  pub move : ℕ
  pub below : move < g.moves
  pub by : Candidate g on D v move w

-- The next vertex is a candidate.
pub next-cases : (g : Graph) (on : ℕ → Bool) (D T : ℕ → ℕ) (v w : ℕ) → next_vertex g on D T v ≡ some w → Next g on D v w
next-cases g on D T v w e =
    let r = (next_vertex-exact g on D T v w).0 e in
    record { move = r.place; below = r.below; by = candidate-cases g on D v r.place w r.here }

pub next_inside : (g : Graph) → Lawful g → (on : ℕ → Bool) (D T : ℕ → ℕ) (v w : ℕ) → v < g.size
    → next_vertex g on D T v ≡ some w → w < g.size
next_inside g L on D T v w i e =
    let r = next-cases g on D T v w e in L.inside r.move v w r.below i r.by.goes

-- ---- the choice reads its tests and counts at vertices alone

module _ (g : Graph) (L : Lawful g) (on on' : ℕ → Bool) (D D' : ℕ → ℕ)
    (same-on : (v : ℕ) → v < g.size → on v ≡ on' v) (same-D : (v : ℕ) → v < g.size → D v ≡ D' v) where
  pub candidate-same : (v m : ℕ) → v < g.size → m < g.moves → candidate g on D v m ≡ candidate g on' D' v m
  unfolding candidate
  candidate-same v m i lt = cases (g.step m v) (λ w st. L.inside m v w lt i st)
    where
      cases : (o : Option ℕ) → ((w : ℕ) → o ≡ some w → w < g.size)
          → ◌≡◌ {A = Option ℕ}
          (elim o [
            | none ↦ none
            | some w ↦ elim (on w && eqb (D w) (D v + g.cost m)) [ true ↦ some w | false ↦ none ]
          ])
          (elim o [
            | none ↦ none
            | some w ↦ elim (on' w && eqb (D' w) (D' v + g.cost m)) [ true ↦ some w | false ↦ none ]
          ])
      cases none h = refl
      cases (some w) h = rw (same-on w (h w refl), same-D w (h w refl), same-D v i)

module _ (g : Graph) (L : Lawful g) (on on' : ℕ → Bool) (D D' T T' : ℕ → ℕ)
    (same-on : (v : ℕ) → v < g.size → on v ≡ on' v) (same-D : (v : ℕ) → v < g.size → D v ≡ D' v)
    (same-T : (v : ℕ) → v < g.size → T v ≡ T' v) where
  better-same : (o p : Option ℕ) → ((w : ℕ) → o ≡ some w → w < g.size) → ((w : ℕ) → p ≡ some w → w < g.size)
      → better T o p ≡ better T' o p
  unfolding better
  better-same none p h k = refl
  better-same (some u) none h k = refl
  better-same (some u) (some w) h k = rw (same-T u (h u refl), same-T w (k w refl), better)

  inside-at : (v m w : ℕ) → v < g.size → m < g.moves → candidate g on' D' v m ≡ some w → w < g.size
  inside-at v m w i lt e = L.inside m v w lt i (candidate-cases g on' D' v m w e).goes

  best-same : (v n : ℕ) → v < g.size → n ≤ g.moves
      → best T (candidate g on D v) n ≡ best T' (candidate g on' D' v) n
  unfolding best
  best-same v zero i le = refl
  best-same v (suc n) i le =
      ap₂ (better T) (best-same v n i (omega arith))
      (candidate-same g L on on' D D' same-on same-D v n i (omega arith))
      ∙ better-same (best T' (candidate g on' D' v) n) (candidate g on' D' v n)
      (λ w e. let r = best-is T' (candidate g on' D' v) n w e in
      inside-at v r.place w i (omega (arith, r.below)) r.here)
      (λ w e. inside-at v n w i (omega arith) e)

  pub next-same : (v : ℕ) → v < g.size → next_vertex g on D T v ≡ next_vertex g on' D' T' v
  unfolding next_vertex
  next-same v i = best-same v g.moves i (omega arith)
