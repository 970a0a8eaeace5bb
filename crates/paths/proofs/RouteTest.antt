-- The test `right_route` passes on the points that the rule follows from a to b, with zeros after them, and on nothing
-- else.
--
--   point-last, point-on, point-past == `right_point` at place i, where its point is b, where it is before b, and where
--                            i is past the points
--   route-true == a list that passes is the route from a with zeros after it, and n is the length of the route
--   true-route == the route from a with zeros after it, and its length, pass, where the rule arrives at b
use Prim.Native.Nat.{ℕ, zero, suc, ◌+◌, ◌≤◌, ◌<◌}
use mathlib.Core.Path.{◌≡◌, refl, sym, ap, ◌∙◌}
use mathlib.Core.Logic.{⊎_elim}
use mathlib.Core.Bool.{Bool, true, ◌&&◌}
use mathlib.Core.Option.{Option, some}
use mathlib.Core.List.{List, [], ◌∷◌, tail-eq_of_cons-eq, head-eq_of_cons-eq}
use native.Mathlib.Omega.{arith}
use borrow.Author.Tests.{eqb-true, eq-eqb, ne_eqb, leb-true, le-leb, ltb-true, lt-ltb, le-ltb}
use lib.Dec.{leb, ltb, eqb}
use lib.ListN.{length, get_or}
use lib.Seq.{ext_get_or}
use Rattle.basics.specs.Bounded.{pick}
use Rattle.basics.specs.Lists.{padded}
use Rattle.basics.proofs.Order.{le-or-lt, eq-or-ne}
use Rattle.basics.proofs.Bools.{and_intro, and_left, and_right}
use Rattle.basics.proofs.Bounded.{every-all, every-at, pick_yes, pick_no}
use Rattle.basics.proofs.Lists.{get_or-padded, get_or-padded-past, padded-of}
use Rattle.paths.specs.Route.{follow}
use Rattle.paths.specs.Local.{is-there, right_point, right_route, entry}
use Rattle.paths.proofs.Neighbours.{is-there-cases, is-there-at}
use Rattle.paths.proofs.Follow.{Arrives, end, on, follow-end, follow-on, follow-length, follow-inside}
use Rattle.paths.proofs.Follow.{arrives-begins, arrives-pos}

module _ (size : ℕ) (next : ℕ → Option ℕ) (b n : ℕ) (R : ℕ → ℕ) where
  -- ---- one place

  -- What the test says of a place among the points: it has b where it is the last, and else the next point follows.
  inner : ℕ → Bool
  inner i = pick (eqb (R i) b) (eqb (suc i) n) (ltb (suc i) n && is-there (next (R i)) (λ w. eqb w (R (suc i))))

  point-inner : (i : ℕ) → i < n → right_point size next b n R i ≡ true → inner i ≡ true
  unfolding right_point inner
  point-inner i l e =
      and_right (ltb (R i) size) _ (sym (pick_yes (ltb i n) _ _ (lt-ltb i n l)) ∙ e)

  inner-point : (i : ℕ) → i < n → R i < size → inner i ≡ true → right_point size next b n R i ≡ true
  unfolding right_point inner
  inner-point i l h e =
      pick_yes (ltb i n) _ _ (lt-ltb i n l)
      ∙ and_intro (ltb (R i) size) _ (lt-ltb (R i) size h) e

  pub point-inside : (i : ℕ) → i < n → right_point size next b n R i ≡ true → R i < size
  unfolding right_point
  point-inside i l e =
      ltb-true (R i) size
      (and_left (ltb (R i) size) _ (sym (pick_yes (ltb i n) _ _ (lt-ltb i n l)) ∙ e))

  pub point-last : (i : ℕ) → i < n → right_point size next b n R i ≡ true → R i ≡ b → suc i ≡ n
  unfolding inner
  point-last i l e q =
      eqb-true (suc i) n (sym (pick_yes (eqb (R i) b) _ _ (eq-eqb (R i) b q)) ∙ point-inner i l e)

  pub point-on : (i : ℕ) → i < n → right_point size next b n R i ≡ true → (R i ≡ b → ⊥)
      → (suc i < n) × (next (R i) ≡ some (R (suc i)))
  unfolding inner
  point-on i l e ne =
      let r = sym (pick_no (eqb (R i) b) (eqb (suc i) n) _ (ne_eqb (R i) b ne)) ∙ point-inner i l e in
      let s = is-there-cases (next (R i)) (λ w. eqb w (R (suc i))) (and_right (ltb (suc i) n) _ r) in
      (ltb-true (suc i) n (and_left (ltb (suc i) n) _ r), s.1 ∙ ap some (eqb-true s.0 (R (suc i)) s.2))

  pub point-past : (i : ℕ) → n ≤ i → right_point size next b n R i ≡ true → R i ≡ 0
  unfolding right_point
  point-past i l e = eqb-true (R i) 0 (sym (pick_no (ltb i n) _ (eqb (R i) 0) (le-ltb i n l)) ∙ e)

  last-point : (i : ℕ) → suc i ≡ n → R i < size → R i ≡ b → right_point size next b n R i ≡ true
  unfolding inner
  last-point i l h q =
      inner-point i (omega arith) h (pick_yes (eqb (R i) b) _ _ (eq-eqb (R i) b q) ∙ eq-eqb (suc i) n l)

  on-point : (i : ℕ) → suc i < n → R i < size → (R i ≡ b → ⊥) → next (R i) ≡ some (R (suc i))
      → right_point size next b n R i ≡ true
  unfolding inner
  on-point i l h ne e =
      inner-point i (omega arith) h
      (pick_no (eqb (R i) b) (eqb (suc i) n) _ (ne_eqb (R i) b ne)
      ∙ and_intro (ltb (suc i) n) _ (lt-ltb (suc i) n l)
      (is-there-at (next (R i)) _ (R (suc i)) e (eq-eqb (R (suc i)) (R (suc i)) refl)))

  past-point : (i : ℕ) → n ≤ i → R i ≡ 0 → right_point size next b n R i ≡ true
  unfolding right_point
  past-point i l e = pick_no (ltb i n) _ (eqb (R i) 0) (le-ltb i n l) ∙ eq-eqb (R i) 0 e

  -- ---- the points from place i on, k of them

  cut : ℕ → ℕ → List ℕ
  cut i zero = []
  cut i (suc k) = R i ∷ cut (suc i) k

  length_cut : (i k : ℕ) → length (cut i k) ≡ k
  unfolding cut
  length_cut i zero = refl
  length_cut i (suc k) = ap suc (length_cut (suc i) k)

  get_or-cut : (i k j : ℕ) → j < k → get_or (cut i k) j 0 ≡ R (i + j)
  unfolding cut
  get_or-cut i zero j l = absurd (omega arith)
  get_or-cut i (suc k) zero l = ap R (omega arith)
  get_or-cut i (suc k) (suc j) l = get_or-cut (suc i) k j (omega arith) ∙ ap R (omega arith)

  -- Points that pass the test are those that the rule follows.
  follow-cut : ((j : ℕ) → j < n → right_point size next b n R j ≡ true) → (k f i : ℕ) → i + suc k ≡ n → suc k ≤ f
      → follow next b f (R i) ≡ cut i (suc k)
  unfolding cut
  follow-cut all k zero i e le = absurd (omega arith)
  follow-cut all zero (suc f) i e le = ⊎_elim
      (λ q. follow-end next b f (R i) q)
      (λ ne. absurd (omega (arith, (point-on i (omega arith) (all i (omega arith)) ne).0))) (eq-or-ne (R i) b)
  follow-cut all (suc k) (suc f) i e le = ⊎_elim
      (λ q. absurd (omega (arith, point-last i (omega arith) (all i (omega arith)) q)))
      (λ ne. let p = point-on i (omega arith) (all i (omega arith)) ne in
      follow-on next b f (R i) (R (suc i)) ne p.1
      ∙ ap (λ l. R i ∷ l) (follow-cut all k f (suc i) (omega arith) (omega arith))) (eq-or-ne (R i) b)

  -- The points that the rule follows to b pass the test.
  module _ (inside : (i : ℕ) → i < n → R i < size) where
    first-point : (i k f v w : ℕ) → i + suc k ≡ n → (v ≡ b → ⊥) → next v ≡ some w → Arrives next b f w
        → R i ∷ cut (suc i) k ≡ v ∷ follow next b f w → right_point size next b n R i ≡ true
    unfolding cut
    first-point i zero f v w e ne q r c = absurd (omega (arith, arrives-pos r, ap length c))
    first-point i (suc k) f v w e ne q r c =
        let p : R i ≡ v = head-eq_of_cons-eq c in
        let s : R (suc i) ≡ w = head-eq_of_cons-eq (tail-eq_of_cons-eq c ∙ (arrives-begins r).1) in
        on-point i (omega arith) (inside i (omega arith)) (λ h. ne (sym p ∙ h)) (ap next p ∙ q ∙ ap some (sym s))

    cut-follow : {f v : ℕ} → Arrives next b f v → (i k : ℕ) → i + k ≡ n → cut i k ≡ follow next b f v
        → (j : ℕ) → i ≤ j → j < n → right_point size next b n R j ≡ true
    unfolding cut
    cut-follow r i zero e c j le lt = absurd (omega arith)
    cut-follow (end {f} {v} q) i (suc k) e c j le lt =
        let h = c ∙ follow-end next b f v q in
        let z : suc k ≡ 1 = sym (length_cut i (suc k)) ∙ ap length h in
        let s : j ≡ i = omega arith in
        rw s (last-point i (omega arith) (inside i (omega arith)) (head-eq_of_cons-eq h ∙ q))
    cut-follow (on {f} {v} w ne q r) i (suc k) e c j le lt =
        let h = c ∙ follow-on next b f v w ne q in
        ⊎_elim (λ s. rw s (first-point i k f v w e ne q r h))
        (λ d. cut-follow r (suc i) k (omega arith) (tail-eq_of_cons-eq h) j (omega arith) lt) (eq-or-ne j i)

-- ---- a list of points

-- The list r and the number n are the route from a by the rule.
pub record IsRoute (size : ℕ) (next : ℕ → Option ℕ) (a b n : ℕ) (r : List ℕ) : Type 0 where
  pub points : r ≡ padded size (follow next b size a)
  pub count : n ≡ length (follow next b size a)

module _ (size : ℕ) (next : ℕ → Option ℕ) (a b n : ℕ) (r : List ℕ) (shape : length r ≡ size) where
  pub route-true : right_route size next a b n (entry r) ≡ true → IsRoute size next a b n r
  unfolding right_route
  route-true e =
      let e1 = and_right (ltb 0 n) _ e in
      let e2 = and_right (leb n size) _ e1 in
      let pos = ltb-true 0 n (and_left (ltb 0 n) _ e) in
      let fits = leb-true n size (and_left (leb n size) _ e1) in
      let start = eqb-true (entry r 0) a (and_left (eqb (entry r 0) a) _ e2) in
      let all = every-at size (right_point size next b n (entry r)) (and_right (eqb (entry r 0) a) _ e2) in
      from n pos fits start all
    where
      from : (n : ℕ) → 0 < n → n ≤ size → entry r 0 ≡ a
          → ((i : ℕ) → i < size → right_point size next b n (entry r) i ≡ true) → IsRoute size next a b n r
      from zero pos fits start all = absurd (omega arith)
      from (suc k) pos fits start all =
          let n = suc k in
          let c : follow next b size a ≡ cut size next b n (entry r) 0 n
          = ap (follow next b size) (sym start)
          ∙ follow-cut size next b n (entry r) (λ j l. all j (omega arith)) k size 0 (omega arith) fits in
          let len : length (follow next b size a) ≡ n = ap length c ∙ length_cut size next b n (entry r) 0 n in
          record {
            points = padded-of size r (follow next b size a) shape (omega arith)
                (λ i l. sym (ap (λ s. get_or s i 0) c ∙ get_or-cut size next b n (entry r) 0 n i (omega arith)
                ∙ ap (entry r) (omega arith)))
                (λ i l h. point-past size next b n (entry r) i (omega arith) (all i h));
            count = sym len;
          }

  module _ (is : IsRoute size next a b n r) where
    abbrev points : List ℕ
    points = follow next b size a

    at : (i : ℕ) → i < n → entry r i ≡ get_or points i 0
    at i l = ap (λ s. get_or s i 0) is.points ∙ get_or-padded size i points (omega (arith, is.count))

    past : (i : ℕ) → n ≤ i → entry r i ≡ 0
    past i l = ap (λ s. get_or s i 0) is.points ∙ get_or-padded-past size i points (omega (arith, is.count))

    cut-points : cut size next b n (entry r) 0 n ≡ points
    cut-points =
        let len = length_cut size next b n (entry r) 0 n in
        ext_get_or 0 (cut size next b n (entry r) 0 n) points (len ∙ is.count) (λ i l.
        get_or-cut size next b n (entry r) 0 n i (omega arith) ∙ ap (entry r) (omega arith) ∙ at i (omega arith))

    pub true-route : a < size → ((v w : ℕ) → v < size → next v ≡ some w → w < size)
        → Arrives next b size a → right_route size next a b n (entry r) ≡ true
    unfolding right_route
    true-route in-a inside arrives =
        let pos : 0 < n = omega (arith, is.count, arrives-pos arrives) in
        let fits : n ≤ size = omega (arith, is.count, follow-length next b size a) in
        let within : (i : ℕ) → i < n → entry r i < size = λ i l. rw (at i l)
        (follow-inside next b size inside size a i in-a (omega (arith, is.count))) in
        and_intro (ltb 0 n) _ (lt-ltb 0 n pos)
        (and_intro (leb n size) _ (le-leb n size fits)
        (and_intro (eqb (entry r 0) a) _
        (eq-eqb (entry r 0) a (at 0 pos ∙ ap (λ s. get_or s 0 0) (arrives-begins arrives).1))
        (every-all size _ (λ i l. ⊎_elim
        (λ lt. cut-follow size next b n (entry r) within arrives 0 n (omega arith) cut-points i (omega arith) lt)
        (λ ge. past-point size next b n (entry r) i (omega arith) (past i (omega arith))) (le-or-lt (suc i) n)))))
