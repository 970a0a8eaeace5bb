-- One vertex more among the settled: the store of its cost and of its place in the order.
--
--   reached-le, reached-set   == `reached` counts at most every place, and one more after a first cost
--   last                      == a number below n + 1 is below n, or n
--   settled-le, key-low       == at most as many settled as vertices, so a key does not reach `unreachable`
--   grown-refl, grown-trans   == nothing stored, and stores one after the other
--   ready-more, grown-more    == the settled with vertex w at cost key
--   ready-past, grown-past    == `Ready` and `Grown` stay, with anything stored past the settled vertices
use Prim.Native.Nat.{ℕ, zero, suc, ◌+◌, ◌≤◌, ◌<◌}
use mathlib.Core.Path.{◌≡◌, refl, sym, ap, ◌∙◌, subst}
use mathlib.Core.Logic.{◌⊎◌, inl, inr, ⊎_elim}
use mathlib.Core.Bool.{Bool, true, false}
use mathlib.Core.List.{List, [], ◌∷◌}
use native.Mathlib.Omega.{arith}
use borrow.Author.Tests.{lt-ltb, le-ltb}
use lib.Dec.{ltb}
use lib.ListN.{length, set, length-set}
use lib.Seq.{get_or-set_same, get_or-set_other}
use Rattle.basics.specs.Bounded.{pick}
use Rattle.basics.proofs.Order.{le-or-lt, eq-or-ne}
use Rattle.basics.proofs.Bounded.{pick_yes, pick_no}
use Rattle.paths.specs.Graph.{Graph}
use Rattle.paths.specs.Walk.{HasWalk}
use Rattle.paths.specs.Distance.{unreachable}
use Rattle.paths.specs.Local.{entry}
use Rattle.workspace.specs.Regions.{Ordered}
use Rattle.distances.specs.Dijkstra.{reached, Settled, Ready, Grown}

one-or-none : (b : Bool) → pick b 1 0 ≤ 1
one-or-none true = omega arith
one-or-none false = omega arith

pub reached-le : (l : List ℕ) → reached l ≤ length l
unfolding reached
reached-le [] = omega arith
reached-le (x ∷ l) = omega (arith, reached-le l, one-or-none (ltb x unreachable))

pub reached-set : (l : List ℕ) (i x : ℕ) → i < length l → entry l i ≡ unreachable → x < unreachable
    → reached (set l i x) ≡ reached l + 1
unfolding reached
reached-set [] i x h e s = absurd (omega arith)
reached-set (y ∷ l) zero x h e s =
    let new = pick_yes {A = ℕ} (ltb x unreachable) 1 0 (lt-ltb x unreachable s) in
    let old = pick_no {A = ℕ} (ltb y unreachable) 1 0 (le-ltb y unreachable (omega arith)) in
    omega (arith, new, old)
reached-set (y ∷ l) (suc i) x h e s = omega (arith, reached-set l i x (omega arith) e s)

pub last : (j n : ℕ) → j < n + 1 → (j < n) ⊎ (j ≡ n)
last j n h = ⊎_elim (λ l. inl l) (λ l. inr (omega arith)) (le-or-lt (suc j) n)

pub settled-le : {g : Graph} {a n : ℕ} {d work : List ℕ} → Settled g a n d work → n ≤ g.size
settled-le {g} {a} {n} {d} S = omega (arith, reached-le d, S.d_len, S.counted)

pub key-low : {g : Graph} {a n key : ℕ} {d work : List ℕ} → Ready g a n key d work → key < unreachable
key-low R = omega (arith, R.small, settled-le R.settled, R.settled.few)

-- ---- stores in turn

pub grown-refl : (v n key : ℕ) (d work : List ℕ) → Grown v n n key d d work work
grown-refl v n key d work = record {
  more = omega arith;
  same_order = λ i h. refl;
  same_rest = λ i h. refl;
  same_cost = λ u h. refl;
  fresh = λ i h k. absurd (omega arith);
}

pub grown-trans : {v n r s key : ℕ} {d d' d'' work work' work'' : List ℕ} → key < unreachable
    → Grown v n r key d d' work work' → Grown v r s key d' d'' work' work'' → Grown v n s key d d'' work work''
grown-trans {v} {n} {r} {s} {key} {d} {d'} {d''} {work} {work'} {work''} low A B = record {
  more = omega (arith, A.more, B.more);
  same_order = λ i h. B.same_order i (omega (arith, A.more)) ∙ A.same_order i h;
  same_rest = λ i h. B.same_rest i h ∙ A.same_rest i h;
  same_cost = λ u h. B.same_cost u (omega (arith, A.same_cost u h)) ∙ A.same_cost u h;
  fresh = λ i h k. ⊎_elim
      (λ l.
      let given = A.fresh i h l in
      ap (entry d'') (B.same_order i l) ∙ B.same_cost (entry work' i) (omega arith) ∙ given)
      (λ l. B.fresh i (omega arith) k) (le-or-lt (suc i) r);
}

-- ---- a first cost for vertex w

module _ (g : Graph) (a n key w : ℕ) (d work : List ℕ) (R : Ready g a n key d work) (i : w < g.size)
    (bare : entry d w ≡ unreachable) where
  pub room : n < g.size
  room =
      let S = R.settled in
      let more = reached-set d w key (omega (arith, S.d_len)) bare (key-low R) in
      omega (arith, more, reached-le (set d w key), length-set d w key, S.d_len, S.counted)

  pub at-w : entry (set d w key) w ≡ key
  at-w = get_or-set_same d w key 0 (omega (arith, R.settled.d_len))

  off-w : (u : ℕ) → (u ≡ w → ⊥) → entry (set d w key) u ≡ entry d u
  off-w u ne = get_or-set_other d w u key 0 ne

  at_n : entry (set work n w) n ≡ w
  at_n = get_or-set_same work n w 0 (omega (arith, R.settled.work_len, room))

  off_n : (j : ℕ) → j < n → entry (set work n w) j ≡ entry work j
  off_n j h = get_or-set_other work n j w 0 (λ e. omega arith)

  old : (j : ℕ) → j < n → entry work j ≡ w → ⊥
  old j h e = omega (arith, R.settled.ordered.placed j h, ap (entry d) e, bare)

  cost-old : (j : ℕ) → j < n → entry (set d w key) (entry (set work n w) j) ≡ entry d (entry work j)
  cost-old j h = ap (entry (set d w key)) (off_n j h) ∙ off-w (entry work j) (old j h)

  place_at : (j : ℕ) → j ≡ n → entry (set work n w) j ≡ w
  place_at j e = ap (entry (set work n w)) e ∙ at_n

  cost-at : (j : ℕ) → j ≡ n → entry (set d w key) (entry (set work n w) j) ≡ key
  cost-at j e = ap (entry (set d w key)) (place_at j e) ∙ at-w

  ordered-more : Ordered g.size (n + 1) (entry (set d w key)) (entry (set work n w))
  ordered-more = let S = R.settled.ordered in record {
    inside = λ j h.
        ⊎_elim (λ l. omega (arith, off_n j l, S.inside j l)) (λ e. omega (arith, place_at j e)) (last j n h);
    placed = λ j h.
        ⊎_elim (λ l. omega (arith, cost-old j l, S.placed j l)) (λ e. omega (arith, cost-at j e, key-low R))
        (last j n h);
    found = λ u k h. ⊎_elim (λ e. (n, omega arith, at_n ∙ sym e))
        (λ ne. let r = S.found u k (omega (arith, off-w u ne)) in
        (r.0, omega (arith, r.1), off_n r.0 r.1 ∙ r.2)) (eq-or-ne u w);
    rising = λ j k le h. ⊎_elim
        (λ lk. omega (arith, cost-old k lk, cost-old j (omega arith), S.rising j k le lk))
        (λ ek. ⊎_elim (λ lj. omega (arith, cost-old j lj, cost-at k ek, R.under j lj))
        (λ ej. omega (arith, cost-at j ej, cost-at k ek)) (last j n (omega arith))) (last k n h);
  }

  pub grown-more : Grown g.size n (n + 1) key d (set d w key) work (set work n w)
  grown-more = record {
    more = omega arith;
    same_order = off_n;
    same_rest = λ j h. get_or-set_other work n j w 0 (λ e. omega (arith, room));
    same_cost = λ u h. off-w u (λ e. omega (arith, ap (entry d) e));
    fresh = λ j h k. cost-at j (omega arith);
  }

  module _ (J : HasWalk g key a w) where
    walked_more : (u : ℕ) → u < g.size → entry (set d w key) u < unreachable → HasWalk g (entry (set d w key) u) a u
    walked_more u k h = ⊎_elim
        (λ e. subst (λ z. HasWalk g (entry (set d w key) z) a z) (sym e) (subst (λ z. HasWalk g z a w) (sym at-w) J))
        (λ ne. subst (λ z. HasWalk g z a u) (sym (off-w u ne)) (R.settled.walked u k (omega (arith, off-w u ne))))
        (eq-or-ne u w)

    settled-more : Settled g a (n + 1) (set d w key) (set work n w)
    settled-more = let S = R.settled in record {
      few = S.few;
      source = S.source;
      d_len = length-set d w key ∙ S.d_len;
      work_len = length-set work n w ∙ S.work_len;
      counted = omega (arith, reached-set d w key (omega (arith, S.d_len)) bare (key-low R), S.counted);
      ordered = ordered-more;
      at_most = λ u k. ⊎_elim (λ e. omega (arith, ap (entry (set d w key)) e, at-w, key-low R))
          (λ ne. omega (arith, off-w u ne, S.at_most u k)) (eq-or-ne u w);
      walked = walked_more;
      start = off-w a (λ e. omega (arith, ap (entry d) e, S.start)) ∙ S.start;
      bounded = λ j h.
          ⊎_elim (λ l. omega (arith, cost-old j l, S.bounded j l)) (λ e. omega (arith, cost-at j e, R.small))
          (last j n h);
    }

    pub ready-more : Ready g a (n + 1) key (set d w key) (set work n w)
    ready-more = record {
      settled = settled-more;
      under = λ j h.
          ⊎_elim (λ l. omega (arith, cost-old j l, R.under j l)) (λ e. omega (arith, cost-at j e)) (last j n h);
      small = omega (arith, R.small);
    }

-- ---- anything stored past the settled

module _ {g : Graph} {a n key : ℕ} {d work : List ℕ} (R : Ready g a n key d work) (x : ℕ) where
  early : (j : ℕ) → j < n → entry (set work n x) j ≡ entry work j
  early j h = get_or-set_other work n j x 0 (λ e. omega arith)

  early-cost : (j : ℕ) → j < n → entry d (entry (set work n x) j) ≡ entry d (entry work j)
  early-cost j h = ap (entry d) (early j h)

  ordered-past : Ordered g.size n (entry d) (entry (set work n x))
  ordered-past = let O = R.settled.ordered in record {
    inside = λ j h. omega (arith, early j h, O.inside j h);
    placed = λ j h. omega (arith, early-cost j h, O.placed j h);
    found = λ u i h. let r = O.found u i h in (r.0, r.1, early r.0 r.1 ∙ r.2);
    rising = λ i j le h. omega (arith, early-cost i (omega arith), early-cost j h, O.rising i j le h);
  }

  pub ready-past : Ready g a n key d (set work n x)
  ready-past = let S = R.settled in record {
    settled = record {
      few = S.few;
      source = S.source;
      d_len = S.d_len;
      work_len = length-set work n x ∙ S.work_len;
      counted = S.counted;
      ordered = ordered-past;
      at_most = S.at_most;
      walked = S.walked;
      start = S.start;
      bounded = λ j h. omega (arith, early-cost j h, S.bounded j h);
    };
    under = λ j h. omega (arith, early-cost j h, R.under j h);
    small = R.small;
  }

  pub grown-past : Grown g.size n n key d d work (set work n x)
  grown-past = record {
    more = omega arith;
    same_order = early;
    same_rest = λ j h. get_or-set_other work n j x 0 (λ e. omega (arith, settled-le R.settled));
    same_cost = λ u h. refl;
    fresh = λ j h k. absurd (omega arith);
  }
