-- What thinning keeps of a joined list: the positions that `kept_positions` finds by its searches, in laws.
--
--   Next s n i j     == j is the position kept after i: i < j < n, i sees every position past it up to j, and not j +
--                       1, if that is below n
--   Seeing s n i last k == a search for that position is at k: i sees every position from i + 1 to `last`, which is k - 1
--   KeptLaws s n ps  == of n positions ps are kept: at least one (`some`) and at most n (`few`), from 0 (`starts`) to n
--                       - 1 (`ends`), rising (`rises`), and each sees the next (`sees`), which is `Next` after it
--                       (`next`)
--   kept_laws        == `KeptLaws` of the kept positions of a joined list
--   kept-only        == two lists with `KeptLaws` are equal
--   kept-chain       == the kept positions are the chain of `next_kept` from 0
use Prim.Native.Nat.{ℕ, zero, suc, ◌+◌, ◌-◌, ◌≤◌, ◌<◌, pred}
use mathlib.Core.Path.{◌≡◌, refl, sym, ap, ◌∙◌}
use mathlib.Core.Bool.{Bool, true, false, not}
use mathlib.Core.Logic.{⊎_elim}
use mathlib.Core.List.{List, [], ◌∷◌}
use native.Mathlib.Omega.{arith}
use native.Mathlib.Numerals.{add-one}
use borrow.Author.Tests.{ltb-true, ltb-false, not-true}
use lib.Dec.{ltb}
use lib.ListN.{length, get_or}
use lib.Seq.{ext_get_or}
use Rattle.basics.specs.Bounded.{pick, seek}
use Rattle.basics.proofs.Order.{le-or-lt, eq-or-ne}
use Rattle.basics.proofs.Bools.{true-or-false, not-both}
use Rattle.basics.proofs.Bounded.{seek-here, seek-past, seek-le, seek-ge, seek_found, seek-least}
use Rattle.floor.specs.Floor.{Floor}
use Rattle.thinning.specs.Thinning.{seen, next_kept, kept_from, kept_positions, joined_list}
use Rattle.thinning.proofs.Shapes.{joined-list, joined-sees}
use Rattle.thinning.specs.Known.{chain}

pub record Next (s : ℕ → ℕ → Bool) (n i j : ℕ) : Type 0 where
  pub after : i < j
  pub within : j < n
  pub seen_all : (k : ℕ) → i < k → k ≤ j → s i k ≡ true
  pub stops : suc j < n → s i (suc j) ≡ false

pub next-kept : (s : ℕ → ℕ → Bool) (n i : ℕ) → suc i < n → s i (suc i) ≡ true → Next s n i (next_kept s n i)
unfolding next_kept
next-kept s n i l e = from (seek (n - suc i) (suc i) unseen) refl
  where
    unseen : ℕ → Bool
    unseen k = not (s i k)

    from : (t : ℕ) → seek (n - suc i) (suc i) unseen ≡ t → Next s n i (pred t)
    from zero q = absurd (omega (arith, seek-ge (n - suc i) (suc i) unseen))
    from (suc j) q =
        let lo : i ≤ j = omega (arith, seek-ge (n - suc i) (suc i) unseen) in
        let hi : suc j ≤ n = omega (arith, seek-le (n - suc i) (suc i) unseen) in
        let found : suc j < n → s i (suc j) ≡ false =
        (λ b. not-true (s i (suc j)) (rw q at (seek_found (n - suc i) (suc i) unseen (omega arith)))) in
        record {
          after = ⊎_elim (λ eq. not-both (s i (suc j)) (cc) (found (omega arith))) (λ ne. omega arith) (eq-or-ne i j);
          within = hi;
          seen_all = λ k a b.
              let past : s i k ≡ false → suc j ≤ k =
              (λ x. rw q at (seek-least (n - suc i) (suc i) k unseen a (omega arith) (ap not x))) in
              ⊎_elim (λ y. y) (λ x. absurd (omega (arith, past x))) (true-or-false (s i k));
          stops = found;
        }

pub record Seeing (s : ℕ → ℕ → Bool) (n i last k : ℕ) : Type 0 where
  pub place : suc last ≡ k
  pub within : last < n
  pub same : next_kept s n i ≡ pred (seek (n - k) k (λ m. not (s i m)))

module _ (s : ℕ → ℕ → Bool) (n i : ℕ) where
  seeing-past : (k : ℕ) → k < n → s i k ≡ true
      → seek (n - k) k (λ m. not (s i m)) ≡ seek (n - suc k) (suc k) (λ m. not (s i m))
  seeing-past k l e =
      let d : n - k ≡ suc (n - suc k) = omega arith in
      rw d (seek-past (n - suc k) k (λ m. not (s i m)) (ap not e))

  pub seeing-first : suc i < n → s i (suc i) ≡ true → Seeing s n i (i + 1) (i + 2)
  unfolding next_kept
  seeing-first l e = record {
    place = omega arith;
    within = omega arith;
    same = let two : i + 2 ≡ suc (suc i) = omega arith in rw two (ap pred (seeing-past (suc i) l e));
  }

  module _ {last k : ℕ} (h : Seeing s n i last k) where
    pub seeing-more : k < n → s i k ≡ true → Seeing s n i k (k + 1)
    seeing-more l e = record {
      place = omega arith;
      within = l;
      same = rw add-one (h.same ∙ ap pred (seeing-past k l e));
    }

    pub seeing-stop : k < n → s i k ≡ false → last ≡ next_kept s n i
    seeing-stop l e =
        let d : n - k ≡ suc (n - suc k) = omega arith in
        let f : seek (n - k) k (λ m. not (s i m)) ≡ k =
        rw d (seek-here (n - suc k) k (λ m. not (s i m)) (ap not e)) in
        omega (arith, h.place, h.same, ap pred f)

    pub seeing-all : n ≤ k → last ≡ next_kept s n i
    unfolding seek
    seeing-all l =
        let d : n - k ≡ 0 = omega arith in
        let f : seek (n - k) k (λ m. not (s i m)) ≡ k = rw d in
        omega (arith, h.place, h.same, ap pred f)

pub record KeptLaws (s : ℕ → ℕ → Bool) (n : ℕ) (ps : List ℕ) : Type 0 where
  pub some : 1 ≤ length ps
  pub few : length ps ≤ n
  pub starts : get_or ps 0 0 ≡ 0
  pub ends : get_or ps (pred (length ps)) 0 ≡ pred n
  pub rises : (m : ℕ) → suc m < length ps → get_or ps m 0 < get_or ps (suc m) 0
  pub sees : (m : ℕ) → suc m < length ps → s (get_or ps m 0) (get_or ps (suc m) 0) ≡ true
  pub next : (m : ℕ) → suc m < length ps → Next s n (get_or ps m 0) (get_or ps (suc m) 0)
  pub inside : (m : ℕ) → m < length ps → get_or ps m 0 < n

-- `KeptLaws` of the kept positions from i on, as the recursion has them.
record From (s : ℕ → ℕ → Bool) (n i : ℕ) (ps : List ℕ) : Type 0 where
  some : 1 ≤ length ps
  few : i + length ps ≤ n
  starts : get_or ps 0 0 ≡ i
  ends : get_or ps (pred (length ps)) 0 ≡ pred n
  next : (m : ℕ) → suc m < length ps → Next s n (get_or ps m 0) (get_or ps (suc m) 0)

module _ (s : ℕ → ℕ → Bool) (n : ℕ) (joined : (i : ℕ) → suc i < n → s i (suc i) ≡ true) where
  from_one : (i : ℕ) → suc i ≡ n → From s n i (i ∷ [])
  from_one i e = record {
    some = omega arith;
    few = omega arith;
    starts = refl;
    ends = rw (sym e);
    next = λ m l. absurd (omega arith);
  }

  from_more : (i j : ℕ) (ps : List ℕ) → Next s n i j → From s n j ps → From s n i (i ∷ ps)
  from_more i j [] x h = absurd (omega (arith, h.some))
  from_more i j (p ∷ ps) x h = record {
    some = omega arith;
    few = omega (arith, h.few, x.after);
    starts = refl;
    ends = h.ends;
    next = later;
  }
    where
      later : (m : ℕ) → suc m < length (i ∷ p ∷ ps) → Next s n (get_or (i ∷ p ∷ ps) m 0) (get_or (i ∷ p ∷ ps) (suc m) 0)
      later zero l = rw h.starts x
      later (suc m) l = h.next m (omega arith)

  from-kept : (c i : ℕ) → i < n → n ≤ i + c → From s n i (kept_from s n c i)
  unfolding kept_from
  from-kept zero i l f = absurd (omega arith)
  from-kept (suc c) i l f = cases (from-kept c (next_kept s n i)) (ltb (suc i) n) refl
    where
      cases : (next_kept s n i < n → n ≤ next_kept s n i + c
          → From s n (next_kept s n i) (kept_from s n c (next_kept s n i)))
          → (b : Bool) → ltb (suc i) n ≡ b
          → From s n i (i ∷ elim b [ true ↦ kept_from s n c (next_kept s n i) | false ↦ [] ])
      cases rest true e =
          let more : suc i < n = ltb-true (suc i) n e in
          let x = next-kept s n i more (joined i more) in
          from_more i (next_kept s n i) (kept_from s n c (next_kept s n i)) x (rest x.within (omega (arith, x.after)))
      cases rest false e = from_one i (omega (arith, ltb-false (suc i) n e))

laws-from : (s : ℕ → ℕ → Bool) (n : ℕ) (ps : List ℕ) → 1 ≤ n → From s n 0 ps → KeptLaws s n ps
laws-from s n ps l h = record {
  some = h.some;
  few = omega (arith, h.few);
  starts = h.starts;
  ends = h.ends;
  rises = λ m k. (h.next m k).after;
  sees = λ m k. (h.next m k).seen_all (get_or ps (suc m) 0) (h.next m k).after (omega arith);
  next = h.next;
  inside = inside;
}
  where
    inside : (m : ℕ) → m < length ps → get_or ps m 0 < n
    inside zero k = rw h.starts l
    inside (suc m) k = (h.next m k).within

pub kept_laws : (f : Floor) (l : List ℕ) (n : ℕ) → joined_list f l n ≡ true → KeptLaws (seen f l) n (kept_positions f l n)
unfolding kept_positions
kept_laws f l n e =
    let j = joined-list f l n e in
    laws-from (seen f l) n (kept_from (seen f l) n n 0) j.some
    (from-kept (seen f l) n (joined-sees j) n 0 j.some (omega arith))

-- Of one point, position 0 is kept.
pub kept-one : (f : Floor) (l : List ℕ) → kept_positions f l 1 ≡ 0 ∷ []
unfolding kept_positions kept_from
kept-one f l = refl

-- No other positions have these laws: a reader who believes `KeptLaws` need not believe the recursion of
-- `kept_positions`.
next-only : {s : ℕ → ℕ → Bool} {n i j k : ℕ} → Next s n i j → Next s n i k → j ≤ k
next-only {s} {n} {i} {j} {k} p q = ⊎_elim (λ le. le) (λ lt. past lt) (le-or-lt j k)
  where
    past : k < j → j ≤ k
    past lt =
        not-both (s i (suc k)) (p.seen_all (suc k) (omega (arith, q.after)) lt) (q.stops (omega (arith, p.within)))

kept_at : {s : ℕ → ℕ → Bool} {n : ℕ} {ps qs : List ℕ} → KeptLaws s n ps → KeptLaws s n qs → (m : ℕ) → m < length ps
    → m < length qs → get_or ps m 0 ≡ get_or qs m 0
kept_at p q zero a b = p.starts ∙ sym q.starts
kept_at {s} {n} {ps} {qs} p q (suc m) a b =
    let e = kept_at p q m (omega arith) (omega arith) in
    let x : Next s n (get_or qs m 0) (get_or ps (suc m) 0) = rw e at (p.next m a) in
    let y : Next s n (get_or qs m 0) (get_or qs (suc m) 0) = q.next m b in
    omega (arith, next-only x y, next-only y x)

kept-long : {s : ℕ → ℕ → Bool} {n : ℕ} {ps qs : List ℕ} → KeptLaws s n ps → KeptLaws s n qs → length qs ≤ length ps
kept-long {s} {n} {ps} {qs} p q =
    ⊎_elim (λ le. le) (λ lt. past (pred (length ps)) refl lt) (le-or-lt (length qs) (length ps))
  where
    past : (m : ℕ) → pred (length ps) ≡ m → length ps < length qs → length qs ≤ length ps
    past m e lt =
        let a : m < length ps = omega (arith, p.some) in
        let b : suc m < length qs = omega (arith, p.some) in
        let last : get_or ps m 0 ≡ pred n = rw e at p.ends in
        absurd (omega (arith, kept_at p q m a (omega arith), q.rises m b, q.inside (suc m) b))

pub kept-only : {s : ℕ → ℕ → Bool} {n : ℕ} {ps qs : List ℕ} → KeptLaws s n ps → KeptLaws s n qs → ps ≡ qs
kept-only {s} {n} {ps} {qs} p q =
    ext_get_or 0 ps qs (omega (arith, kept-long p q, kept-long q p))
    (λ m a. kept_at p q m a (omega (arith, kept-long q p)))

from-chain : (s : ℕ → ℕ → Bool) (n c i : ℕ) → chain (next_kept s n) n c i ≡ kept_from s n c i
unfolding chain kept_from
from-chain s n zero i = refl
from-chain s n (suc c) i = cases (ltb (suc i) n) (from-chain s n c (next_kept s n i))
  where
    cases : (b : Bool) {l k : List ℕ} → l ≡ k → i ∷ pick b l [] ≡ i ∷ elim b [ true ↦ k | false ↦ [] ]
    cases true e = ap (λ q. i ∷ q) e
    cases false e = refl

pub kept-chain : (f : Floor) (l : List ℕ) (n : ℕ) → chain (next_kept (seen f l) n) n n 0 ≡ kept_positions f l n
unfolding kept_positions
kept-chain f l n = from-chain (seen f l) n n 0
