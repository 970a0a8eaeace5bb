-- One turn of the algorithm, and its end.
--
--   key_in, key-out       == the key of a place that is settled, and of one that is not
--   keyed                 == the keys can be worked out
--   key-most              == a key is at most `unreachable`
--   passed-same           == a position that stays
--   passed-next           == the position that moves on by one
--   Lowest ..             == position k has the least key
--   Keys ..               == the keys of the positions, as the code works them out
--   least-of              == the class whose key is at most every other is the `Lowest`
--   Turn ..               == what a turn of class k takes and leaves: the invariant again, and a lower measure
--   turn                  == the turn of the position with the least key is such a turn
--   least-again           == after a turn its key is still the least, for another class at the same place and cost
--   filled                == at the end every position has passed every settled vertex, so the costs are the distances
--   RunningOn ..          == `Running` on any graph, directions and source that the algorithm can run on: the loops'
--                            invariant
--   TurnOn ..             == `Turn` on each of these
--   turn_on, filled_on    == a turn and the end on each of these
--   turn_again            == after a turn of the third class, that of the fourth at the same place, on each of these
use Prim.Native.Nat.{ℕ, zero, suc, ◌+◌, ◌≤◌, ◌<◌}
use mathlib.Core.Path.{◌≡◌, sym, ap, ◌∙◌, subst}
use mathlib.Core.Logic.{⊎_elim}
use mathlib.Core.Option.{some}
use mathlib.Core.List.{List, [], ◌∷◌}
use native.Mathlib.Omega.{arith}
use borrow.Author.Tests.{lt-ltb, le-ltb}
use lib.Dec.{ltb}
use lib.ListN.{length, get_or, set, length-set}
use lib.Seq.{get_or-set_same, get_or-set_other}
use Rattle.basics.proofs.Order.{le-or-lt, eq-or-ne}
use Rattle.basics.proofs.Lists.{tabulate-of}
use Rattle.basics.proofs.Bounded.{pick_yes, pick_no}
use Rattle.moves.specs.declared.Directions.{Directions}
use Rattle.offsets.specs.declared.Class.{Class}
use Rattle.offsets.specs.Classes.{class_count, Member, CostClass, class_at}
use Rattle.paths.specs.Graph.{Graph}
use Rattle.paths.specs.Distance.{unreachable, distance}
use Rattle.paths.specs.Local.{entry}
use Rattle.paths.proofs.Costs.{walked-true}
use Rattle.workspace.proofs.Regions.{masked-kept}
use Rattle.distances.specs.Costs.{SettledCosts}
use Rattle.distances.specs.Dijkstra.{key_of, Keyed, Settled, Ready, Grown}
use Rattle.distances.specs.Dijkstra.{Relaxing, Relaxed, Placed, Running, Runnable, Begun, remaining}
use Rattle.distances.proofs.Store.{last, settled-le}

-- ---- keys

module _ (n p c : ℕ) (d work : List ℕ) where
  pub key_in : p < n → key_of n p c d work ≡ entry d (entry work p) + c
  unfolding key_of
  key_in h = pick_yes (ltb p n) (entry d (entry work p) + c) unreachable (lt-ltb p n h)

  pub key-out : n ≤ p → key_of n p c d work ≡ unreachable
  unfolding key_of
  key-out h = pick_no (ltb p n) (entry d (entry work p) + c) unreachable (le-ltb p n h)

pub keyed : {g : Graph} {a n : ℕ} {d work : List ℕ} → Settled g a n d work → Keyed n d work
keyed S = record {
  room = omega (arith, settled-le S, S.work_len);
  inside = λ i h. omega (arith, S.ordered.inside i h, S.d_len);
  small = λ i h. omega (arith, S.bounded i h, settled-le S, S.few);
}

pub key-most : (n p c : ℕ) (d work : List ℕ) → Keyed n d work → c ≤ 4095 → key_of n p c d work ≤ unreachable
key-most n p c d work K low = ⊎_elim (λ h. omega (arith, key_in n p c d work h, K.small p h))
    (λ h. omega (arith, key-out n p c d work (omega arith))) (le-or-lt (suc p) n)

-- ---- the positions

module _ {g : Graph} {a n s key : ℕ} {d d' work work' : List ℕ} (S : Settled g a n d work)
    (R : Ready g a s key d' work') (G : Grown g.size n s key d d' work work') where
  -- what stood before stands where it stood, at its cost
  stays : (i : ℕ) → i < n → entry d' (entry work' i) ≡ entry d (entry work i)
  stays i h = ap (entry d') (G.same_order i h) ∙ G.same_cost (entry work i) (S.ordered.placed i h)

  module _ {r : Directions} {c : Class} {p : ℕ} (c-low : c.cost ≤ 4095) (P : Placed g r n c p d work) where
    relaxed-on : 0 < c.cost → (i m w : ℕ) → i < p → Member r c m → m < g.moves → g.step m (entry work' i) ≡ some w
        → entry d' w ≤ entry d' (entry work' i) + c.cost
    relaxed-on f i m w h M lt st =
        let l : i < n = omega (arith, P.room f) in
        let was = P.relaxed f i m w h M lt (ap (λ z. g.step m z) (sym (G.same_order i l)) ∙ st) in
        let b = S.bounded i l in
        let v = S.few in
        let e = settled-le S in
        omega (arith, stays i l, G.same_cost w (omega arith))

    pub passed-same : key ≤ key_of n p c.cost d work → Placed g r s c p d' work'
    passed-same le = record {
      unused = P.unused;
      room = λ f. omega (arith, P.room f, G.more);
      relaxed = relaxed-on;
      pending = λ i h k. let u = R.under i h in ⊎_elim
          (λ l. omega (arith, stays p l, key_in n p c.cost d work l))
          (λ l. omega (arith, G.fresh p (omega arith) k)) (le-or-lt (suc p) n);
    }

    pub passed-next : p < n → key ≡ entry d (entry work p) + c.cost
        → ((m w : ℕ) → Member r c m → m < g.moves → g.step m (entry work p) ≡ some w → entry d' w ≤ key)
        → Placed g r s c (p + 1) d' work'
    passed-next lt is done = record {
      unused = λ z. omega (arith, P.unused z);
      room = λ f. omega (arith, G.more);
      relaxed = λ f i m w h M t st. ⊎_elim (λ q. relaxed-on f i m w q M t st)
          (λ q. let j : i < n = omega arith in
          let o : entry work' i ≡ entry work p = G.same_order i j ∙ ap (entry work) q in
          let low = done m w M t (ap (λ z. g.step m z) (sym o) ∙ st) in
          omega (arith, stays i j, ap (λ z. entry d (entry work z)) q)) (last i p h);
      pending = λ i h k.
          omega (arith, R.under i h, stays p lt, R.settled.ordered.rising p (p + 1) (omega arith) k);
    }

-- ---- the least key

pub record Lowest (n k key : ℕ) (l : List Class) (pos d work : List ℕ) : Type 0 where
  pub one : k < class_count
  pub is : key ≡ key_of n (get_or pos k 0) (class_at l k).cost d work
  pub least : (j : ℕ) → j < class_count → key ≤ key_of n (get_or pos j 0) (class_at l j).cost d work

-- The keys, as the code works them out; the last two classes have one.
pub record Keys (n k0 k1 k2 : ℕ) (l : List Class) (pos d work : List ℕ) : Type 0 where
  pub at_0 : k0 ≡ key_of n (get_or pos 0 0) (class_at l 0).cost d work
  pub at_1 : k1 ≡ key_of n (get_or pos 1 0) (class_at l 1).cost d work
  pub at_2 : k2 ≡ key_of n (get_or pos 2 0) (class_at l 2).cost d work
  pub at_3 : k2 ≡ key_of n (get_or pos 3 0) (class_at l 3).cost d work

module _ {n k0 k1 k2 key : ℕ} {l : List Class} {pos d work : List ℕ} (K : Keys n k0 k1 k2 l pos d work) where
  pub least-of : (k : ℕ) → k < class_count → key ≡ key_of n (get_or pos k 0) (class_at l k).cost d work
      → key ≤ k0 → key ≤ k1 → key ≤ k2 → Lowest n k key l pos d work
  least-of k h is l0 l1 l2 = record { one = h; is = is; least = each }
    where
      each : (j : ℕ) → j < class_count → key ≤ key_of n (get_or pos j 0) (class_at l j).cost d work
      each zero h = omega (arith, K.at_0)
      each (suc zero) h = omega (arith, K.at_1)
      each (suc (suc zero)) h = omega (arith, K.at_2)
      each (suc (suc (suc zero))) h = omega (arith, K.at_3)
      each (suc (suc (suc (suc j)))) h = absurd (omega arith)

-- ---- the measure

remaining-falls : (v : ℕ) (l : List ℕ) (k : ℕ) → k < length l → get_or l k 0 < v
    → remaining v (set l k (get_or l k 0 + 1)) < remaining v l
unfolding remaining
remaining-falls v [] k h s = absurd (omega arith)
remaining-falls v (x ∷ l) zero h s = omega arith
remaining-falls v (x ∷ l) (suc k) h s = omega (arith, remaining-falls v l k (omega arith) s)

-- ---- a turn

-- What a turn of class k needs, and what it leaves.
pub record Turn (g : Graph) (r : Directions) (shifts : List ℕ) (a n k key : ℕ) (l : List Class)
    (pos d₀ d work₀ work : List ℕ) : Type 0 where
  pub relaxing : Relaxing g r shifts (class_at l k) a (get_or pos k 0) key n d work
  pub small : get_or pos k 0 < 16384
  pub falls : remaining (length d₀) (set pos k (get_or pos k 0 + 1)) < remaining (length d₀) pos
  pub next : {s : ℕ} {d' work' : List ℕ}
      → Relaxed g r a (entry work (get_or pos k 0)) (class_at l k) key n s d d' work work'
      → Running g r a s l (set pos k (get_or pos k 0 + 1)) d' work₀ work'

module _ {g : Graph} {r : Directions} {shifts : List ℕ} {a n k key : ℕ} {l : List Class} {pos d₀ d work₀ work : List ℕ}
    (M : Runnable g r shifts l a d₀ work₀) (K : Running g r a n l pos d work₀ work) (T : Lowest n k key l pos d work)
  where
    module _ (low : key < unreachable) where
      abbrev p : ℕ
      p = get_or pos k 0

      abbrev c : Class
      c = class_at l k

      before-end : p < n
      before-end =
          ⊎_elim (λ h. h) (λ h. absurd (omega (arith, T.is, key-out n p c.cost d work (omega arith))))
          (le-or-lt (suc p) n)

      before-all : p < g.size
      before-all = omega (arith, before-end, settled-le K.settled)

      key-is : key ≡ entry d (entry work p) + c.cost
      key-is = T.is ∙ key_in n p c.cost d work before-end

      one-cost : CostClass r c
      one-cost = M.classes.each k T.one

      used : 0 < c.cost
      used = ⊎_elim (λ h. h)
          (λ h. absurd (omega (arith, before-all, (K.passed k T.one).unused (omega arith)))) (le-or-lt 1 c.cost)

      relaxing : Relaxing g r shifts c a p key n d work
      relaxing = let S = K.settled in let i = S.ordered.inside p before-end in record {
        lawful = M.lawful;
        masked = masked-kept M.masked K.rest;
        class = one-cost;
        used = used;
        ready = record {
          settled = S;
          under = λ i h. omega (arith, key-is, (K.passed k T.one).pending i h before-end);
          small = omega (arith, key-is, before-end, S.bounded p before-end, one-cost.high);
        };
        place = before-end;
        walk = record {
          inside = i;
          rest = entry d (entry work p);
          total = sym key-is;
          walk = S.walked (entry work p) i (S.ordered.placed p before-end);
        };
      }

      running-next : {s : ℕ} {d' work' : List ℕ} → length pos ≡ class_count
          → Relaxed g r a (entry work p) c key n s d d' work work'
          → Running g r a s l (set pos k (p + 1)) d' work₀ work'
      running-next {s} {d'} {work'} len P = record {
        settled = P.ready.settled;
        passed = λ j h. ⊎_elim
            (λ e. subst (λ z. Placed g r s (class_at l z) (get_or (set pos k (p + 1)) z 0) d' work') (sym e) moved)
            (λ e. subst (λ z. Placed g r s (class_at l j) z d' work') (sym (get_or-set_other pos k j (p + 1) 0 e))
            (stayed j h)) (eq-or-ne j k);
        rest = λ i h. P.grown.same_rest i h ∙ K.rest i h;
      }
        where
          moved : Placed g r s c (get_or (set pos k (p + 1)) k 0) d' work'
          moved = subst (λ z. Placed g r s c z d' work') (sym (get_or-set_same pos k (p + 1) 0 (omega (arith, T.one))))
              (passed-next K.settled P.ready P.grown one-cost.high (K.passed k T.one) before-end key-is
              P.relaxed)

          stayed : (j : ℕ) → j < class_count → Placed g r s (class_at l j) (get_or pos j 0) d' work'
          stayed j h =
              passed-same K.settled P.ready P.grown (M.classes.each j h).high (K.passed j h) (T.least j h)

      pub turn : length pos ≡ class_count → Turn g r shifts a n k key l pos d₀ d work₀ work
      turn len = record {
        relaxing = relaxing;
        small = omega (arith, before-all, K.settled.few);
        falls = remaining-falls (length d₀) pos k (omega (arith, T.one)) (omega (arith, before-all, M.d_len));
        next = running-next len;
      }

      -- ---- the same key again, for another class at the same place and cost

      module _ (len : length pos ≡ class_count) {s : ℕ} {d' work' : List ℕ}
          (P : Relaxed g r a (entry work p) c key n s d d' work work') where
        abbrev pos' : List ℕ
        pos' = set pos k (p + 1)

        key-later : (q c : ℕ) → key ≤ key_of n q c d work → key ≤ key_of s q c d' work'
        key-later q c le = ⊎_elim
            (λ (in-s : suc q ≤ s). ⊎_elim
            (λ (in-n : suc q ≤ n). omega (
              arith,
              key_in s q c d' work' in-s,
              key_in n q c d work in-n,
              stays K.settled P.ready P.grown q in-n,
            ))
            (λ (out : n < suc q). omega (arith, key_in s q c d' work' in-s, P.grown.fresh q (omega arith) in-s))
            (le-or-lt (suc q) n))
            (λ (out : s < suc q). omega (arith, key-out s q c d' work' (omega arith))) (le-or-lt (suc q) s)

        -- the key of the next place is no less
        key-next : key ≤ key_of n (p + 1) c.cost d work
        key-next = ⊎_elim
            (λ (in-n : suc (p + 1) ≤ n). omega (
              arith,
              key_in n (p + 1) c.cost d work in-n,
              key-is,
              K.settled.ordered.rising p (p + 1) (omega arith) in-n,
            ))
            (λ (out : n < suc (p + 1)). omega (arith, key-out n (p + 1) c.cost d work (omega arith)))
            (le-or-lt (suc (p + 1)) n)

        least-later : (j : ℕ) → j < class_count → key ≤ key_of s (get_or pos' j 0) (class_at l j).cost d' work'
        least-later j h = key-later (get_or pos' j 0) (class_at l j).cost (⊎_elim
            (λ (e : j ≡ k). rw (e, get_or-set_same pos k (p + 1) 0 (omega (arith, T.one))) key-next)
            (λ (e : j ≡ k → ⊥). rw (get_or-set_other pos k j (p + 1) 0 e) (T.least j h)) (eq-or-ne j k))

        pub least-again : (j : ℕ) → j < class_count → (j ≡ k → ⊥) → get_or pos j 0 ≡ p → (class_at l j).cost ≡ c.cost
            → Lowest s j key l pos' d' work'
        least-again j h ne here same = record {
          one = h;
          is =
              let q : get_or pos' j 0 ≡ p = get_or-set_other pos k j (p + 1) 0 ne ∙ here in
              rw (q, same) (omega (
                arith,
                key-is,
                stays K.settled P.ready P.grown p before-end,
                key_in s p c.cost d' work' (omega (arith, before-end, P.grown.more)),
              ));
          least = least-later;
        }

    -- ---- the end

    module _ (end : key ≡ unreachable) where
      all-passed : (j : ℕ) → j < class_count → n ≤ get_or pos j 0
      all-passed j h = ⊎_elim (λ le. le)
          (λ lt. let S = K.settled in let q = get_or pos j 0 in absurd (omega (
            arith,
            T.least j h,
            key_in n q (class_at l j).cost d work lt,
            S.bounded q lt,
            (M.classes.each j h).high,
            settled-le S,
            S.few,
          ))) (le-or-lt n (get_or pos j 0))

      relaxed-end : (m u w : ℕ) → m < g.moves → u < g.size → g.step m u ≡ some w
          → entry d w ≤ entry d u + g.cost m
      relaxed-end m u w lt i st = ⊎_elim
          (λ h. omega (arith, K.settled.at_most w (M.lawful.inside m u w lt i st)))
          (λ h.
          let at-u = (M.masked.shows u i).agrees in
          let lt' : m < r.count = omega (arith, at-u.moves) in
          let q = M.classes.covers m lt' in
          let cost : g.cost m ≡ (class_at l q.0).cost = sym (at-u.cost m lt') ∙ q.3 in
          let f = K.settled.ordered.found u i h in
          let past : f.0 < get_or pos q.0 0 = omega (arith, f.1, all-passed q.0 q.1) in
          let some-cost : 0 < (class_at l q.0).cost = omega (arith, M.lawful.low m lt) in
          let goes = ap (λ z. g.step m z) f.2 ∙ st in
          let x = (K.passed q.0 q.1).relaxed some-cost f.0 m w past q.2 lt goes in
          omega (arith, x, ap (entry d) f.2))
          (le-or-lt unreachable (entry d u))

      pub filled : SettledCosts g a n d work₀ work
      filled = let S = K.settled in record {
        costs = tabulate-of g.size d (distance g a) S.d_len
            (walked-true g M.lawful a S.source (entry d)
            (record { start = S.start; at_most = S.at_most; relaxed = relaxed-end }) S.walked);
        few = settled-le S;
        work_len = S.work_len;
        ordered = S.ordered;
        rest = K.rest;
      }

-- ---- on any graph, directions and source

abbrev pub RunningOn : (shifts : List ℕ) (n : ℕ) (l : List Class) (pos d₀ d work₀ work : List ℕ) → Type 0
RunningOn shifts n l pos d₀ d work₀ work =
    (g : Graph) (r : Directions) (a : ℕ) → Begun g r shifts l a d₀ work₀ → Running g r a n l pos d work₀ work

abbrev pub TurnOn : (shifts : List ℕ) (n k key : ℕ) (l : List Class) (pos d₀ d work₀ work : List ℕ) → Type 0
TurnOn shifts n k key l pos d₀ d work₀ work =
    (g : Graph) (r : Directions) (a : ℕ) → Begun g r shifts l a d₀ work₀
    → Turn g r shifts a n k key l pos d₀ d work₀ work

module _ {shifts : List ℕ} {n k key : ℕ} {l : List Class} {pos d₀ d work₀ work : List ℕ}
    (I : RunningOn shifts n l pos d₀ d work₀ work) (T : Lowest n k key l pos d work) where
  pub turn_on : key < unreachable → length pos ≡ class_count → TurnOn shifts n k key l pos d₀ d work₀ work
  turn_on low len g r a B = turn B.runs (I g r a B) T low len

  pub filled_on : key ≡ unreachable → (g : Graph) (r : Directions) (a : ℕ) → Begun g r shifts l a d₀ work₀
      → SettledCosts g a n d work₀ work
  filled_on end g r a B = filled B.runs (I g r a B) T end

-- What a turn of the third class leaves, wherever it can be made.
module _ {shifts : List ℕ} {n key : ℕ} {l : List Class} {pos d₀ d work₀ work : List ℕ}
    (I : RunningOn shifts n l pos d₀ d work₀ work) (T : Lowest n 2 key l pos d work) (low : key < unreachable)
    (len : length pos ≡ class_count) (one : get_or pos 3 0 ≡ get_or pos 2 0) {s : ℕ} {d' work' : List ℕ}
    (P : (g : Graph) (r : Directions) (a : ℕ) → Relaxing g r shifts (class_at l 2) a (get_or pos 2 0) key n d work
    → Relaxed g r a (entry work (get_or pos 2 0)) (class_at l 2) key n s d d' work work') where
  pub turn_again : TurnOn shifts s 3 key l (set pos 2 (get_or pos 2 0 + 1)) d₀ d' work₀ work'
  turn_again g r a B =
      let M = B.runs in
      let K = I g r a B in
      let first = turn M K T low len in
      let R = P g r a first.relaxing in
      turn M (first.next R)
      (least-again M K T low len R 3 (omega arith) (λ e. omega arith) one (sym M.classes.paired)) low
      (length-set pos 2 (get_or pos 2 0 + 1) ∙ len)
