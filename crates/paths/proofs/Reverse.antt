-- Walks turned round: as many lead from u to t as from t to u, at each cost. The argument sums over the first move and
-- over the last in either order; walks of one move are turned round by the opposite move.
--
--   along-cong     == along g k u F m ≡ along g k u G m, where F r w ≡ G r w for the w and r of move m
--   count-last     == count g k u t by the last move, which is the opposite of a move from t
--   count-sym      == count g k u t ≡ count g k t u
--   distance-sym   == distance g u t ≡ distance g t u
--   path_count-sym == path_count g u t ≡ path_count g t u
use Prim.Native.Nat.{ℕ, zero, suc, ◌+◌, ◌-◌, ◌≤◌, ◌<◌}
use mathlib.Core.Path.{◌≡◌, refl, sym, ap, ap₂, ◌∙◌, fun_ext}
use mathlib.Core.Logic.{⊎_elim}
use mathlib.Core.Option.{Option, none, some}
use mathlib.Core.List.{List, [], ◌∷◌}
use native.Mathlib.Omega.{arith}
use lib.ListN.{length}
use Rattle.basics.specs.Bounded.{sum, seek}
use Rattle.basics.proofs.Order.{le-or-lt}
use Rattle.basics.proofs.Sums.{sum-cong, sum-add, sum-swap, sum_one, sum-pos}
use Rattle.paths.specs.Graph.{Graph, Lawful}
use Rattle.paths.specs.Walk.{less, walks}
use Rattle.paths.specs.Distance.{unreachable, nonempty, distance, path_count}
use Rattle.paths.specs.Local.{given}
use Rattle.paths.proofs.Listing.{less-some, less-yes, less-no}
use Rattle.paths.proofs.Neighbours.{given-cong, given-zero, given-pos, given-add, given-sum}
use Rattle.paths.proofs.Counting.{count, still_count, along, count-step, still_count-pos, still_count-one}
use Rattle.paths.proofs.Counting.{still_count-sym}

-- ---- two costs are taken off in either order

less-less : (k c c' : ℕ) (F : ℕ → ℕ) → given (less k c) (λ r. given (less r c') F) ≡ given (less k (c + c')) F
unfolding given
less-less k c c' F = ⊎_elim fits over (le-or-lt (c + c') k)
  where
    fits : c + c' ≤ k → given (less k c) (λ r. given (less r c') F) ≡ given (less k (c + c')) F
    fits h =
        let r = k - (c + c') in
        rw (
          less-yes k (c + c') r (omega arith),
          less-yes k c (k - c) (omega arith),
          less-yes (k - c) c' r (omega arith),
        )

    over : k < c + c' → given (less k c) (λ r. given (less r c') F) ≡ given (less k (c + c')) F
    over h =
        rw (less-no k (c + c') h)
        (given-zero (less k c) _ (λ r e. rw (less-no r c' (omega (arith, less-some k c r e)))))

less-comm : (k c c' : ℕ) (F : ℕ → ℕ)
    → given (less k c) (λ r. given (less r c') F) ≡ given (less k c') (λ r. given (less r c) F)
less-comm k c c' F = less-less k c c' F ∙ ap (λ x. given (less k x) F) (omega arith) ∙ sym (less-less k c' c F)

given_both : (o p : Option ℕ) (k c c' : ℕ) (H : ℕ → ℕ → ℕ → ℕ)
    → given o (λ w. given (less k c) (λ r. given p (λ x. given (less r c') (λ s. H s w x))))
    ≡ given p (λ x. given (less k c') (λ r. given o (λ w. given (less r c) (λ s. H s w x))))
unfolding given
given_both none none k c c' H = refl
given_both none (some x) k c c' H = sym (given-zero (less k c') _ (λ r e. refl))
given_both (some w) none k c c' H = given-zero (less k c) _ (λ r e. refl)
given_both (some w) (some x) k c c' H = less-comm k c c' (λ s. H s w x)

nonempty-length : {A : Type 0} (l l' : List A) → length l ≡ length l' → nonempty l ≡ nonempty l'
unfolding nonempty
nonempty-length [] [] e = refl
nonempty-length [] (y ∷ l') e = absurd (omega arith)
nonempty-length (x ∷ l) [] e = absurd (omega arith)
nonempty-length (x ∷ l) (y ∷ l') e = refl

module _ (g : Graph) (L : Lawful g) where
  -- ---- the walks of one move

  single : ℕ → ℕ → ℕ → ℕ
  single k u t = sum g.moves (along g k u (λ r w. still_count r w t))

  single-pos : (k u t m : ℕ) → 0 < along g k u (λ r w. still_count r w t) m → (g.step m u ≡ some t) × (g.cost m ≡ k)
  unfolding along
  single-pos k u t m h =
      let a = given-pos (g.step m u) _ h in
      let b = given-pos (less k (g.cost m)) _ a.2 in
      let c = still_count-pos b.0 a.0 t b.2 in
      (a.1 ∙ ap some c.1, omega (arith, c.0, less-some k (g.cost m) b.0 b.1))

  single-here : (k u t m : ℕ) → g.step m u ≡ some t → g.cost m ≡ k → along g k u (λ r w. still_count r w t) m ≡ 1
  unfolding along given
  single-here k u t m st e = rw (st, less-yes k (g.cost m) 0 (omega arith)) (still_count-one t)

  -- No two moves have the same ends (`distinct`), so that there is one such walk.
  single-one : (k u t m : ℕ) → u < g.size → m < g.moves → g.step m u ≡ some t → g.cost m ≡ k → single k u t ≡ 1
  unfolding single
  single-one k u t m i lt st e =
      sum_one g.moves m (along g k u (λ r w. still_count r w t)) lt
      (λ n l ne. ⊎_elim (λ z. omega arith) (λ p. absurd (ne (L.distinct n m u t l lt i (single-pos k u t n p).0 st)))
      (le-or-lt (along g k u (λ r w. still_count r w t) n) 0))
      ∙ single-here k u t m st e

  single-back : (k u t : ℕ) → u < g.size → t < g.size → 0 < single k u t → single k t u ≡ 1
  unfolding single
  single-back k u t i j h =
      let a = sum-pos g.moves (along g k u (λ r w. still_count r w t)) h in
      let b = single-pos k u t a.0 a.2 in
      single-one k t u (L.opposite a.0) j (L.opposite_listed a.0 a.1)
      (L.opposite_back a.0 u t a.1 i b.0) (L.opposite_cost a.0 a.1 ∙ b.1)

  single-sym : (k u t : ℕ) → u < g.size → t < g.size → single k u t ≡ single k t u
  single-sym k u t i j = ⊎_elim
      (λ z. ⊎_elim (λ y. omega arith) (λ p. absurd (omega (arith, single-back k t u j i p)))
      (le-or-lt (single k t u) 0))
      (λ p. let a = single-back k u t i j p in omega (arith, single-back k t u j i (omega arith)))
      (le-or-lt (single k u t) 0)

  -- ---- sums over a move

  pub along-cong : (k u m : ℕ) (F G : ℕ → ℕ → ℕ)
      → ((r w : ℕ) → g.step m u ≡ some w → g.cost m + r ≡ k → F r w ≡ G r w) → along g k u F m ≡ along g k u G m
  unfolding along
  along-cong k u m F G h =
      given-cong (g.step m u) _ _ (λ w st. given-cong (less k (g.cost m)) _ _ (λ r e.
      h r w st (less-some k (g.cost m) r e)))

  along-add : (k u m : ℕ) (E F : ℕ → ℕ → ℕ) → along g k u (λ r w. E r w + F r w) m ≡ along g k u E m + along g k u F m
  unfolding along
  along-add k u m E F =
      given-cong (g.step m u) _ _ (λ w st. given-add (less k (g.cost m)) (λ r. E r w) (λ r. F r w))
      ∙ given-add (g.step m u) _ _

  along-sum : (k u m n : ℕ) (F : ℕ → ℕ → ℕ → ℕ)
      → along g k u (λ r w. sum n (F r w)) m ≡ sum n (λ i. along g k u (λ r w. F r w i) m)
  unfolding along
  along-sum k u m n F =
      given-cong (g.step m u) _ _ (λ w st. given-sum (less k (g.cost m)) n (λ r. F r w))
      ∙ given-sum (g.step m u) n (λ w i. given (less k (g.cost m)) (λ r. F r w i))

  sum-split : (k u n : ℕ) (E : ℕ → ℕ → ℕ) (F : ℕ → ℕ → ℕ → ℕ)
      → sum g.moves (along g k u (λ r w. E r w + sum n (F r w)))
      ≡ sum g.moves (along g k u E) + sum g.moves (λ m. sum n (λ i. along g k u (λ r w. F r w i) m))
  sum-split k u n E F =
      sum-cong g.moves _ _ (λ m lt. along-add k u m E (λ r w. sum n (F r w))
      ∙ ap (λ x. along g k u E m + x) (along-sum k u m n F))
      ∙ sum-add g.moves (along g k u E) (λ m. sum n (λ i. along g k u (λ r w. F r w i) m))

  along-both : (k u t m n : ℕ) (H : ℕ → ℕ → ℕ → ℕ)
      → along g k u (λ r w. along g r t (λ s x. H s w x) n) m ≡ along g k t (λ r x. along g r u (λ s w. H s w x) m) n
  unfolding along
  along-both k u t m n H = given_both (g.step m u) (g.step n t) k (g.cost m) (g.cost n) H

  -- ---- the last move

  -- The walks of two moves and more, by their first move and their last, summed in either order.
  middle : ℕ → ℕ → ℕ → ℕ
  middle k u t = sum g.moves (λ m. sum g.moves (λ n. along g k u (λ r w. along g r t (λ s x. count g s w x) n) m))

  middle-turned : ℕ → ℕ → ℕ → ℕ
  middle-turned k u t =
      sum g.moves (λ n. sum g.moves (λ m. along g k t (λ r x. along g r u (λ s w. count g s w x) m) n))

  middle-swap : (k u t : ℕ) → middle k u t ≡ middle-turned k u t
  unfolding middle middle-turned
  middle-swap k u t =
      sum-swap g.moves g.moves (λ m n. along g k u (λ r w. along g r t (λ s x. count g s w x) n) m)
      ∙ sum-cong g.moves _ _ (λ n l. sum-cong g.moves _ _ (λ m l'. along-both k u t m n (λ s w x. count g s w x)))

  -- The number of walks by their last move: the right side of `count-last`.
  by_last : ℕ → ℕ → ℕ → ℕ
  by_last k u t = still_count k u t + sum g.moves (along g k t (λ r x. count g r u x))

  last-from : (k u t : ℕ) → u < g.size → t < g.size
      → ((r w : ℕ) → r < k → w < g.size → count g r w t ≡ by_last r w t) → count g k u t ≡ by_last k u t
  unfolding by_last single middle middle-turned
  last-from k u t i j below =
      let first : sum g.moves (along g k u (λ r w. count g r w t)) ≡ single k u t + middle k u t
      = sum-cong g.moves _ _ (λ m lt. along-cong k u m _ _ (λ r w st e.
      below r w (omega (arith, L.low m lt)) (L.inside m u w lt i st)))
      ∙ sum-split k u g.moves (λ r w. still_count r w t) (λ r w. along g r t (λ s x. count g s w x)) in
      let last : sum g.moves (along g k t (λ r x. count g r u x)) ≡ single k t u + middle-turned k u t
      = sum-cong g.moves _ _ (λ m lt. along-cong k t m _ _ (λ r x st e. count-step g L.low r u x
      ∙ ap (λ z. z + sum g.moves (along g r u (λ s w. count g s w x))) (still_count-sym r u x)))
      ∙ sum-split k t g.moves (λ r x. still_count r x u) (λ r x. along g r u (λ s w. count g s w x)) in
      omega (arith, count-step g L.low k u t, first, last, middle-swap k u t, single-sym k u t i j)

  last-to : (n k u t : ℕ) → k ≤ n → u < g.size → t < g.size → count g k u t ≡ by_last k u t
  last-to zero k u t le i j = last-from k u t i j (λ r w lt c. absurd (omega arith))
  last-to (suc n) k u t le i j = last-from k u t i j (λ r w lt c. last-to n r w t (omega arith) c j)

  pub count-last : (k u t : ℕ) → u < g.size → t < g.size
      → count g k u t ≡ still_count k u t + sum g.moves (along g k t (λ r x. count g r u x))
  unfolding by_last
  count-last k u t i j = last-to k k u t (omega arith) i j

  -- ---- both ways

  sym-from : (k u t : ℕ) → u < g.size → t < g.size → ((r x : ℕ) → r < k → x < g.size → count g r u x ≡ count g r x u)
      → count g k u t ≡ count g k t u
  sym-from k u t i j below =
      count-last k u t i j
      ∙ ap₂ ◌+◌ (still_count-sym k u t) (sum-cong g.moves _ _ (λ m lt. along-cong k t m _ _ (λ r x st e.
      below r x (omega (arith, L.low m lt)) (L.inside m t x lt j st))))
      ∙ sym (count-step g L.low k t u)

  sym-to : (n k u t : ℕ) → k ≤ n → u < g.size → t < g.size → count g k u t ≡ count g k t u
  sym-to zero k u t le i j = sym-from k u t i j (λ r x lt c. absurd (omega arith))
  sym-to (suc n) k u t le i j = sym-from k u t i j (λ r x lt c. sym-to n r u x (omega arith) i c)

  pub count-sym : (k u t : ℕ) → u < g.size → t < g.size → count g k u t ≡ count g k t u
  count-sym k u t i j = sym-to k k u t (omega arith) i j

  pub distance-sym : (u t : ℕ) → u < g.size → t < g.size → distance g u t ≡ distance g t u
  unfolding distance count
  distance-sym u t i j = ap (seek unreachable 0) (fun_ext (λ k. nonempty-length (walks g k u t) (walks g k t u) (by k)))
    where
      by : (k : ℕ) → length (walks g k u t) ≡ length (walks g k t u)
      by k = count-sym k u t i j

  pub path_count-sym : (u t : ℕ) → u < g.size → t < g.size → path_count g u t ≡ path_count g t u
  unfolding path_count count
  path_count-sym u t i j = rw (distance-sym u t i j) (count-sym (distance g t u) u t i j)
