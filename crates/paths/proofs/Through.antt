-- The walks from a through v to b are among the walks from a to b. So where the total fits, every count and traversal
-- count on the way does.
--
--   count-through      == count g j a v * count g k v b ≤ count g (j + k) a b
--   path_count-through == on the way, path_count a v * path_count v b ≤ path_count a b
--   path_count-le-from == on the way, path_count a v ≤ path_count a b
--   path_count-le-to   == on the way, path_count v b ≤ path_count a b
use Prim.Native.Nat.{ℕ, zero, suc, ◌+◌, ◌-◌, ◌*◌, ◌≤◌, ◌<◌}
use mathlib.Core.Path.{◌≡◌, sym, subst}
use mathlib.Core.Logic.{⊎_elim}
use native.Mathlib.Omega.{arith}
use native.Mathlib.Nat.{mul-le-mul_left, mul-le-mul_right, zero-add}
use Rattle.basics.specs.Bounded.{sum}
use Rattle.basics.proofs.Order.{le-or-lt, eq-or-ne}
use Rattle.basics.proofs.Sums.{sum-le, sum-mul}
use Rattle.paths.specs.Graph.{Graph, Lawful}
use Rattle.paths.specs.Walk.{less}
use Rattle.paths.specs.Distance.{unreachable, distance, path_count}
use Rattle.paths.specs.Local.{given}
use Rattle.paths.proofs.Listing.{less-yes, less-no}
use Rattle.paths.proofs.Neighbours.{given-le, given-mul}
use Rattle.paths.proofs.Counting.{count, along, count-step, count-zero, still_count-one, still_count-off}
use Rattle.paths.proofs.Counting.{still_count-costs}
use Rattle.paths.proofs.Counts.{path_count-pos}

module _ (g : Graph) (L : Lawful g) where
  through-zero : (k u v t : ℕ) → count g 0 u v * count g k v t ≤ count g (0 + k) u t
  through-zero k u v t = ⊎_elim
      (λ e. subst (λ x. count g 0 x v * count g k v t ≤ count g (0 + k) x t) (sym e)
      (rw (zero-add k, count-zero g L.low v v, still_count-one v) (omega arith)))
      (λ ne. rw (count-zero g L.low u v, still_count-off 0 u v ne) (omega arith)) (eq-or-ne u v)

  through-move : (j k v t m w : ℕ) (X : ℕ) → ((r : ℕ) → g.cost m + r ≡ j → count g r w v * X ≤ count g (r + k) w t)
      → given (less j (g.cost m)) (λ r. count g r w v) * X ≤ given (less (j + k) (g.cost m)) (λ r. count g r w t)
  unfolding given
  through-move j k v t m w X below = ⊎_elim
      (λ le. let r = j - g.cost m in
      rw (less-yes j (g.cost m) r (omega arith), less-yes (j + k) (g.cost m) (r + k) (omega arith))
      (below r (omega arith)))
      (λ gt. rw (less-no j (g.cost m) gt) (omega arith)) (le-or-lt (g.cost m) j)

  through-from : (j k u v t : ℕ) → (j ≡ 0 → ⊥)
      → ((r w : ℕ) → r < j → count g r w v * count g k v t ≤ count g (r + k) w t)
      → count g j u v * count g k v t ≤ count g (j + k) u t
  unfolding along
  through-from j k u v t ne below =
      let X = count g k v t in
      let S = sum g.moves (along g j u (λ r w. count g r w v)) in
      let e : count g j u v ≡ S = omega (arith, count-step g L.low j u v, still_count-costs j u v ne) in
      let terms : sum g.moves (λ m. along g j u (λ r w. count g r w v) m * X)
      ≤ sum g.moves (along g (j + k) u (λ r w. count g r w t))
      = sum-le g.moves _ _ (λ m lt.
      rw (given-mul (g.step m u) X (λ w. given (less j (g.cost m)) (λ r. count g r w v)))
      (given-le (g.step m u) _ _ (λ w st. through-move j k v t m w X (λ r q.
      below r w (omega (arith, L.low m lt)))))) in
      rw e (omega (
        arith,
        sum-mul g.moves X (along g j u (λ r w. count g r w v)),
        terms,
        count-step g L.low (j + k) u t,
      ))

  through-to : (n j k u v t : ℕ) → j ≤ n → count g j u v * count g k v t ≤ count g (j + k) u t
  through-to zero j k u v t le = let e : j ≡ 0 = omega arith in rw e (through-zero k u v t)
  through-to (suc n) j k u v t le =
      ⊎_elim (λ e. rw e (through-zero k u v t))
      (λ ne. through-from j k u v t ne (λ r w l. through-to n r k w v t (omega arith))) (eq-or-ne j 0)

  pub count-through : (j k u v t : ℕ) → count g j u v * count g k v t ≤ count g (j + k) u t
  count-through j k u v t = through-to j j k u v t (omega arith)

  module _ (a b v : ℕ) (way : distance g a v + distance g v b ≡ distance g a b) where
    pub path_count-through : path_count g a v * path_count g v b ≤ path_count g a b
    unfolding path_count count
    path_count-through = rw (← way) (count-through (distance g a v) (distance g v b) a v b)

    module _ (reached : distance g a b < unreachable) where
      pub path_count-le-from : path_count g a v ≤ path_count g a b
      path_count-le-from =
          let p = path_count-pos g L v b (omega arith) in
          omega (arith, path_count-through, mul-le-mul_left {m = 1} {n = path_count g v b} (path_count g a v) p)

      pub path_count-le-to : path_count g v b ≤ path_count g a b
      path_count-le-to =
          let p = path_count-pos g L a v (omega arith) in
          omega (arith, path_count-through, mul-le-mul_right {m = 1} {n = path_count g a v} (path_count g v b) p)
