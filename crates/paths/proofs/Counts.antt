-- The numbers of cheapest walks meet equations between a vertex and its neighbours, and no other numbers meet them.
--
--   path_count-self == path_count g u u = 1
--   path_count-pos  == where a walk joins u to t, 0 < path_count g u t
--   path_count-to   == for u other than t, path_count g u t is the sum of path_count g w t over the moves from u to w
--                      with which a cheapest walk begins
--   path_count-from == for v other than a, path_count g a v = inflow g (distance g a) (path_count g a) v, the sum over
--                      the tight neighbours of v
--   counts-unique   == counts that meet the equations are the path counts from a
--   flow-out        == the product path_count g a u * path_count g u b is the sum over the moves by which a cheapest
--                      walk leaves u
--   flow-in         == the product path_count g a v * path_count g v b is the sum over the moves by which a cheapest
--                      walk comes to v
use Prim.Native.Nat.{ℕ, zero, suc, ◌+◌, ◌*◌, ◌≤◌, ◌<◌}
use mathlib.Core.Path.{◌≡◌, sym, ap, ◌∙◌}
use mathlib.Core.Logic.{⊎_elim}
use mathlib.Core.Option.{some}
use native.Mathlib.Omega.{arith}
use native.Mathlib.Nat.{zero-add, mul_comm}
use Rattle.basics.specs.Bounded.{sum}
use Rattle.basics.proofs.Order.{le-or-lt, eq-or-ne}
use Rattle.basics.proofs.Sums.{sum-cong}
use Rattle.paths.specs.Graph.{Graph, Lawful}
use Rattle.paths.specs.Walk.{go, less}
use Rattle.paths.specs.Distance.{unreachable, distance, path_count}
use Rattle.paths.specs.Local.{given, when-eq, inflow}
use Rattle.paths.proofs.Listing.{less-some, less-yes}
use Rattle.paths.proofs.Distance.{distance-walk, distance_least, distance_self}
use Rattle.paths.proofs.Neighbours.{given-cong, given-zero, when-yes, when-no, inflow-cong, inflow-costs}
use Rattle.paths.proofs.Neighbours.{inflow-mul}
use Rattle.paths.proofs.Counting.{count, along, count-step, count-walk, walk-count, count-zero, still_count-one}
use Rattle.paths.proofs.Counting.{still_count-off}
use Rattle.paths.proofs.Reverse.{distance-sym, path_count-sym}

module _ (g : Graph) (L : Lawful g) where
  pub path_count-self : (t : ℕ) → path_count g t t ≡ 1
  unfolding path_count count
  path_count-self t = rw (distance_self g L t) (count-zero g L.low t t ∙ still_count-one t)

  pub path_count-pos : (u t : ℕ) → distance g u t < unreachable → 1 ≤ path_count g u t
  unfolding path_count count
  path_count-pos u t h = walk-count g L.low (distance-walk g u t h)

  -- ---- to a fixed end

  -- A move that is not tight begins no cheapest walk.
  slack-none : (u t m w r : ℕ) → m < g.moves → g.step m u ≡ some w → distance g u t < unreachable
      → (distance g w t + g.cost m ≡ distance g u t → ⊥) → g.cost m + r ≡ distance g u t → count g r w t ≡ 0
  slack-none u t m w r lt st h ne e =
      ⊎_elim (λ z. omega arith) (λ p. absurd (ne (adds_up p))) (le-or-lt (count g r w t) 0)
    where
      adds_up : 0 < count g r w t → distance g w t + g.cost m ≡ distance g u t
      adds_up p =
          let c = L.low m lt in
          let a = distance_least g L (count-walk g r w t p) (omega arith) in
          let b = distance-walk g w t (omega arith) in
          let d = distance_least g L (_, go m w lt st b.1) (omega arith) in
          omega arith

  -- One term of the sum.
  term : (u t m w : ℕ) → m < g.moves → g.step m u ≡ some w → distance g u t < unreachable
      → given (less (distance g u t) (g.cost m)) (λ r. count g r w t)
      ≡ when-eq (distance g w t + g.cost m) (distance g u t) (path_count g w t)
  unfolding path_count count given
  term u t m w lt st h = ⊎_elim
      (λ (e : distance g w t + g.cost m ≡ distance g u t).
      rw (when-yes _ _ (path_count g w t) e, less-yes (distance g u t) (g.cost m) (distance g w t) (omega arith)))
      (λ ne. given-zero (less (distance g u t) (g.cost m)) (λ r. count g r w t) (λ r e.
      slack-none u t m w r lt st h ne (less-some (distance g u t) (g.cost m) r e))
      ∙ sym (when-no (distance g w t + g.cost m) (distance g u t) (path_count g w t) ne))
      (eq-or-ne (distance g w t + g.cost m) (distance g u t))

  pub path_count-to : (u t : ℕ) → (u ≡ t → ⊥) → distance g u t < unreachable
      → path_count g u t ≡ inflow g (λ w. distance g w t) (λ w. path_count g w t) u
  unfolding path_count inflow count along
  path_count-to u t ne h =
      count-step g L.low (distance g u t) u t
      ∙ ap (λ z. z + sum g.moves (along g (distance g u t) u (λ r w. count g r w t)))
      (still_count-off (distance g u t) u t ne)
      ∙ zero-add _
      ∙ sum-cong g.moves _ _ (λ m lt. given-cong (g.step m u) _ _ (λ w st. term u t m w lt st h))

  -- ---- from a fixed start

  pub path_count-from : (a v : ℕ) → a < g.size → v < g.size → (v ≡ a → ⊥) → distance g a v < unreachable
      → path_count g a v ≡ inflow g (distance g a) (path_count g a) v
  path_count-from a v i j ne h =
      path_count-sym g L a v i j
      ∙ path_count-to v a ne (rw (distance-sym g L v a j i) h)
      ∙ inflow-cong g (λ w. distance g w a) (λ w. path_count g w a) (path_count g a) v
      (λ m w lt st e. path_count-sym g L w a (L.inside m v w lt j st) i)
      ∙ inflow-costs g (λ w. distance g w a) (distance g a) (path_count g a) v (distance-sym g L v a j i)
      (λ m w lt st. distance-sym g L w a (L.inside m v w lt j st) i)

  -- The equations determine the counts on any vertices P that have, with each v, the tight neighbours of v.
  module _ (a : ℕ) (F : ℕ → ℕ) (P : ℕ → Type 0) (i : a < g.size) (one : F a ≡ 1)
      (reached : (v : ℕ) → P v → (v < g.size) × (distance g a v < unreachable))
      (closed : (v w m : ℕ) → P v → m < g.moves → g.step m v ≡ some w
      → distance g a w + g.cost m ≡ distance g a v → P w)
      (equation : (v : ℕ) → P v → (v ≡ a → ⊥) → F v ≡ inflow g (distance g a) F v) where
    unique-from : (v : ℕ) → P v → ((w : ℕ) → distance g a w < distance g a v → P w → F w ≡ path_count g a w)
        → F v ≡ path_count g a v
    unique-from v p below = ⊎_elim (λ e. rw e (one ∙ sym (path_count-self a))) (λ ne.
        equation v p ne
        ∙ inflow-cong g (distance g a) F (path_count g a) v (λ m w lt st e.
        below w (omega (arith, L.low m lt)) (closed v w m p lt st e))
        ∙ sym (path_count-from a v i (reached v p).0 ne (reached v p).1)) (eq-or-ne v a)

    unique-to : (n v : ℕ) → distance g a v ≤ n → P v → F v ≡ path_count g a v
    unique-to zero v le p = unique-from v p (λ w lt q. absurd (omega arith))
    unique-to (suc n) v le p = unique-from v p (λ w lt q. unique-to n w (omega arith) q)

    pub counts-unique : (v : ℕ) → P v → F v ≡ path_count g a v
    counts-unique v p = unique-to (distance g a v) v (omega arith) p

  -- ---- the flow of the cheapest walks through a vertex

  pub flow-out : (a b u : ℕ) → (u ≡ b → ⊥) → distance g u b < unreachable
      → path_count g a u * path_count g u b ≡ inflow g (λ w. distance g w b) (λ w. path_count g a u * path_count g w b) u
  flow-out a b u ne h =
      mul_comm (path_count g a u) (path_count g u b)
      ∙ ap (λ z. z * path_count g a u) (path_count-to u b ne h)
      ∙ inflow-mul g (λ w. distance g w b) (λ w. path_count g w b) u (path_count g a u)
      ∙ inflow-cong g (λ w. distance g w b) _ _ u (λ m w lt st e. mul_comm (path_count g w b) (path_count g a u))

  pub flow-in : (a b v : ℕ) → a < g.size → v < g.size → (v ≡ a → ⊥) → distance g a v < unreachable
      → path_count g a v * path_count g v b ≡ inflow g (distance g a) (λ w. path_count g a w * path_count g v b) v
  flow-in a b v i j ne h =
      ap (λ z. z * path_count g v b) (path_count-from a v i j ne h)
      ∙ inflow-mul g (distance g a) (path_count g a) v (path_count g v b)
