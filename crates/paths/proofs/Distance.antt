-- The distance is the cost of a walk, and no walk costs less. Two walks joined; a walk without its last move.
--
--   distance-walk    == a distance below `unreachable` is the cost of a walk
--   distance_least   == distance g u t ≤ k for a walk of cost k below `unreachable`; Bound.antt has it for every k
--   distance-le      == distance g u t ≤ unreachable
--   distance_self    == distance g u u = 0
--   triangle         == distance g u t ≤ distance g u v + distance g v t, where the sum is below `unreachable`
--   snoc, append     == a walk and one more move; a walk and another from its end
--   unsnoc           == a walk has one vertex, or a last move
use Prim.Native.Nat.{ℕ, suc, ◌+◌, ◌≤◌, ◌<◌, ◌^◌}
use mathlib.Core.Path.{◌≡◌, refl, sym}
use mathlib.Core.Logic.{◌⊎◌, inl, inr, ⊎_elim}
use mathlib.Core.Bool.{Bool, true, true≢false}
use mathlib.Core.Option.{some}
use mathlib.Core.List.Memᴰ
use mathlib.Core.List.{List, [], ◌∷◌, ◌++◌, Memᴰ}
use native.Mathlib.Omega.{arith}
use Rattle.basics.proofs.Bounded.{seek-le, seek_found, seek-least}
use Rattle.paths.specs.Graph.{Graph, Lawful}
use Rattle.paths.specs.Walk.{Walk, stop, go, HasWalk, walks}
use Rattle.paths.specs.Distance.{unreachable, nonempty, distance}
use Rattle.paths.proofs.Listing.{go-at, at-cost, walks-sound, walks-whole}

-- The largest number of 32 bits.
pub unreachable-is : suc unreachable ≡ 2 ^ 32
unreachable-is = refl

-- ---- the distance is the least cost of a walk

nonempty-mem : {A : Type 0} {x : A} (l : List A) → Memᴰ x l → nonempty l ≡ true
unfolding nonempty
nonempty-mem [] h = absurd (Memᴰ.not-nil h)
nonempty-mem (x ∷ l) h = refl

mem-nonempty : {A : Type 0} (l : List A) → nonempty l ≡ true → (x : A) × Memᴰ x l
unfolding nonempty
mem-nonempty [] e = absurd (true≢false (sym e))
mem-nonempty (x ∷ l) e = (x, Memᴰ.head refl)

pub distance-le : (g : Graph) (u t : ℕ) → distance g u t ≤ unreachable
unfolding distance
distance-le g u t = seek-le unreachable 0 (λ k. nonempty (walks g k u t))

pub distance-walk : (g : Graph) (u t : ℕ) → distance g u t < unreachable → HasWalk g (distance g u t) u t
unfolding distance
distance-walk g u t h =
    let p : ℕ → Bool = λ k. nonempty (walks g k u t) in
    let k = seek_found unreachable 0 p h in
    let r = mem-nonempty (walks g (distance g u t) u t) k in
    (r.0, walks-sound g (distance g u t) u t r.1)

pub distance_least : (g : Graph) → Lawful g → {k u t : ℕ} → HasWalk g k u t → k < unreachable → distance g u t ≤ k
unfolding distance
distance_least g L {k} {u} {t} (l, wk) h =
    seek-least unreachable 0 k (λ k. nonempty (walks g k u t)) (omega arith) (omega arith)
    (nonempty-mem (walks g k u t) (walks-whole g L.low wk))

-- ---- walks put together

pub snoc : (g : Graph) (m v : ℕ) {k u t : ℕ} {l : List ℕ} → m < g.moves → g.step m t ≡ some v → Walk g k u t l
    → Walk g (k + g.cost m) u v (l ++ (v ∷ []))
snoc g m v lt st stop = go-at m v lt st stop (omega arith)
snoc g m v lt st (go n w lt' st' wk) = go-at n w lt' st' (snoc g m v lt st wk) (omega arith)

pub append : (g : Graph) {j k u v t : ℕ} {l l' : List ℕ} → Walk g j u v l → Walk g k v t l' → HasWalk g (j + k) u t
append g stop b = (_, at-cost (omega arith) b)
append g (go m w lt st a) b = let r = append g a b in (_, go-at m w lt st r.1 (omega arith))

-- A walk from u to t that costs k has a last move.
pub record LastMove (g : Graph) (k u t : ℕ) : Type 0 where
  pub move : ℕ
  pub from : ℕ
  pub rest : ℕ
  pub below : move < g.moves
  pub goes : g.step move from ≡ some t
  pub total : rest + g.cost move ≡ k
  pub walk : HasWalk g rest u from

pub unsnoc : (g : Graph) {k u t : ℕ} {l : List ℕ} → Walk g k u t l → ((u ≡ t) × (k ≡ 0)) ⊎ LastMove g k u t
unsnoc g stop = inl (refl, refl)
unsnoc g (go {k} {u} {t} m w lt st wk) = ⊎_elim one more (unsnoc g wk)
  where
    one : (w ≡ t) × (k ≡ 0) → ((u ≡ t) × (g.cost m + k ≡ 0)) ⊎ LastMove g (g.cost m + k) u t
    one (p, q) = inr (record {
      move = m;
      from = u;
      rest = 0;
      below = lt;
      goes = rw (← p) st;
      total = omega arith;
      walk = (_, stop);
    })

    more : LastMove g k w t → ((u ≡ t) × (g.cost m + k ≡ 0)) ⊎ LastMove g (g.cost m + k) u t
    more r = inr (record {
      move = r.move;
      from = r.from;
      rest = g.cost m + r.rest;
      below = r.below;
      goes = r.goes;
      total = omega (arith, r.total);
      walk = (_, go m w lt st r.walk.1);
    })

module _ (g : Graph) (L : Lawful g) where
  pub walk_inside : {k u t : ℕ} {l : List ℕ} → Walk g k u t l → u < g.size → t < g.size
  walk_inside stop i = i
  walk_inside (go {u = u} m w lt st wk) i = walk_inside wk (L.inside m u w lt i st)

  pub distance_self : (t : ℕ) → distance g t t ≡ 0
  distance_self t = let w : HasWalk g 0 t t = (_, stop) in omega (arith, distance_least g L w (omega arith))

  pub triangle : (u v t : ℕ) → distance g u v + distance g v t < unreachable
      → distance g u t ≤ distance g u v + distance g v t
  triangle u v t h =
      distance_least g L (append g (distance-walk g u v (omega arith)).1 (distance-walk g v t (omega arith)).1) h

  -- The distance to one end of a move is at most that to the other end and the cost of the move.
  pub distance-move : (a m u w : ℕ) → m < g.moves → g.step m u ≡ some w → distance g a u + g.cost m < unreachable
      → distance g a w ≤ distance g a u + g.cost m
  distance-move a m u w lt st h =
      distance_least g L (_, snoc g m w lt st (distance-walk g a u (omega arith)).1) h
