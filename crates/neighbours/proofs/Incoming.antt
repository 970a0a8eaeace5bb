-- `right_cost_in` tests at a vertex that no move gives it less than its cost, and `right_cost` that it gives no neighbour
-- less than the neighbour's. Over all vertices of a lawful graph they say the same, since each move has its opposite at
-- the same cost.
--
--   relaxed_in-cases, -all == `relaxed_in g D v` is `D v ≤ D w + cost m` for each open move m from v to w
--   costs-in               == every vertex passes `right_cost_in` exactly when every vertex passes `right_cost`
use Prim.Native.Nat.{ℕ, ◌+◌, ◌≤◌, ◌<◌}
use mathlib.Core.Path.{◌≡◌}
use mathlib.Core.Bool.{Bool, true, ◌&&◌, ◌||◌}
use mathlib.Core.Option.{some}
use borrow.Author.Tests.{leb-true, le-leb}
use lib.Dec.{leb, eqb}
use Rattle.basics.specs.Bounded.{every}
use Rattle.basics.proofs.Bools.{iff-eq, and_intro, and_left, and_right}
use Rattle.basics.proofs.Bounded.{every-all, every-at}
use Rattle.paths.specs.Graph.{Graph, Lawful}
use Rattle.paths.specs.Distance.{unreachable}
use Rattle.paths.specs.Local.{relaxed, tight, right_cost}
use Rattle.paths.proofs.Neighbours.{if-there-all, if-there-at}
use Rattle.paths.proofs.CostTest.{relaxed-cases, relaxed-all}
use Rattle.neighbours.specs.Least.{relaxed_by, relaxed_in, right_cost_in}

module _ (g : Graph) (D : ℕ → ℕ) (v : ℕ) where
  pub relaxed_in-cases : relaxed_in g D v ≡ true → (m w : ℕ) → m < g.moves → g.step m v ≡ some w
      → D v ≤ D w + g.cost m
  unfolding relaxed_in relaxed_by
  relaxed_in-cases e m w lt st =
      let p : ℕ → Bool = λ w. leb (D v) (D w + g.cost m) in
      leb-true (D v) (D w + g.cost m) (if-there-at (g.step m v) p w st (every-at g.moves (relaxed_by g D v) e m lt))

  pub relaxed_in-all : ((m w : ℕ) → m < g.moves → g.step m v ≡ some w → D v ≤ D w + g.cost m)
      → relaxed_in g D v ≡ true
  unfolding relaxed_in relaxed_by
  relaxed_in-all h = every-all g.moves (relaxed_by g D v) (λ m lt. if-there-all (g.step m v) _ (λ w st.
      le-leb (D v) (D w + g.cost m) (h m w lt st)))

module _ (g : Graph) (L : Lawful g) (D : ℕ → ℕ) where
  abbrev All : (ℕ → Bool) → Type 0
  All p = (v : ℕ) → v < g.size → p v ≡ true

  -- R holds of the two ends and the cost of every open move.
  abbrev EveryMove : (ℕ → ℕ → ℕ → Type 0) → Type 0
  EveryMove R = (v : ℕ) → v < g.size → (m w : ℕ) → m < g.moves → g.step m v ≡ some w → R v w (g.cost m)

  -- Then it holds with the ends exchanged, by the opposite move.
  turned : (R : ℕ → ℕ → ℕ → Type 0) → EveryMove R → EveryMove (λ v w c. R w v c)
  turned R h v i m w lt st =
      rw (L.opposite_cost m lt) at
      (h w (L.inside m v w lt i st) (L.opposite m) v (L.opposite_listed m lt) (L.opposite_back m v w lt i st))

  in-out : All (relaxed_in g D) → All (relaxed g D)
  in-out h v i =
      relaxed-all g D v (turned (λ v w c. D v ≤ D w + c) (λ v i. relaxed_in-cases g D v (h v i)) v i)

  out-in : All (relaxed g D) → All (relaxed_in g D)
  out-in h v i =
      relaxed_in-all g D v (turned (λ v w c. D w ≤ D v + c) (λ v i. relaxed-cases g D v (h v i)) v i)

  module _ (a : ℕ) where
    abbrev low : ℕ → Bool
    low v = leb (D v) unreachable

    abbrev rest : ℕ → Bool
    rest v = eqb (D v) unreachable || (eqb v a || tight g D v)

    -- The test of every vertex, with one test of its moves in place of another.
    exchanged : (p q : ℕ → Bool) → (All p → All q)
        → every g.size (λ v. low v && (p v && rest v)) ≡ true
        → every g.size (λ v. low v && (q v && rest v)) ≡ true
    exchanged p q h t =
        let at = every-at g.size (λ v. low v && (p v && rest v)) t in
        let both : (v : ℕ) → v < g.size → (p v && rest v) ≡ true = λ v i. and_right (low v) (p v && rest v) (at v i) in
        every-all g.size (λ v. low v && (q v && rest v)) (λ v i.
        and_intro (low v) (q v && rest v) (and_left (low v) (p v && rest v) (at v i))
        (and_intro (q v) (rest v) (h (λ w j. and_left (p w) (rest w) (both w j)) v i)
        (and_right (p v) (rest v) (both v i))))

    pub costs-in : every g.size (right_cost_in g a D) ≡ every g.size (right_cost g a D)
    unfolding right_cost_in right_cost
    costs-in =
        iff-eq (every g.size (right_cost_in g a D)) (every g.size (right_cost g a D))
        (exchanged (relaxed_in g D) (relaxed g D) in-out) (exchanged (relaxed g D) (relaxed_in g D) out-in)
