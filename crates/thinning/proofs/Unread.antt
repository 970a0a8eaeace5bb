-- Places from n on are not read: two lists of one length that agree on their first n places give the same answer
-- (`answer-same`) and leave the same output (`output-same`).
use Prim.Native.Nat.{ℕ, zero, suc, ◌-◌, ◌<◌, pred}
use mathlib.Core.Path.{◌≡◌, refl, ap, ap₂}
use mathlib.Core.Bool.{Bool, true, false, ◌&&◌, not}
use mathlib.Core.List.{List, [], ◌∷◌}
use native.Mathlib.Omega.{arith}
use borrow.Author.Tests.{ltb-true}
use lib.Dec.{leb, ltb}
use lib.ListN.{length, get_or}
use Rattle.basics.proofs.Bounded.{every-cong, seek-cong}
use Rattle.floor.specs.Floor.{Floor, floor_of, vertices}
use Rattle.sight.specs.Sight.{segment, sees}
use Rattle.thinning.specs.Thinning.{seen, next_kept, kept_from, kept_positions, is_vertex, sees_next, joined_list}
use Rattle.thinning.specs.Answer.{list_shape, thin_answer, thin_output}

-- The two lists have the same length and the same first n places.
pub record SameTo (n : ℕ) (l k : List ℕ) : Type 0 where
  pub size : length l ≡ length k
  pub at : (i : ℕ) → i < n → get_or l i 0 ≡ get_or k i 0

module _ (s t : ℕ → ℕ → Bool) (n : ℕ) (same : (i k : ℕ) → i < n → k < n → s i k ≡ t i k) where
  next-cong : (i : ℕ) → i < n → next_kept s n i ≡ next_kept t n i
  unfolding next_kept
  next-cong i l =
      ap pred
      (seek-cong (n - suc i) (suc i) (λ k. not (s i k)) (λ k. not (t i k)) (λ k a b. ap not (same i k l (omega arith))))

  from-cong : (c i : ℕ) → kept_from s n c i ≡ kept_from t n c i
  unfolding kept_from
  from-cong zero i = refl
  from-cong (suc c) i = ap (λ ps. i ∷ ps) (cases (from-cong c (next_kept t n i)) (ltb (suc i) n) refl)
    where
      cases : kept_from s n c (next_kept t n i) ≡ kept_from t n c (next_kept t n i) → (b : Bool) → ltb (suc i) n ≡ b
          → ◌≡◌ {A = List ℕ} (elim b [ true ↦ kept_from s n c (next_kept s n i) | false ↦ [] ])
          (elim b [ true ↦ kept_from t n c (next_kept t n i) | false ↦ [] ])
      cases rest true e = let l : i < n = omega (arith, ltb-true (suc i) n e) in rw (next-cong i l) rest
      cases rest false e = refl

module _ (f : Floor) (l k : List ℕ) (n : ℕ) (same : SameTo n l k) where
  seen_same : (i j : ℕ) → i < n → j < n → seen f l i j ≡ seen f k i j
  unfolding seen
  seen_same i j a b = ap₂ (λ x y. sees f (segment f.wide x y)) (same.at i a) (same.at j b)

  pub kept_same : kept_positions f l n ≡ kept_positions f k n
  unfolding kept_positions
  kept_same = from-cong (seen f l) (seen f k) n seen_same n 0

  pub joined_same : joined_list f l n ≡ joined_list f k n
  unfolding joined_list is_vertex sees_next
  joined_same =
      let a = ap (leb n) same.size in
      let b = every-cong n (is_vertex f.wide f.high l) (is_vertex f.wide f.high k)
      (λ i x. ap (λ (y : ℕ). ltb y (vertices f.wide f.high)) (same.at i x)) in
      let c = every-cong (pred n) (sees_next f l) (sees_next f k)
      (λ i x. seen_same i (suc i) (omega arith) (omega arith)) in
      ap₂ (λ x y. leb 1 n && (x && y)) a (ap₂ (λ x y. x && y) b c)

module _ (w h : ℕ) (map l k out : List ℕ) (n : ℕ) (same : SameTo n l k) where
  shape_same : (m : ℕ) → list_shape w h map l m n ≡ list_shape w h map k m n
  unfolding list_shape
  shape_same m = rw (same.size, joined_same (floor_of w h map) l k n same)

  pub answer-same : thin_answer w h map l out n ≡ thin_answer w h map k out n
  unfolding thin_answer
  answer-same = rw (shape_same (length out), kept_same (floor_of w h map) l k n same)

  pub output-same : thin_output w h map l out n ≡ thin_output w h map k out n
  unfolding thin_output
  output-same = rw (shape_same (length out), kept_same (floor_of w h map) l k n same)
