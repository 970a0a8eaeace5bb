-- The test of the route as the code runs it, place by place.
--
--   points-short  == where one of the first n places is wrong, not all places are right
--   points-tail   == where the first n places are right, all places are right exactly where zeros follow
--   points-all    == `points_test` where n is 1 to V and the first point is a
use Prim.Native.Nat.{ℕ, suc, ◌≤◌}
use mathlib.Core.Path.{◌≡◌, refl, sym, ◌∙◌}
use mathlib.Core.Logic.{⊎_elim, ◌↔◌}
use mathlib.Core.Bool.{Bool, true, false}
use native.Mathlib.Omega.{arith}
use borrow.Author.Tests.{lt-ltb, le-ltb, le-leb, eq-eqb, eqb-true}
use lib.Dec.{eqb}
use Rattle.basics.specs.Bounded.{every}
use Rattle.basics.proofs.Order.{le-or-lt}
use Rattle.basics.proofs.Bools.{iff-eq}
use Rattle.basics.proofs.Bounded.{every-all, every-at}
use Rattle.paths.specs.Sheet.{Sheet}
use Rattle.paths.specs.Local.{right_point, right_route, entry}
use Rattle.checker.specs.Tests.{point_test, points_test, Zeros}

-- ---- one place

module _ (v b : ℕ) (s : Sheet) (i at : ℕ) (is : at ≡ entry s.route i) where
  point-past : s.n ≤ i → eqb at 0 ≡ point_test v b s i
  unfolding point_test right_point
  point-past l = rw (le-ltb i s.n l, is)

-- ---- the whole route

module _ (v a b : ℕ) (s : Sheet) where
  module _ (l : 1 ≤ s.n) (m : s.n ≤ v) where
    pub points-short : every s.n (point_test v b s) ≡ false → every v (point_test v b s) ≡ false
    points-short bad = cases (every v (point_test v b s)) refl
      where
        cases : (t : Bool) → every v (point_test v b s) ≡ t → t ≡ false
        cases false h = refl
        cases true h =
            sym (every-all s.n (point_test v b s) (λ k q. every-at v (point_test v b s) h k (omega arith))) ∙ bad

    pub points-tail : every s.n (point_test v b s) ≡ true → (k : Bool) → (k ≡ true) ↔ Zeros s.route s.n v
        → k ≡ every v (point_test v b s)
    points-tail good k zeros = iff-eq k (every v (point_test v b s))
        (λ t. every-all v (point_test v b s) (λ i j. ⊎_elim
        (λ lt. every-at s.n (point_test v b s) good i lt)
        (λ ge. sym (past i (omega arith)) ∙ eq-eqb (entry s.route i) 0 ((zeros.0 t).at i (omega arith) j))
        (le-or-lt (suc i) s.n)))
        (λ t. zeros.1 (record {
          at = λ i ge lt. eqb-true (entry s.route i) 0 (past i ge ∙ every-at v (point_test v b s) t i lt);
        }))
      where
        past : (i : ℕ) → s.n ≤ i → eqb (entry s.route i) 0 ≡ point_test v b s i
        past i ge = point-past v b s i (entry s.route i) refl ge

    pub points-all : entry s.route 0 ≡ a → (k : Bool) → k ≡ every v (point_test v b s)
        → k ≡ points_test v a b s
    unfolding points_test right_route point_test
    points-all e k q = rw (
      lt-ltb 0 s.n (omega arith),
      le-leb s.n v m,
      eq-eqb (entry s.route 0) a e,
    ) q
