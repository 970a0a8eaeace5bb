-- The nearest pinch of those passed (rule 2.8). It is None exactly when no pinch is passed. The vertices passed are at
-- equal distances, so that testing these alone finds it.
--
--   nearest-clear  == `nearest_pinch f s` is None exactly when s passes no pinch
--   common-nearest == `nearest_pinch` as the code finds it: the first pinch of the n + 1 vertices passed, where n is the
--                     greatest common divisor of the spans
--   ends-nearest   == `nearest_pinch` where the greatest common divisor of the spans is 1: the first end, or else the
--                     last, that is a pinch
use Prim.Native.Nat.{ℕ, suc, ◌+◌, ◌*◌, ◌/◌, ◌≤◌, ◌<◌}
use mathlib.Core.Path.{◌≡◌, refl, sym, ap, ap₂, ◌∙◌}
use mathlib.Core.Bool.{Bool, true, false, ◌&&◌, not, and-true, and-false}
use mathlib.Core.Logic.{⊎_elim}
use native.Mathlib.Omega.{arith}
use native.Mathlib.Nat.{mul-le-mul, eq_of_mul-eq-mul_left, div-eq_of_eq-mul_right}
use borrow.Author.Tests.{eq-eqb, ne_eqb}
use Rattle.std.specs.Prelude.{Option, None}
use Rattle.basics.specs.Bounded.{pick, every}
use Rattle.basics.proofs.Order.{le-or-lt, eq-or-ne}
use Rattle.basics.proofs.Bools.{iff-eq, not-and}
use Rattle.basics.proofs.Bounded.{every-all, every-at, every-cong}
use Rattle.floor.specs.Floor.{Floor}
use Rattle.sight.specs.Sight.{Segment, segment_of, pinch, spans, passes, no_pinch_passed}
use Rattle.sight.specs.Obstacle.{is_clear, or_else, span, start_on, first, pinch_at, passed_pinch, nearest_pinch}
use Rattle.sight.specs.Travel.{Ends, pinch_here, pinch_there, Common}
use Rattle.sight.specs.declared.Obstacle.{Obstacle}
use Rattle.sight.proofs.Travel.{start_first}
use Rattle.sight.proofs.First.{Hit, hit-first, first-look, first-every, first-none, first-hit}
use Rattle.sight.proofs.Common.{divides-multiple, common-some}
use Rattle.sight.proofs.Vertices.{
  point-le,
  point-last,
  away-le,
  point-away,
  passes_on,
  passed-column,
  passed-row,
}

-- ---- no pinch is named exactly when none is passed

-- A choice between an obstacle o and None is None exactly where the test fails.
pub clear-unless : (t : Bool) (o : Option Obstacle) → is_clear o ≡ false → is_clear (pick t o None) ≡ not t
clear-unless true o e = e
clear-unless false o e = refl

module _ (f : Floor) (x0 y0 x1 y1 : ℕ) (e : Ends f.wide f.high x0 y0 x1 y1) where
  abbrev t : Segment
  t = segment_of x0 y0 x1 y1

  abbrev fine : ℕ → ℕ → Bool
  fine p q = not (pinch f p q && passes t p q)

  abbrev m : ℕ
  m = suc (span x0 x1)

  abbrev n : ℕ
  n = suc (span y0 y1)

  fine-on : (c r : ℕ) → is_clear (passed_pinch f t c r) ≡ fine (start_on x0 x1 c) (start_on y0 y1 r)
  unfolding passed_pinch
  fine-on c r =
      let x = start_on x0 x1 c in
      let y = start_on y0 y1 r in
      clear-unless (pinch f x y && passes t x y) (pinch_at f x y) refl

  abbrev travelled : Bool
  travelled = every m (λ c. every n (λ r. fine (start_on x0 x1 c) (start_on y0 y1 r)))

  in-travel : no_pinch_passed f t ≡ travelled
  unfolding no_pinch_passed
  in-travel = iff-eq (no_pinch_passed f t) travelled
      (λ all. every-all m _ (λ c lc. every-all n _ (λ r lr.
      let i : start_on x0 x1 c ≤ f.wide = point-le x0 x1 c f.wide e.x_first e.x_last (omega arith) in
      let j : start_on y0 y1 r ≤ f.high = point-le y0 y1 r f.high e.y_first e.y_last (omega arith) in
      every-at (suc f.high) (fine (start_on x0 x1 c))
      (every-at (suc f.wide) (λ p. every (suc f.high) (fine p)) all (start_on x0 x1 c) (omega arith))
      (start_on y0 y1 r) (omega arith))))
      (λ all. every-all (suc f.wide) _ (λ p lp. every-all (suc f.high) (fine p) (λ q lq.
      not-and (pinch f p q) (passes t p q) (λ h.
      let bx : spans x0 x1 p ≡ true = passed-column t p q h in
      let by : spans y0 y1 q ≡ true = passed-row t p q h in
      let g : fine (start_on x0 x1 (span x0 p)) (start_on y0 y1 (span y0 q)) ≡ true =
      every-at n (λ r. fine (start_on x0 x1 (span x0 p)) (start_on y0 y1 r))
      (every-at m (λ c. every n (λ r. fine (start_on x0 x1 c) (start_on y0 y1 r))) all (span x0 p)
      (omega (arith, away-le x0 x1 p bx))) (span y0 q) (omega (arith, away-le y0 y1 q by)) in
      rw (point-away x0 x1 p bx, point-away y0 y1 q by) at g))))

  pub nearest-clear : is_clear (nearest_pinch f t) ≡ no_pinch_passed f t
  unfolding nearest_pinch
  nearest-clear =
      first-every m (λ c. first n (passed_pinch f t c))
      ∙ every-cong m _ _ (λ c lc. first-every n (passed_pinch f t c)
      ∙ every-cong n (λ r. is_clear (passed_pinch f t c r)) (λ r. fine (start_on x0 x1 c) (start_on y0 y1 r)) (λ r lr.
      fine-on c r))
      ∙ sym in-travel

  -- ---- the vertices passed

  passed-if : (c r : ℕ) → c ≤ span x0 x1 → r ≤ span y0 y1 → span y0 y1 * c ≡ span x0 x1 * r
      → passed_pinch f t c r ≡ pinch_there f t c r
  unfolding passed_pinch pinch_there pinch_here
  passed-if c r lc lr q =
      let x = start_on x0 x1 c in
      let y = start_on y0 y1 r in
      ap (λ b. pick (pinch f x y && b) (pinch_at f x y) None)
      (passes_on x0 y0 x1 y1 c r lc lr ∙ eq-eqb (span y0 y1 * c) (span x0 x1 * r) q)
      ∙ ap (λ b. pick b (pinch_at f x y) None) (and-true (pinch f x y))

  passed_none : (c r : ℕ) → c ≤ span x0 x1 → r ≤ span y0 y1 → (span y0 y1 * c ≡ span x0 x1 * r → ⊥)
      → passed_pinch f t c r ≡ None
  unfolding passed_pinch
  passed_none c r lc lr q =
      let x = start_on x0 x1 c in
      let y = start_on y0 y1 r in
      ap (λ b. pick (pinch f x y && b) (pinch_at f x y) None)
      (passes_on x0 y0 x1 y1 c r lc lr ∙ ne_eqb (span y0 y1 * c) (span x0 x1 * r) q)
      ∙ ap (λ b. pick b (pinch_at f x y) None) (and-false (pinch f x y))

  abbrev d_x : ℕ
  d_x = span x0 x1

  abbrev d_y : ℕ
  d_y = span y0 y1

  module _ {N : ℕ} (C : Common d_x d_y N) (long : 1 ≤ d_x + d_y) where
    -- They are k * across columns and k * down rows from the first end, for each k up to N.
    abbrev across : ℕ
    across = C.first.times

    abbrev down : ℕ
    down = C.second.times

    on_line : (k : ℕ) → d_y * (k * across) ≡ d_x * (k * down)
    on_line k =
        ap (λ y. y * (k * across)) C.second.is ∙ turned N across down k
        ∙ sym (ap (λ x. x * (k * down)) C.first.is)
      where
        turned : (n a b k : ℕ) → n * b * (k * a) ≡ n * a * (k * b)
        turned n a b k = omega arith

    record Multiple (c r : ℕ) : Type 0 where
      k : ℕ
      column : c ≡ k * across
      row : r ≡ k * down

    -- The multiple k, from d_y * c = d_x * r: by the columns where there are any, else by the rows.
    by-columns : (c r : ℕ) → 1 ≤ d_x → d_y * c ≡ d_x * r → Multiple c r
    by-columns c r l q =
        let d = C.greatest d_x c (divides-multiple d_x c) (record { times = r; is = q }) in
        let p : c ≡ d.times * across
        = eq_of_mul-eq-mul_left N (common-some C long) c (d.times * across)
        (d.is ∙ ap (λ x. x * d.times) C.first.is ∙ omega arith) in
        record {
          k = d.times;
          column = p;
          row = eq_of_mul-eq-mul_left d_x l r (d.times * down) (sym q ∙ ap (λ z. d_y * z) p ∙ on_line d.times);
        }

    by_rows : (c r : ℕ) → 1 ≤ d_y → d_y * c ≡ d_x * r → Multiple c r
    by_rows c r l q =
        let d = C.greatest d_y r (record { times = c; is = sym q }) (divides-multiple d_y r) in
        let p : r ≡ d.times * down
        = eq_of_mul-eq-mul_left N (common-some C long) r (d.times * down)
        (d.is ∙ ap (λ x. x * d.times) C.second.is ∙ omega arith) in
        record {
          k = d.times;
          column = eq_of_mul-eq-mul_left d_y l c (d.times * across)
              (q ∙ ap (λ z. d_x * z) p ∙ sym (on_line d.times));
          row = p;
        }

    multiple : (c r : ℕ) → d_y * c ≡ d_x * r → Multiple c r
    multiple c r q =
        ⊎_elim (λ (l : 1 ≤ d_x). by-columns c r l q) (λ (l : d_x < 1). by_rows c r (omega arith) q) (le-or-lt 1 d_x)

    times-le : (a k n : ℕ) → k ≤ n → k * a ≤ n * a
    times-le a k n l = mul-le-mul {n₁ = k} {m₁ = a} {n₂ = n} {m₂ = a} l (omega arith)

    -- Past k = N none is in the box of the segment.
    multiple-le : (k : ℕ) → k * across ≤ d_x → k * down ≤ d_y → k ≤ N
    multiple-le k p q =
        ⊎_elim (λ h. h)
        (λ (l : N < k).
        let a = none-past N across k d_x C.first.is l p in
        let b = none-past N down k d_y C.second.is l q in
        absurd (omega arith)) (le-or-lt k N)
      where
        none-past : (g a k d : ℕ) → d ≡ g * a → g < k → k * a ≤ d → d ≡ 0
        none-past g a k d e l h =
            let one : suc g * a ≡ g * a + a = omega arith in
            let z : a ≡ 0 = omega (arith, times-le a (suc g) k l) in
            e ∙ ap (λ x. g * x) z ∙ omega arith

    abbrev at : ℕ → Option Obstacle
    at k = pinch_there f t (k * across) (k * down)

    at-passed : (k : ℕ) → k ≤ N → passed_pinch f t (k * across) (k * down) ≡ at k
    at-passed k l =
        passed-if (k * across) (k * down) (omega (arith, C.first.is, times-le across k N l))
        (omega (arith, C.second.is, times-le down k N l)) (on_line k)

    -- The answer at (c, r) is None where no multiple k that is passed there is a pinch.
    passed-clear : (c r : ℕ) → c < m → r < n
        → ((k : ℕ) → k ≤ N → c ≡ k * across → r ≡ k * down → at k ≡ None) → passed_pinch f t c r ≡ None
    passed-clear c r lc lr h =
        ⊎_elim
        (λ (q : d_y * c ≡ d_x * r).
        let M = multiple c r q in
        let a = M.column in
        let b = M.row in
        passed-if c r (omega arith) (omega arith) q ∙ ap₂ (pinch_there f t) a b
        ∙ h M.k (multiple-le M.k (omega arith) (omega arith)) a b)
        (λ (q : d_y * c ≡ d_x * r → ⊥). passed_none c r (omega arith) (omega arith) q) (eq-or-ne (d_y * c) (d_x * r))

    before : (a j k : ℕ) → j * a < k * a → j < k
    before a j k l =
        ⊎_elim (λ h. absurd (omega (arith, times-le a k j h))) (λ h. h) (le-or-lt k j)

    abbrev column_pinch : ℕ → Option Obstacle
    column_pinch c = first n (passed_pinch f t c)

    none_passed : ((k : ℕ) → k < suc N → at k ≡ None) → first m column_pinch ≡ first (suc N) at
    none_passed h =
        first-none m column_pinch (λ c lc. first-none n (passed_pinch f t c) (λ r lr.
        passed-clear c r lc lr (λ k l p q. h k (omega arith))))
        ∙ sym (first-none (suc N) at h)

    one-passed : Hit (suc N) at → first m column_pinch ≡ first (suc N) at
    one-passed H =
        let k = H.at in
        let l : k ≤ N = omega (arith, H.below) in
        let lc : k * across < m = omega (arith, C.first.is, times-le across k N l) in
        let lr : k * down < n = omega (arith, C.second.is, times-le down k N l) in
        let here : column_pinch (k * across) ≡ at k
        = first-hit n (k * down) (passed_pinch f t (k * across)) lr
        (λ r lt. passed-clear (k * across) r lc (omega arith) (λ j i p q.
        H.before j (before down j k (omega arith)))) (ap is_clear (at-passed k l) ∙ H.hit)
        ∙ at-passed k l in
        first-hit m (k * across) column_pinch lc
        (λ c lt. first-none n (passed_pinch f t c) (λ r lr. passed-clear c r (omega arith) lr (λ j i p q.
        H.before j (before across j k (omega arith))))) (ap is_clear here ∙ H.hit)
        ∙ here ∙ sym (hit-first H)

    at-nearest : nearest_pinch f t ≡ first (suc N) at
    unfolding nearest_pinch
    at-nearest = ⊎_elim none_passed one-passed (first-look (suc N) at)

  module _ {N u v : ℕ} (C : Common u v N) (p : u ≡ d_x) (q : v ≡ d_y) (long : 1 ≤ u + v) where
    pub common-nearest : nearest_pinch f t ≡ first (suc N) (λ k. pinch_there f t (k * (u / N)) (k * (v / N)))
    common-nearest =
        let D : Common d_x d_y N = rw (p, q) at C in
        let some = common-some C long in
        at-nearest D (omega arith)
        ∙ ap₂ (λ a b. first (suc N) (λ k. pinch_there f t (k * a) (k * b)))
        (sym (div-eq_of_eq-mul_right some (p ∙ D.first.is))) (sym (div-eq_of_eq-mul_right some (q ∙ D.second.is)))

  pub ends-nearest : Common d_x d_y 1 → 1 ≤ d_x + d_y → nearest_pinch f t ≡ or_else (pinch_here f x0 y0) (pinch_here f x1 y1)
  unfolding first pinch_there
  ends-nearest C long =
      let a = C.first.times in
      let b = C.second.times in
      let p : 1 * a ≡ d_x = sym C.first.is in
      let q : 1 * b ≡ d_y = sym C.second.is in
      let z : 0 * a ≡ 0 = omega arith in
      let y : 0 * b ≡ 0 = omega arith in
      at-nearest C long
      ∙ ap₂ or_else
      (ap₂ (pinch_here f) (ap (start_on x0 x1) z ∙ start_first x0 x1) (ap (start_on y0 y1) y ∙ start_first y0 y1))
      (ap₂ (pinch_here f) (ap (start_on x0 x1) p ∙ point-last x0 x1) (ap (start_on y0 y1) q ∙ point-last y0 y1))
