-- Loops that look for a number. One looks for the first below n that fails a test, to answer whether each passes; the
-- other for the first from j on that passes, to answer which it is.
--
--   Passed n k p            == a loop over the numbers below n is at k, and each number below k passes the test p
--   Sought n j last end k p == a search for the first of j, j + 1, .. n - 1 that passes the test p is at k. It stops
--                              at `end`: the number found, or n while none is found. `last` is the last that failed p
use Prim.Native.Nat.{ℕ, suc, ◌+◌, ◌-◌, ◌≤◌, ◌<◌, min}
use mathlib.Core.Path.{◌≡◌, refl, sym, ◌∙◌}
use mathlib.Core.Bool.{Bool, true, false, not}
use native.Mathlib.Omega.{arith}
use native.Mathlib.Numerals.{add-one}
use borrow.Author.Tests.{not-true, not-false}
use Rattle.basics.specs.Bounded.{every, seek}
use Rattle.basics.proofs.Bools.{and_intro}
use Rattle.basics.proofs.Bounded.{every-fails, seek-here, seek-past}

pub record Passed (n k : ℕ) (p : ℕ → Bool) : Type 0 where
  pub within : k ≤ n
  pub good : every k p ≡ true

pub passed_none : (n : ℕ) (p : ℕ → Bool) → Passed n 0 p
unfolding every
passed_none n p = record { within = omega arith; good = refl }

pub passed-stop : {n k : ℕ} {p : ℕ → Bool} (b : Bool) → Passed n k p → k < n → b ≡ p k → not b ≡ true
    → false ≡ every n p
passed-stop {n} {k} {p} b h l e t = sym (every-fails n k p l (sym e ∙ not-true b t))

pub passed-more : {n k : ℕ} {p : ℕ → Bool} (b : Bool) → Passed n k p → k < n → b ≡ p k → not b ≡ false
    → Passed n (k + 1) p
unfolding every
passed-more {n} {k} {p} b h l e t =
    record { within = omega arith; good = rw add-one (and_intro (every k p) (p k) h.good (sym e ∙ not-false b t)) }

pub passed-all : {n k : ℕ} {p : ℕ → Bool} → Passed n k p → n ≤ k → true ≡ every n p
passed-all {n} {k} {p} h l = let e : k ≡ n = omega (arith, h.within) in sym (rw e at h.good)

pub record Sought (n j last end k : ℕ) (p : ℕ → Bool) : Type 0 where
  pub within : end ≤ n
  pub place : suc last ≡ min k end
  pub same : seek (end - suc last) (suc last) p ≡ seek (n - j) j p

-- Where j fails p, the search begins at j + 1.
pub sought-first : {n j last end k : ℕ} {p : ℕ → Bool} → j < n → p j ≡ false → last ≡ j → k ≡ suc j → end ≡ n
    → Sought n j last end k p
sought-first {n} {j} {last} {end} {k} {p} l e a b c =
    let d : n - j ≡ suc (n - suc j) = omega arith in
    let step : seek (n - j) j p ≡ seek (n - suc j) (suc j) p = rw d (seek-past (n - suc j) j p e) in
    record { within = omega arith; place = omega arith; same = rw (a, c) (sym step) }

-- Where k fails p, it is `last`.
pub sought-more : {n j last end k last' end' : ℕ} {p : ℕ → Bool} → Sought n j last end k p → k < end
    → p k ≡ false → last' ≡ k → end' ≡ end → Sought n j last' end' (k + 1) p
sought-more {n} {j} {last} {end} {k} {last'} {end'} {p} h l e a b =
    let here : suc last ≡ k = omega (arith, h.place) in
    let d : end - k ≡ suc (end - suc k) = omega arith in
    let step : seek (end - k) k p ≡ seek (end - suc k) (suc k) p = rw d (seek-past (end - suc k) k p e) in
    record {
      within = omega (arith, h.within);
      place = omega arith;
      same = rw (a, b) (sym step ∙ rw here at h.same);
    }

-- Where k passes p, it is `end`.
pub sought-found : {n j last end k last' end' : ℕ} {p : ℕ → Bool} → Sought n j last end k p → k < end → p k ≡ true
    → last' ≡ last → end' ≡ k → Sought n j last' end' (k + 1) p
unfolding seek
sought-found {n} {j} {last} {end} {k} {last'} {end'} {p} h l e a b =
    let here : suc last ≡ k = omega (arith, h.place) in
    let d : end - k ≡ suc (end - suc k) = omega arith in
    let z : k - k ≡ 0 = omega arith in
    let step : seek (end - k) k p ≡ k = rw d (seek-here (end - suc k) k p e) in
    record {
      within = omega (arith, h.within);
      place = omega arith;
      same = rw (a, b, here, z) (sym step ∙ rw here at h.same);
    }

pub sought-done : {n j last end k : ℕ} {p : ℕ → Bool} → Sought n j last end k p → end ≤ k → seek (n - j) j p ≡ suc last
unfolding seek
sought-done {n} {j} {last} {end} {k} {p} h l =
    let here : suc last ≡ end = omega (arith, h.place) in
    let z : end - suc last ≡ 0 = omega arith in
    sym (rw z at h.same)
