-- A log is what stepping finds: the bound on the number of steps in its definition is never reached.
--
--   log-step        == log_from s v c is what the step at c finds, then the log from the cursor that the step hands
--                      back
--   Finding s v c r == r is what a step at c may find: the end, a stop or a bad record, each with its conditions
--   finding         == `Finding` holds of what the step finds
--   stop-found      == where a step finds a stop, its four bytes lie in the log, the cursor has moved past them, and
--                      the vertex number is below v
--   stops-few       == a log has at most a quarter as many stops as bytes
use Prim.Native.Nat.{ℕ, zero, suc, ◌+◌, ◌-◌, ◌*◌, ◌≤◌, ◌<◌}
use mathlib.Core.Path.{◌≡◌, refl, sym, ap, ◌∙◌}
use mathlib.Core.Bool.{Bool, true, false, ◌&&◌}
use mathlib.Core.List.{List}
use native.Mathlib.Omega.{arith}
use borrow.Author.Tests.{leb-true, leb-false, ltb-true}
use lib.Dec.{leb, ltb}
use lib.ListN.{length}
use Rattle.std.specs.Prelude.{Ok, Err, Some, None}
use Rattle.basics.specs.Bounded.{pick}
use Rattle.basics.proofs.Bools.{and_both}
use Rattle.records.specs.Format.{word_at, marked_at, whole_at}
use Rattle.logs.specs.Log.{LogStep, bad_stop, good_stop, stop_at, cursor_at, closed, with_stop, and_rest, steps, log_from, log_of}
use Rattle.logs.specs.declared.LogCursor.{LogCursor}

pub data Finding (s : List ℕ) (v : ℕ) (c : LogCursor) : LogStep → Type 0 where
  at-end : length s ≤ c.at → Finding s v c (Ok None)
  a-stop : c.at + 4 ≤ length s → word_at s (c.at + 2) < v → marked_at s c.at 0x56 0x54 ≡ true
      → Finding s v c (Ok (Some (word_at s (c.at + 2), cursor_at (c.at + 4))))
  no_stop : c.at < length s → good_stop s v c.at ≡ false → Finding s v c (Err bad_stop)

good-stop : (s : List ℕ) (v : ℕ) (c : LogCursor) → good_stop s v c.at ≡ true
    → (c.at + 4 ≤ length s) × (word_at s (c.at + 2) < v) × (marked_at s c.at 0x56 0x54 ≡ true)
unfolding good_stop
good-stop s v c e =
    let p = and_both (marked_at s c.at 0x56 0x54 && whole_at s c.at 4) (ltb (word_at s (c.at + 2)) v) e in
    let q = and_both (marked_at s c.at 0x56 0x54) (whole_at s c.at 4) p.0 in
    (leb-true (c.at + 4) (length s) q.1, ltb-true (word_at s (c.at + 2)) v p.1, q.0)

pub finding : (s : List ℕ) (v : ℕ) (c : LogCursor) → Finding s v c (stop_at s v c)
unfolding stop_at
finding s v c = cases (leb (length s) c.at) (good_stop s v c.at) refl refl
  where
    cases : (e g : Bool) → leb (length s) c.at ≡ e → good_stop s v c.at ≡ g
        → Finding s v c (pick e (Ok None) (pick g (Ok (Some (word_at s (c.at + 2), cursor_at (c.at + 4)))) (Err bad_stop)))
    cases true g p q = at-end (leb-true (length s) c.at p)
    cases false true p q = let r = good-stop s v c q in a-stop r.0 r.1 r.2
    cases false false p q = no_stop (leb-false (length s) c.at p) q

pub record Stopped (s : List ℕ) (v : ℕ) (c : LogCursor) (x : ℕ) (d : LogCursor) : Type 0 where
  pub moved : d.at ≡ c.at + 4
  pub whole : c.at + 4 ≤ length s
  pub inside : x < v

pub stop-found : (s : List ℕ) (v : ℕ) (c : LogCursor) (x : ℕ) (d : LogCursor) → stop_at s v c ≡ Ok (Some (x, d))
    → Stopped s v c x d
stop-found s v c x d e = cases (stop_at s v c) (finding s v c) e
  where
    cases : (r : LogStep) → Finding s v c r → r ≡ Ok (Some (x, d)) → Stopped s v c x d
    cases _ (at-end h) q = let z : ◌≡◌ {A = ℕ} 0 1 = cc in absurd (omega arith)
    cases _ (a-stop h w m) e =
        let q : (word_at s (c.at + 2), cursor_at (c.at + 4)) ≡ (x, d) = cc in
        let i : word_at s (c.at + 2) ≡ x = ap (λ (r : ℕ × LogCursor). r.0) q in
        let j : cursor_at (c.at + 4) ≡ d = ap (λ (r : ℕ × LogCursor). r.1) q in
        record { moved = sym (ap (λ k. k.at) j); whole = h; inside = omega arith }
    cases _ (no_stop h g) q = let z : ◌≡◌ {A = ℕ} 0 1 = cc in absurd (omega arith)

-- Where n steps are more than the bytes left, one step more changes nothing.
enough : (n : ℕ) (s : List ℕ) (v : ℕ) (c : LogCursor) → length s < n + c.at → steps n s v c ≡ steps (suc n) s v c
unfolding steps
enough zero s v c l = cases (stop_at s v c) (finding s v c)
  where
    cases : (r : LogStep) → Finding s v c r → closed false ≡ and_rest r (steps zero s v)
    cases _ (at-end h) = refl
    cases _ (a-stop h w m) = absurd (omega arith)
    cases _ (no_stop h g) = absurd (omega arith)
enough (suc n) s v c l = cases (stop_at s v c) (finding s v c) (λ d h. enough n s v d h)
  where
    cases : (r : LogStep) → Finding s v c r
        → ((d : LogCursor) → length s < n + d.at → steps n s v d ≡ steps (suc n) s v d)
        → and_rest r (steps n s v) ≡ and_rest r (steps (suc n) s v)
    cases _ (at-end h) below = refl
    cases _ (a-stop h w m) below = ap (with_stop (word_at s (c.at + 2))) (below (cursor_at (c.at + 4)) (omega arith))
    cases _ (no_stop h g) below = refl

more : (k n : ℕ) (s : List ℕ) (v : ℕ) (c : LogCursor) → length s < n + c.at → steps n s v c ≡ steps (k + n) s v c
more zero n s v c l = let e : 0 + n ≡ n = omega arith in ap (λ x. steps x s v c) (sym e)
more (suc k) n s v c l =
    let e : suc (k + n) ≡ suc k + n = omega arith in
    more k n s v c l ∙ enough (k + n) s v c (omega arith) ∙ ap (λ x. steps x s v c) e

pub log-step : (s : List ℕ) (v : ℕ) (c : LogCursor) → log_from s v c ≡ and_rest (stop_at s v c) (log_from s v)
unfolding log_from steps
log-step s v c = cases (stop_at s v c) (finding s v c)
  where
    cases : (r : LogStep) → Finding s v c r
        → and_rest r (steps (length s - c.at) s v) ≡ and_rest r (λ d. steps (suc (length s - d.at)) s v d)
    cases _ (at-end h) = refl
    cases _ (a-stop h w m) =
        let d = cursor_at (c.at + 4) in
        let e : 3 + suc (length s - (c.at + 4)) ≡ length s - c.at = omega arith in
        ap (with_stop (word_at s (c.at + 2)))
        (ap (λ x. steps x s v d) (sym e) ∙ sym (more 3 (suc (length s - (c.at + 4))) s v d (omega arith)))
    cases _ (no_stop h g) = refl

few : (n : ℕ) (s : List ℕ) (v : ℕ) (c : LogCursor) → c.at ≤ length s
    → 4 * length (steps n s v c).stops + c.at ≤ length s
unfolding steps
few zero s v c l = omega arith
few (suc n) s v c l = cases (stop_at s v c) (finding s v c) (λ d h. few n s v d h)
  where
    cases : (r : LogStep) → Finding s v c r
        → ((d : LogCursor) → d.at ≤ length s → 4 * length (steps n s v d).stops + d.at ≤ length s)
        → 4 * length (and_rest r (steps n s v)).stops + c.at ≤ length s
    cases _ (at-end h) below = omega arith
    cases _ (a-stop h w m) below = omega (arith, below (cursor_at (c.at + 4)) h)
    cases _ (no_stop h g) below = omega arith

pub stops-few : (s : List ℕ) (v : ℕ) → 4 * length (log_of s v).stops ≤ length s
unfolding log_from
stops-few s v = omega (arith, few (suc (length s - 0)) s v (cursor_at 0) (omega arith))
