-- The first of n answers that is not None, and when columns first and rows first find the same.
--
--   none-clear   == `is_none` is `is_clear`
--   first-every  == `first n F` is None exactly when each of F 0, .. F (n - 1) is
--   first-none, -hit, -cong == `first n F` is None where all are; F k where it is not None and all before it are; and
--                     the same for F and G that agree
--   Hit n F      == the place of the first of n answers that is not None
--   first-look   == each answer is None, or `Hit n F`; by first_found `Hit n F` where `first n F` is not None
--   Looked n k F == the invariant of a loop over n answers: the first k are None
--   stairs-first == columns first and rows first find the same, where no hit in a later row is in an earlier column
use Prim.Native.Nat.{ℕ, zero, suc, ◌+◌, ◌≤◌, ◌<◌}
use mathlib.Core.Path.{◌≡◌, refl, sym, ap, ap₂, ◌∙◌}
use mathlib.Core.Bool.{Bool, true, false, ◌&&◌, not, true≢false}
use mathlib.Core.Logic.{◌⊎◌, inl, inr, ⊎_elim}
use native.Mathlib.Omega.{arith}
use native.Mathlib.Numerals.{add-one}
use Rattle.std.specs.Prelude.{Option, Some, None, is_some}
use Rattle.basics.specs.Bounded.{every}
use Rattle.basics.proofs.Order.{le-or-lt}
use Rattle.basics.proofs.Bounded.{every-at}
use Rattle.sight.specs.Obstacle.{is_clear, or_else, first}
use Rattle.sight.specs.declared.Obstacle.{Obstacle}

pub clear-is : (o : Option Obstacle) → is_clear o ≡ true → o ≡ None
clear-is None e = refl
clear-is (Some o) e = absurd (true≢false (sym e))

clear-or-not : (o : Option Obstacle) → (o ≡ None) ⊎ (is_clear o ≡ false)
clear-or-not None = inl refl
clear-or-not (Some o) = inr refl

pub else-clear : (a b : Option Obstacle) → is_clear (or_else a b) ≡ (is_clear a && is_clear b)
else-clear None b = refl
else-clear (Some o) b = refl

pub else-next : (a b : Option Obstacle) → a ≡ None → or_else a b ≡ b
else-next a b e = ap (λ o. or_else o b) e

pub else-stay : (a b : Option Obstacle) → is_clear a ≡ false → or_else a b ≡ a
else-stay None b e = absurd (true≢false e)
else-stay (Some o) b e = refl

pub none-clear : (o : Option Obstacle) (r : Bool) → is_some o ≡ not r → r ≡ is_clear o
none-clear None true e = refl
none-clear None false e = absurd (true≢false (sym e))
none-clear (Some x) true e = absurd (true≢false e)
none-clear (Some x) false e = refl

pub first-every : (n : ℕ) (F : ℕ → Option Obstacle) → is_clear (first n F) ≡ every n (λ k. is_clear (F k))
unfolding first every
first-every zero F = refl
first-every (suc n) F = else-clear (first n F) (F n) ∙ ap (λ t. t && is_clear (F n)) (first-every n F)

pub first-none : (n : ℕ) (F : ℕ → Option Obstacle) → ((k : ℕ) → k < n → F k ≡ None) → first n F ≡ None
unfolding first
first-none zero F h = refl
first-none (suc n) F h = else-next (first n F) (F n) (first-none n F (λ k l. h k (omega arith))) ∙ h n (omega arith)

pub first-hit : (n k : ℕ) (F : ℕ → Option Obstacle) → k < n → ((m : ℕ) → m < k → F m ≡ None) → is_clear (F k) ≡ false
    → first n F ≡ F k
unfolding first
first-hit zero k F l h e = absurd (omega arith)
first-hit (suc n) k F l h e =
    ⊎_elim
    (λ lt.
    let i : first n F ≡ F k = first-hit n k F lt h e in
    else-stay (first n F) (F n) (ap is_clear i ∙ e) ∙ i)
    (λ ge.
    let q : n ≡ k = omega arith in
    else-next (first n F) (F n) (first-none n F (λ m j. h m (omega arith))) ∙ ap F q) (le-or-lt (suc k) n)

pub first_cong : (n : ℕ) (F G : ℕ → Option Obstacle) → ((k : ℕ) → k < n → F k ≡ G k) → first n F ≡ first n G
unfolding first
first_cong zero F G h = refl
first_cong (suc n) F G h = ap₂ or_else (first_cong n F G (λ k l. h k (omega arith))) (h n (omega arith))

-- Where `first n F` is None, so is each of F 0, .. F (n - 1).
pub first-parts : (n : ℕ) (F : ℕ → Option Obstacle) → first n F ≡ None → (k : ℕ) → k < n → F k ≡ None
first-parts n F e k l = clear-is (F k) (every-at n (λ m. is_clear (F m)) (sym (first-every n F) ∙ ap is_clear e) k l)

-- ---- the place of the first

pub record Hit (n : ℕ) (F : ℕ → Option Obstacle) : Type 0 where
  pub at : ℕ
  pub below : at < n
  pub hit : is_clear (F at) ≡ false
  pub before : (m : ℕ) → m < at → F m ≡ None

pub hit-first : {n : ℕ} {F : ℕ → Option Obstacle} (H : Hit n F) → first n F ≡ F H.at
hit-first {n} {F} H = first-hit n H.at F H.below H.before H.hit

pub first-look : (n : ℕ) (F : ℕ → Option Obstacle) → ((k : ℕ) → k < n → F k ≡ None) ⊎ Hit n F
first-look zero F = inl (λ k l. absurd (omega arith))
first-look (suc n) F =
    ⊎_elim
    (λ none. ⊎_elim (λ e. inl (all none e))
    (λ e. inr (record { at = n; below = omega arith; hit = e; before = none })) (clear-or-not (F n)))
    (λ H. inr (record { at = H.at; below = omega (arith, H.below); hit = H.hit; before = H.before }))
    (first-look n F)
  where
    all : ((k : ℕ) → k < n → F k ≡ None) → F n ≡ None → (k : ℕ) → k < suc n → F k ≡ None
    all none e k l = ⊎_elim (λ lt. none k lt) (λ ge. let d : k ≡ n = omega arith in ap F d ∙ e) (le-or-lt (suc k) n)

pub first_found : (n : ℕ) (F : ℕ → Option Obstacle) → is_clear (first n F) ≡ false → Hit n F
first_found n F e =
    ⊎_elim (λ none. absurd (true≢false (sym (ap is_clear (first-none n F none)) ∙ e))) (λ H. H) (first-look n F)

-- ---- a loop that looks

pub record Looked (n k : ℕ) (F : ℕ → Option Obstacle) : Type 0 where
  pub within : k ≤ n
  pub nothing : first k F ≡ None

pub looked-none : (n : ℕ) (F : ℕ → Option Obstacle) → Looked n 0 F
unfolding first
looked-none n F = record { within = omega arith; nothing = refl }

pub looked-more : {n k : ℕ} {F : ℕ → Option Obstacle} → Looked n k F → k < n → F k ≡ None → Looked n (k + 1) F
unfolding first
looked-more {n} {k} {F} h l e =
    record { within = omega arith; nothing = rw add-one (else-next (first k F) (F k) h.nothing ∙ e) }

pub looked-all : {n k : ℕ} {F : ℕ → Option Obstacle} → Looked n k F → n ≤ k → None ≡ first n F
looked-all {n} {k} {F} h l = let e : k ≡ n = omega (arith, h.within) in sym (rw e at h.nothing)

pub looked-stop : {n k : ℕ} {F : ℕ → Option Obstacle} {o : Option Obstacle} → Looked n k F → k < n → F k ≡ o → is_clear o ≡ false
    → o ≡ first n F
looked-stop {n} {k} {F} h l e d = sym (first-hit n k F l (first-parts k F h.nothing) (ap is_clear e ∙ d) ∙ e)

-- ---- columns first or rows first

module _ (m n : ℕ) (F : ℕ → ℕ → Option Obstacle)
    (stairs : (a b c r : ℕ) → is_clear (F a b) ≡ false → is_clear (F c r) ≡ false → b < r → a ≤ c) where
  abbrev row : ℕ → Option Obstacle
  row r = first m (λ c. F c r)

  abbrev column : ℕ → Option Obstacle
  column c = first n (F c)

  no_row : ((r : ℕ) → r < n → row r ≡ None) → first m column ≡ first n row
  no_row h =
      first-none m column (λ c lc. first-none n (F c) (λ r lr. first-parts m (λ c. F c r) (h r lr) c lc))
      ∙ sym (first-none n row h)

  -- Row R is the first with a hit, and C is the first column with a hit in it.
  module _ (R : Hit n row) (C : Hit m (λ c. F c R.at)) where
    above : (c r : ℕ) → c < m → r < R.at → F c r ≡ None
    above c r lc lr = first-parts m (λ c. F c r) (R.before r lr) c lc

    -- From row R on no column before C has a hit.
    beyond : (c r : ℕ) → c < C.at → R.at ≤ r → F c r ≡ None
    beyond c r lc lr =
        ⊎_elim (λ e. e)
        (λ e. ⊎_elim (λ i. absurd (omega (arith, stairs C.at R.at c r C.hit e i)))
        (λ i. let d : r ≡ R.at = omega arith in ap (F c) d ∙ C.before c lc) (le-or-lt (suc R.at) r))
        (clear-or-not (F c r))

    by-column : column C.at ≡ F C.at R.at
    by-column = first-hit n R.at (F C.at) R.below (λ r lr. above C.at r C.below lr) C.hit

    before-column : (c : ℕ) → c < C.at → column c ≡ None
    before-column c lc =
        first-none n (F c) (λ r lr.
        ⊎_elim (λ i. above c r (omega (arith, C.below)) i) (λ i. beyond c r lc (omega arith))
        (le-or-lt (suc r) R.at))

    found : first m column ≡ first n row
    found =
        first-hit m C.at column C.below before-column (ap is_clear by-column ∙ C.hit)
        ∙ by-column ∙ sym (hit-first C) ∙ sym (hit-first R)

  pub stairs-first : first m column ≡ first n row
  stairs-first =
      ⊎_elim no_row (λ R. found R (first_found m (λ c. F c R.at) R.hit)) (first-look n row)
