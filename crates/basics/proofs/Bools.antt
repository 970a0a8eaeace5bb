-- Laws of truth values, and of the tests `ltb` and `eqb`.
use Prim.Native.Nat.{ℕ, suc, ◌+◌}
use mathlib.Core.Path.{◌≡◌, refl, sym, ◌∙◌}
use mathlib.Core.Bool.{Bool, true, false, ◌&&◌, ◌||◌, not, true≢false}
use mathlib.Core.Logic.{◌⊎◌, inl, inr, ⊎_elim}
use native.Mathlib.Omega.{arith}
use borrow.Author.Tests.{lt-ltb, le-ltb, ne_eqb}
use lib.Dec.{ltb, eqb}
use Rattle.basics.proofs.Order.{le-or-lt, eq-or-ne}

-- Truth values that imply each other are equal.
pub iff-eq : (a b : Bool) → (a ≡ true → b ≡ true) → (b ≡ true → a ≡ true) → a ≡ b
iff-eq true b f g = sym (f refl)
iff-eq false true f g = g refl
iff-eq false false f g = refl

pub true-or-false : (b : Bool) → (b ≡ true) ⊎ (b ≡ false)
true-or-false true = inl refl
true-or-false false = inr refl

pub not-both : {P : Type 0} (b : Bool) → b ≡ true → b ≡ false → P
not-both b p q = absurd (true≢false (sym p ∙ q))

pub and_intro : (a b : Bool) → a ≡ true → b ≡ true → (a && b) ≡ true
and_intro a b p q = rw (p, q)

pub and_left : (a b : Bool) → (a && b) ≡ true → a ≡ true
and_left true b e = refl
and_left false b e = e

pub and_right : (a b : Bool) → (a && b) ≡ true → b ≡ true
and_right true b e = e
and_right false b e = absurd (true≢false (sym e))

pub and_both : (a b : Bool) → (a && b) ≡ true → (a ≡ true) × (b ≡ true)
and_both a b e = (and_left a b e, and_right a b e)

pub all-six : (p q r s t u : Bool) → (p && q && r && s && t && u) ≡ true
    → (p ≡ true) × (q ≡ true) × (r ≡ true) × (s ≡ true) × (t ≡ true) × (u ≡ true)
all-six p q r s t u e =
    let e1 = and_left (p && q && r && s && t) u e in
    let e2 = and_left (p && q && r && s) t e1 in
    let e3 = and_left (p && q && r) s e2 in
    let e4 = and_left (p && q) r e3 in (
      and_left p q e4,
      and_right p q e4,
      and_right (p && q) r e3,
      and_right (p && q && r) s e2,
      and_right (p && q && r && s) t e1,
      and_right (p && q && r && s && t) u e,
    )

pub and_comm : (a b : Bool) → (a && b) ≡ (b && a)
and_comm true true = refl
and_comm true false = refl
and_comm false true = refl
and_comm false false = refl

pub or_left : (a b : Bool) → a ≡ true → (a || b) ≡ true
or_left true b e = refl
or_left false b e = absurd (true≢false (sym e))

pub or_right : (a b : Bool) → b ≡ true → (a || b) ≡ true
or_right true b e = refl
or_right false b e = e

pub or_cases : (a b : Bool) → (a || b) ≡ true → (a ≡ true) ⊎ (b ≡ true)
or_cases true b e = inl refl
or_cases false b e = inr e

-- A proof of not (a && b) may assume b.
pub not-and : (a b : Bool) → (b ≡ true → not (a && b) ≡ true) → not (a && b) ≡ true
not-and true true h = h refl
not-and true false h = refl
not-and false b h = refl

-- a < b and c < d say the same where b - a = d - c.
pub ltb-shift : (a b c d : ℕ) → a + d ≡ b + c → ltb a b ≡ ltb c d
ltb-shift a b c d e =
    ⊎_elim (λ lt. lt-ltb a b lt ∙ sym (lt-ltb c d (omega arith)))
    (λ ge. le-ltb a b (omega arith) ∙ sym (le-ltb c d (omega arith)))
    (le-or-lt (suc a) b)

pub eqb-sym : (a b : ℕ) → eqb a b ≡ eqb b a
eqb-sym a b = ⊎_elim (λ e. rw e) (λ ne. ne_eqb a b ne ∙ sym (ne_eqb b a (λ e. ne (sym e)))) (eq-or-ne a b)
