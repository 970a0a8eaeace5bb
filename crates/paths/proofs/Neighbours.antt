-- Sums and tests over the moves of a vertex: laws of `given`, `when-eq`, `inflow`, `if-there` and `is-there`.
--
--   inflow-cong    == inflow g D F v = inflow g D G v, where F and G agree at the neighbours w with D w + cost = D v
--   inflow-costs   == inflow g D F v = inflow g E F v, where D and E agree at v and its neighbours
--   inflow-mul     == c * inflow g D F v = inflow g D (c * F) v
use Prim.Native.Nat.{ℕ, ◌+◌, ◌*◌, ◌≤◌, ◌<◌}
use mathlib.Core.Path.{◌≡◌, refl, sym, ap₂, ◌∙◌}
use mathlib.Core.Logic.{⊎_elim}
use mathlib.Core.Bool.{Bool, true, true≢false}
use mathlib.Core.Option.{Option, none, some}
use native.Mathlib.Omega.{arith}
use borrow.Author.Tests.{eq-eqb, ne_eqb}
use Rattle.basics.specs.Bounded.{sum}
use Rattle.basics.proofs.Order.{eq-or-ne}
use Rattle.basics.proofs.Sums.{sum-cong, sum-zero, sum-mul}
use Rattle.paths.specs.Graph.{Graph}
use Rattle.paths.specs.Local.{given, if-there, is-there, when-eq, inflow}

-- ---- given

pub given-at : (o : Option ℕ) (w : ℕ) (F : ℕ → ℕ) → o ≡ some w → given o F ≡ F w
unfolding given
given-at o w F e = rw e

pub given-cong : (o : Option ℕ) (F G : ℕ → ℕ) → ((w : ℕ) → o ≡ some w → F w ≡ G w) → given o F ≡ given o G
unfolding given
given-cong none F G h = refl
given-cong (some w) F G h = h w refl

pub given-le : (o : Option ℕ) (F G : ℕ → ℕ) → ((w : ℕ) → o ≡ some w → F w ≤ G w) → given o F ≤ given o G
unfolding given
given-le none F G h = omega arith
given-le (some w) F G h = h w refl

pub given-zero : (o : Option ℕ) (F : ℕ → ℕ) → ((w : ℕ) → o ≡ some w → F w ≡ 0) → given o F ≡ 0
unfolding given
given-zero none F h = refl
given-zero (some w) F h = h w refl

pub given-pos : (o : Option ℕ) (F : ℕ → ℕ) → 0 < given o F → (w : ℕ) × (o ≡ some w) × (0 < F w)
unfolding given
given-pos none F h = absurd (omega arith)
given-pos (some w) F h = (w, refl, h)

pub given-add : (o : Option ℕ) (F G : ℕ → ℕ) → given o (λ w. F w + G w) ≡ given o F + given o G
unfolding given
given-add none F G = refl
given-add (some w) F G = refl

pub given-mul : (o : Option ℕ) (c : ℕ) (F : ℕ → ℕ) → given o F * c ≡ given o (λ w. F w * c)
unfolding given
given-mul none c F = omega arith
given-mul (some w) c F = refl

pub given-sum : (o : Option ℕ) (n : ℕ) (F : ℕ → ℕ → ℕ) → given o (λ w. sum n (F w)) ≡ sum n (λ m. given o (λ w. F w m))
unfolding given
given-sum none n F = sym (sum-zero n (λ m. 0) (λ m l. refl))
given-sum (some w) n F = refl

-- ---- when-eq

pub when-yes : (a b x : ℕ) → a ≡ b → when-eq a b x ≡ x
unfolding when-eq
when-yes a b x e = rw (eq-eqb a b e, when-eq)

pub when-no : (a b x : ℕ) → (a ≡ b → ⊥) → when-eq a b x ≡ 0
unfolding when-eq
when-no a b x ne = rw (ne_eqb a b ne, when-eq)

pub when-pos : (a b x : ℕ) → 0 < when-eq a b x → (a ≡ b) × (0 < x)
when-pos a b x h =
    ⊎_elim (λ e. (e, rw (when-yes a b x e) at h)) (λ ne. absurd (omega (arith, when-no a b x ne))) (eq-or-ne a b)

pub when-cong : (a b x y : ℕ) → (a ≡ b → x ≡ y) → when-eq a b x ≡ when-eq a b y
when-cong a b x y h =
    ⊎_elim (λ e. when-yes a b x e ∙ h e ∙ sym (when-yes a b y e)) (λ ne. when-no a b x ne ∙ sym (when-no a b y ne))
    (eq-or-ne a b)

pub when-mul : (a b x c : ℕ) → when-eq a b x * c ≡ when-eq a b (x * c)
when-mul a b x c =
    ⊎_elim (λ e. rw (when-yes a b x e, when-yes a b (x * c) e))
    (λ ne. rw (when-no a b x ne, when-no a b (x * c) ne) (omega arith)) (eq-or-ne a b)

-- ---- inflow

module _ (g : Graph) where
  pub inflow-cong : (D F G : ℕ → ℕ) (v : ℕ)
      → ((m w : ℕ) → m < g.moves → g.step m v ≡ some w → D w + g.cost m ≡ D v → F w ≡ G w)
      → inflow g D F v ≡ inflow g D G v
  unfolding inflow
  inflow-cong D F G v h =
      sum-cong g.moves _ _ (λ m lt. given-cong (g.step m v) _ _ (λ w st. when-cong _ _ (F w) (G w) (h m w lt st)))

  pub inflow-costs : (D E F : ℕ → ℕ) (v : ℕ) → D v ≡ E v
      → ((m w : ℕ) → m < g.moves → g.step m v ≡ some w → D w ≡ E w) → inflow g D F v ≡ inflow g E F v
  unfolding inflow
  inflow-costs D E F v e h = sum-cong g.moves _ _ (λ m lt. given-cong (g.step m v) _ _ (λ w st.
      ap₂ (λ x y. when-eq (x + g.cost m) y (F w)) (h m w lt st) e))

  pub inflow-mul : (D F : ℕ → ℕ) (v c : ℕ) → inflow g D F v * c ≡ inflow g D (λ w. F w * c) v
  unfolding inflow
  inflow-mul D F v c =
      sum-mul g.moves c _ ∙ sum-cong g.moves _ _ (λ m lt. given-mul (g.step m v) c _
      ∙ given-cong (g.step m v) _ _ (λ w st. when-mul (D w + g.cost m) (D v) (F w) c))

-- ---- tests of a far end

pub if-there-all : (o : Option ℕ) (p : ℕ → Bool) → ((w : ℕ) → o ≡ some w → p w ≡ true) → if-there o p ≡ true
unfolding if-there
if-there-all none p h = refl
if-there-all (some w) p h = h w refl

pub if-there-at : (o : Option ℕ) (p : ℕ → Bool) (w : ℕ) → o ≡ some w → if-there o p ≡ true → p w ≡ true
unfolding if-there
if-there-at o p w e h = rw e at h

pub is-there-cases : (o : Option ℕ) (p : ℕ → Bool) → is-there o p ≡ true → (w : ℕ) × (o ≡ some w) × (p w ≡ true)
unfolding is-there
is-there-cases none p e = absurd (true≢false (sym e))
is-there-cases (some w) p e = (w, refl, e)

pub is-there-at : (o : Option ℕ) (p : ℕ → Bool) (w : ℕ) → o ≡ some w → p w ≡ true → is-there o p ≡ true
unfolding is-there
is-there-at o p w e h = rw e h
