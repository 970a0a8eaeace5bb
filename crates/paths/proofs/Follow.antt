-- Following a rule from vertex to vertex.
--
--   follow-end, follow-on     == `follow next b (n + 1) v` is the list of v alone where v is b, and else v before
--                                `follow` from the next vertex
--   follow-length             == `follow next b n v` has at most n points
--   follow-inside             == the points of `follow` are vertices, where the rule leads from each vertex to a vertex
--   Arrives next b f v        == from v the rule comes to b within f points
--   arrives-begins            == where the rule arrives at b from v, the list of `follow` begins with v
--   follow-cong, arrives-cong == two rules that agree at every vertex have the same list, and both arrive or neither
use Prim.Native.Nat.{ℕ, zero, suc, ◌≤◌, ◌<◌}
use mathlib.Core.Path.{◌≡◌, refl, sym, ap, ◌∙◌}
use mathlib.Core.Logic.{⊎_elim}
use mathlib.Core.Option.{Option, none, some}
use mathlib.Core.List.{List, [], ◌∷◌}
use native.Mathlib.Omega.{arith}
use borrow.Author.Tests.{eq-eqb, ne_eqb}
use lib.ListN.{length, get_or}
use Rattle.basics.proofs.Order.{eq-or-ne}
use Rattle.paths.specs.Route.{follow}

module _ (next : ℕ → Option ℕ) (b : ℕ) where
  pub follow-end : (n v : ℕ) → v ≡ b → follow next b (suc n) v ≡ v ∷ []
  unfolding follow
  follow-end n v e = rw (eq-eqb v b e, follow)

  pub follow-on : (n v w : ℕ) → (v ≡ b → ⊥) → next v ≡ some w → follow next b (suc n) v ≡ v ∷ follow next b n w
  unfolding follow
  follow-on n v w ne e = rw (ne_eqb v b ne, e, follow)

  follow-stuck : (n v : ℕ) → (v ≡ b → ⊥) → next v ≡ none → follow next b (suc n) v ≡ v ∷ []
  unfolding follow
  follow-stuck n v ne e = rw (ne_eqb v b ne, e, follow)

  -- A list of one point, or of one point and the rest.
  follow-cases : (P : List ℕ → Type 0) (n v : ℕ) → P (v ∷ [])
      → ((w : ℕ) → next v ≡ some w → P (v ∷ follow next b n w)) → P (follow next b (suc n) v)
  follow-cases P n v one more =
      ⊎_elim (λ e. rw (follow-end n v e) one) (λ ne. cases (next v) refl ne) (eq-or-ne v b)
    where
      cases : (o : Option ℕ) → next v ≡ o → (v ≡ b → ⊥) → P (follow next b (suc n) v)
      cases none e ne = rw (follow-stuck n v ne e) one
      cases (some w) e ne = rw (follow-on n v w ne e) (more w e)

  pub follow-length : (n v : ℕ) → length (follow next b n v) ≤ n
  unfolding follow
  follow-length zero v = omega arith
  follow-length (suc n) v =
      follow-cases (λ l. length l ≤ suc n) n v (omega arith) (λ w e. omega (arith, follow-length n w))

  module _ (size : ℕ) (inside : (v w : ℕ) → v < size → next v ≡ some w → w < size) where
    pub follow-inside : (n v i : ℕ) → v < size → i < length (follow next b n v) → get_or (follow next b n v) i 0 < size
    unfolding follow
    follow-inside zero v i lt k = absurd (omega arith)
    follow-inside (suc n) v i lt k =
        follow-cases (λ l. i < length l → get_or l i 0 < size) n v (one i)
        (λ w e. more i w (λ j q. follow-inside n w j (inside v w lt e) q)) k
      where
        one : (i : ℕ) → i < length (v ∷ []) → get_or (v ∷ []) i 0 < size
        one zero q = lt
        one (suc i) q = absurd (omega arith)

        more : (i w : ℕ) → ((j : ℕ) → j < length (follow next b n w) → get_or (follow next b n w) j 0 < size)
            → i < length (v ∷ follow next b n w) → get_or (v ∷ follow next b n w) i 0 < size
        more zero w h q = lt
        more (suc i) w h q = h i (omega arith)

pub data Arrives (next : ℕ → Option ℕ) (b : ℕ) : ℕ → ℕ → Type 0 where
  end : {f v : ℕ} → v ≡ b → Arrives next b (suc f) v
  on : {f v : ℕ} (w : ℕ) → (v ≡ b → ⊥) → next v ≡ some w → Arrives next b f w → Arrives next b (suc f) v

pub arrives-begins : {next : ℕ → Option ℕ} {b f v : ℕ} → Arrives next b f v
    → (r : List ℕ) × (follow next b f v ≡ v ∷ r)
arrives-begins {next} {b} (end {f} {v} e) = (_, follow-end next b f v e)
arrives-begins {next} {b} (on {f} {v} w ne e r) = (_, follow-on next b f v w ne e)

pub arrives-pos : {next : ℕ → Option ℕ} {b f v : ℕ} → Arrives next b f v → 1 ≤ length (follow next b f v)
arrives-pos r = let q = arrives-begins r in rw q.1 (omega arith)

-- ---- two rules that agree on the vertices

module _ (next next' : ℕ → Option ℕ) (b size : ℕ) (same : (v : ℕ) → v < size → next v ≡ next' v)
    (inside : (v w : ℕ) → v < size → next' v ≡ some w → w < size) where
  pub follow-cong : (n v : ℕ) → v < size → follow next b n v ≡ follow next' b n v
  unfolding follow
  follow-cong zero v i = refl
  follow-cong (suc n) v i =
      ⊎_elim (λ e. follow-end next b n v e ∙ sym (follow-end next' b n v e))
      (λ ne. cases (next' v) refl ne (λ w e. follow-cong n w (inside v w i e))) (eq-or-ne v b)
    where
      cases : (o : Option ℕ) → next' v ≡ o → (v ≡ b → ⊥)
          → ((w : ℕ) → next' v ≡ some w → follow next b n w ≡ follow next' b n w)
          → follow next b (suc n) v ≡ follow next' b (suc n) v
      cases none e ne below = follow-stuck next b n v ne (same v i ∙ e) ∙ sym (follow-stuck next' b n v ne e)
      cases (some w) e ne below =
          follow-on next b n v w ne (same v i ∙ e) ∙ ap (λ l. v ∷ l) (below w e) ∙ sym (follow-on next' b n v w ne e)

  pub arrives-cong : {f v : ℕ} → v < size → Arrives next' b f v → Arrives next b f v
  arrives-cong i (end e) = end e
  arrives-cong i (on {v = v} w ne e r) = on w ne (same v i ∙ e) (arrives-cong (inside v w i e) r)
