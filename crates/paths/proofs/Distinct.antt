-- No walk is listed twice.
--
--   walks-distinct   == no two places of `walks g k u t` have the same walk, so that its length counts different walks
use Prim.Native.Nat.{ℕ, zero, suc, ◌<◌}
use mathlib.Core.Path.{◌≡◌, refl, sym, ap, ◌∙◌, subst}
use mathlib.Core.Logic.{⊎_elim}
use mathlib.Core.Bool.{Bool, true, false, ◌&&◌}
use mathlib.Core.Option.{Option, none, some}
use mathlib.Core.List.Memᴰ
use mathlib.Core.List.{List, [], ◌∷◌, ◌++◌, map, Memᴰ}
use mathlib.Core.List.{tail-eq_of_cons-eq}
use native.Mathlib.Omega.{arith}
use lib.Dec.{eqb}
use Rattle.paths.specs.Graph.{Graph, Lawful}
use Rattle.paths.specs.Walk.{Distinct, gather, onward, less, still, listed, walks}
use Rattle.paths.proofs.Listing.{walk_begins, listed_by, listed_by-first, listed-sound, gather-cases, still-cases}

module _ {A : Type 0} where
  distinct_append : (s t : List A) → Distinct s → Distinct t → ((x : A) → Memᴰ x s → Memᴰ x t → ⊥)
      → Distinct (s ++ t)
  distinct_append [] t a b h = b
  distinct_append (x ∷ s) t a b h = (
    λ m. ⊎_elim a.0 (h x (Memᴰ.head refl)) (Memᴰ.append_cases s m),
    distinct_append s t a.1 b (λ y p q. h y (Memᴰ.tail p) q),
  )

  distinct-gather : (n : ℕ) (F : ℕ → List A) → ((m : ℕ) → m < n → Distinct (F m))
      → ((i j : ℕ) (x : A) → i < n → j < n → Memᴰ x (F i) → Memᴰ x (F j) → i ≡ j) → Distinct (gather n F)
  unfolding gather
  distinct-gather zero F d h = tt
  distinct-gather (suc n) F d h =
      distinct_append (gather n F) (F n)
      (distinct-gather n F (λ m l. d m (omega arith)) (λ i j x p q. h i j x (omega arith) (omega arith)))
      (d n (omega arith))
      (λ x a b. let r = gather-cases n F a in
      omega (arith, h r.0 n x (omega (arith, r.1)) (omega arith) r.2 b, r.1))

  distinct-onward : (o : Option ℕ) (F : ℕ → List A) → ((w : ℕ) → o ≡ some w → Distinct (F w)) → Distinct (onward o F)
  unfolding onward
  distinct-onward none F h = tt
  distinct-onward (some w) F h = h w refl

distinct_cons : (y : ℕ) (s : List (List ℕ)) → Distinct s → Distinct (map (λ l. y ∷ l) s)
distinct_cons y [] d = tt
distinct_cons y (l ∷ s) d = (
  λ m. let r = Memᴰ.of_map (λ l. y ∷ l) s m in
      d.0 (subst (λ z. Memᴰ z s) (tail-eq_of_cons-eq r.2) r.1),
  distinct_cons y s d.1,
)

distinct-still : (k u t : ℕ) → Distinct (still k u t)
unfolding still
distinct-still k u t = cases (eqb k 0 && eqb u t)
  where
    cases : (b : Bool) → Distinct {A = List ℕ} (elim b [ true ↦ (u ∷ []) ∷ [] | false ↦ [] ])
    cases true = (λ m. Memᴰ.not-nil m, tt)
    cases false = tt

module _ (g : Graph) (L : Lawful g) (t : ℕ) where
  -- A walk that begins with the move m has the far end of m as its second vertex.
  second : (f k u m : ℕ) {l : List ℕ} → Memᴰ l (listed_by g f k u t m)
      → (w : ℕ) × (g.step m u ≡ some w) × (r : List ℕ) × (l ≡ u ∷ w ∷ r)
  second f k u m h =
      let a = listed_by-first g f k u t m h in
      let b = walk_begins (listed-sound g f a.rest a.to t a.listed_after) in
      (a.to, a.goes, b.0, sym a.list ∙ ap (λ x. u ∷ x) b.1)

  -- So two walks that begin with different moves have different second vertices.
  apart : (f k u m n : ℕ) {l : List ℕ} → u < g.size → m < g.moves → n < g.moves
      → Memᴰ l (listed_by g f k u t m) → Memᴰ l (listed_by g f k u t n) → m ≡ n
  apart f k u m n i p q a b =
      let c = second f k u m a in
      let d = second f k u n b in
      let e : d.0 ≡ c.0 = cc (c.3, d.3) in
      L.distinct m n u c.0 p q i c.1 (d.1 ∙ ap some e)

  listed-distinct : (f k u : ℕ) → u < g.size → Distinct (listed g f k u t)
  unfolding listed
  listed-distinct zero k u i = distinct-still k u t
  listed-distinct (suc f) k u i =
      distinct_append (still k u t) (gather g.moves (listed_by g f k u t)) (distinct-still k u t)
      (distinct-gather g.moves (listed_by g f k u t)
      (λ m lt. distinct-onward (g.step m u) _ (λ w st. distinct-onward (less k (g.cost m)) _ (λ r e.
      distinct_cons u (listed g f r w t) (listed-distinct f r w (L.inside m u w lt i st)))))
      (λ m n x p q a b. apart f k u m n i p q a b))
      (λ x a b. let c = gather-cases g.moves (listed_by g f k u t) b in
      let d = second f k u c.0 c.2 in
      let e = (still-cases k u t a).2 in
      let z : ◌≡◌ {A = ℕ} 0 1 = cc (e, d.3) in omega arith)

  pub walks-distinct : (k u : ℕ) → u < g.size → Distinct (walks g k u t)
  unfolding walks
  walks-distinct k u i = listed-distinct k k u i
