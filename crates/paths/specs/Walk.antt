-- Open walks (rule 4.1): "a list of vertices, each joined to the next by an open move. Its cost is the sum"; and the
-- open walks of a given cost, listed ("The definition lists walks; it doesn't run the summing").
--
--   Walk g k u t l        == the list l is an open walk from u to t that costs k
--   HasWalk g k u t       == there is an open walk from u to t that costs k
--   Distinct l            == no two places of the list l have the same element
--   ListsWalks g k u t ls == ls has exactly the open walks from u to t that cost k, each once
--   walks g k u t         == the list of the open walks from u to t that cost k (`walks-listed`, in
--                            proofs/Faithful.antt)
--
-- The listing goes by the first move: a walk is the vertex u alone, at cost 0, or an open move from u and then a walk
-- from its far end. Every move costs 1 or more, so a walk of cost k has at most k moves: that number bounds the
-- recursion of `listed`.
use Rattle.std.specs.Prelude.{ℕ, zero, suc, ◌+◌, ◌-◌, ◌<◌, ◌≡◌, ◌↔◌, true, false, ◌&&◌, leb, eqb}
use Rattle.std.proofs.Math.Option.{Option, none, some}
use mathlib.Core.List.{List, [], ◌∷◌, ◌++◌, map, Memᴰ}
use Rattle.paths.specs.Graph.{Graph}

-- The walk of one vertex costs 0; a move before a walk adds its cost.
pub data Walk (g : Graph) : ℕ → ℕ → ℕ → List ℕ → Type 0 where
  stop : {t : ℕ} → Walk g 0 t t (t ∷ [])
  go : {k u t : ℕ} {l : List ℕ} (m w : ℕ) → m < g.moves → g.step m u ≡ some w → Walk g k w t l
      → Walk g (g.cost m + k) u t (u ∷ l)

abbrev pub HasWalk : Graph → ℕ → ℕ → ℕ → Type 0
HasWalk g k u t = (l : List ℕ) × Walk g k u t l

-- ---- exactly these, each once

module _ {A : Type 0} where
  abbrev pub Distinct : List A → Type 0
  Distinct [] = Unit {0}
  Distinct (x ∷ l) = (Memᴰ x l → ⊥) × Distinct l

pub record ListsWalks (g : Graph) (k u t : ℕ) (ls : List (List ℕ)) : Type 0 where
  pub exactly : (l : List ℕ) → Memᴰ l ls ↔ Walk g k u t l
  pub each_once : Distinct ls

-- ---- the listing

-- The lists F 0, F 1, .. F (n - 1), one after the other.
unfoldable pub gather {ℓ} : {A : Type ℓ} → ℕ → (ℕ → List A) → List A
gather zero F = []
gather (suc n) F = gather n F ++ F n

-- The list F w where the option is some w, else the empty list.
unfoldable pub onward {ℓ} : {A : Type ℓ} → Option ℕ → (ℕ → List A) → List A
onward none F = []
onward (some w) F = F w

-- k - c where c is at most k, else none.
unfoldable pub less : ℕ → ℕ → Option ℕ
less k c = elim (leb c k) [ true ↦ some (k - c) | false ↦ none ]

-- The walk of the vertex u alone, where u is t and k is 0; else no walk.
unfoldable pub still : ℕ → ℕ → ℕ → List (List ℕ)
still k u t = elim (eqb k 0 && eqb u t) [ true ↦ (u ∷ []) ∷ [] | false ↦ [] ]

-- The open walks from u to t of at most f moves that cost k.
unfoldable pub listed : Graph → ℕ → ℕ → ℕ → ℕ → List (List ℕ)
listed g zero k u t = still k u t
listed g (suc f) k u t =
    still k u t
    ++ gather g.moves
    (λ m. onward (g.step m u) (λ w. onward (less k (g.cost m)) (λ r. map (λ l. u ∷ l) (listed g f r w t))))

unfoldable pub walks : Graph → ℕ → ℕ → ℕ → List (List ℕ)
walks g k u t = listed g k k u t

-- Named on an `unfolding` line, this opens all of these definitions, for a theorem that antt computes.
unfoldable pub walks-opened : ℕ
unfolding gather onward less still listed walks
walks-opened = 0
