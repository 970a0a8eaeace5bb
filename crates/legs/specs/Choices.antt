-- docs/RULES.md, 10.1 and 10.2: the rising clear choices of positions of a list, and the fewest legs from a position to
-- the last one. `s i j` says that the vertices at positions i and j see each other; the list has n positions.
--
--   Leg s n i j       == a leg from position i to position j: j is one of the later positions, and i sees it
--   Choice s n i l    == the positions l are a rising clear choice from i to the last: they start with i and end with n
--                        - 1, and from each to the next is a leg. It has one leg fewer than positions
--   Fewest s n i k    == k is the fewest legs from i over all rising clear choices: one has k legs, and none has fewer
--   is_leg s n i j    == the test of a leg
--   leads_in s n k i  == some rising clear choice from i has k legs
--   fewest_legs s n i == the least such k: the fewest legs from i, where each position sees the next
--
-- That `fewest_legs` is the minimum that `Fewest` says is a law: `fewest-legs` of proofs/Fewest.antt.
use Rattle.std.specs.Prelude.{ℕ, zero, suc, ◌≤◌, ◌<◌, ◌≡◌, Bool, true, ◌&&◌, List, [], ◌∷◌, ltb, eqb, length}
use Rattle.basics.specs.Bounded.{any, seek}

pub record Leg (s : ℕ → ℕ → Bool) (n i j : ℕ) : Type 0 where
  pub later : i < j
  pub within : j < n
  pub sees : s i j ≡ true

pub data Choice (s : ℕ → ℕ → Bool) (n : ℕ) : ℕ → List ℕ → Type 0 where
  last : {i : ℕ} → suc i ≡ n → Choice s n i (i ∷ [])
  leg : {i j : ℕ} {l : List ℕ} → Leg s n i j → Choice s n j l → Choice s n i (i ∷ l)

pub record Fewest (s : ℕ → ℕ → Bool) (n i k : ℕ) : Type 0 where
  pub some : (l : List ℕ) × Choice s n i l × (length l ≡ suc k)
  pub least : (l : List ℕ) → Choice s n i l → suc k ≤ length l

unfoldable pub is_leg : (ℕ → ℕ → Bool) → ℕ → ℕ → ℕ → Bool
is_leg s n i j = ltb i j && (ltb j n && s i j)

unfoldable pub leads_in : (ℕ → ℕ → Bool) → ℕ → ℕ → ℕ → Bool
leads_in s n zero i = eqb (suc i) n
leads_in s n (suc k) i = any n (λ j. is_leg s n i j && leads_in s n k j)

-- A choice has at most n positions, so fewer than n legs.
unfoldable pub fewest_legs : (ℕ → ℕ → Bool) → ℕ → ℕ → ℕ
fewest_legs s n i = seek n 0 (λ k. leads_in s n k i)

-- Named on an `unfolding` line, this opens all of the above, for a theorem that is computed.
unfoldable pub choices-opened : ℕ
unfolding is_leg leads_in fewest_legs
choices-opened = 0
