-- Lists of numbers: what a slice holds.
--
--   tabulate n F    == F 0, F 1, .. F (n - 1)
--   padded n l      == the list l, then 0 up to n places
--   zeros n         == n times 0
--   same k l        == k = l, as a test
--   chosen n p      == the k < n with p k, ascending
--   differences k l == the number of places i < length k where k and l differ
--   differences_by e k l == the number of pairs of k and l, place by place, that e does not find equal
use Rattle.std.specs.Prelude.{ℕ, zero, suc, ◌-◌, Bool, true, false, ◌&&◌, not, List, [], ◌∷◌, ◌++◌, eqb, length, get_or, replicate}
use Rattle.std.specs.List.{count_by, zip}
use Rattle.basics.specs.Bounded.{pick, count}

unfoldable pub tabulate : ℕ → (ℕ → ℕ) → List ℕ
tabulate zero F = []
tabulate (suc n) F = tabulate n F ++ (F n ∷ [])

abbrev pub zeros : ℕ → List ℕ
zeros n = replicate n 0

unfoldable pub padded : ℕ → List ℕ → List ℕ
padded n l = l ++ zeros (n - length l)

unfoldable pub same : List ℕ → List ℕ → Bool
same [] [] = true
same [] (y ∷ l) = false
same (x ∷ k) [] = false
same (x ∷ k) (y ∷ l) = eqb x y && same k l

unfoldable pub chosen : ℕ → (ℕ → Bool) → List ℕ
chosen zero p = []
chosen (suc n) p = chosen n p ++ pick (p n) (n ∷ []) []

unfoldable pub differences : List ℕ → List ℕ → ℕ
differences k l = count (length k) (λ i. not (eqb (get_or k i 0) (get_or l i 0)))

-- Used by contracts between functions; nobody has to believe it: a law ties it to `differences`.
abbrev pub differences_by : {A : Type 0} → (A → A → Bool) → List A → List A → ℕ
differences_by e k l = count_by (λ p. not (e p.0 p.1)) (zip k l)

-- On an `unfolding` line `lists-opened` stands for `tabulate padded same chosen differences`; theorems that are
-- computed use it.
unfoldable pub lists-opened : ℕ
unfolding tabulate padded same chosen differences
lists-opened = 0
