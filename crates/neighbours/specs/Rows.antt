-- Used by contracts between functions; nobody has to believe it: laws tie it to the definitions.
-- A test of each vertex of a row, by its number and its mask, that is handed in as a closure.
--
--   RowCalls w y m pre    == the test may be run at each vertex of row y, on a floor of width w with the masks m
--   RowTold w y m post r  == whatever p x each test from x = 0 to w answers, r says whether p x for every x ≤ w
use Rattle.std.specs.Prelude.{ℕ, suc, ◌+◌, ◌*◌, ◌≤◌, ◌≡◌, Bool, List, get_or}
use Rattle.basics.specs.Bounded.{every}

abbrev pub RowCalls : ℕ → ℕ → List ℕ → (ℕ → ℕ → Type 0) → Type 0
RowCalls w y m pre = (x : ℕ) → x ≤ w → pre (y * (w + 1) + x) (get_or m x 0)

abbrev pub RowTold : ℕ → ℕ → List ℕ → (ℕ → ℕ → Bool → Type 0) → Bool → Type 0
RowTold w y m post r =
    (p : ℕ → Bool) → ((x : ℕ) (b : Bool) → x ≤ w → post (y * (w + 1) + x) (get_or m x 0) b → b ≡ p x)
    → r ≡ every (suc w) p
