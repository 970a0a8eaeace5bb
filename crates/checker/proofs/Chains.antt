-- A conjunction as the code runs it, test by test: where a test fails it is the whole's answer, and where it holds the
-- whole is the rest.
use mathlib.Core.Path.{◌≡◌, sym, ◌∙◌}
use mathlib.Core.Bool.{Bool, true, false, ◌&&◌}

-- k is the code's answer to the test p.
module _ {k p : Bool} (is : k ≡ p) where
  pub fails : (q : Bool) → k ≡ false → k ≡ (p && q)
  fails q t = rw (sym is ∙ t) t

  pub holds : {r q : Bool} → k ≡ true → r ≡ q → r ≡ (p && q)
  holds t e = rw (sym is ∙ t) e
