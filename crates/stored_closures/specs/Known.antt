-- Used by contracts between functions; nobody has to believe it: laws tie it to the definitions.
-- The table of `closures` that the code makes of the numbers.
--
--   Stands w h l t == t is a table for a floor of width w and height h, and holds the plain map `stored_in l`
use Rattle.std.specs.Prelude.{ℕ, ◌≡◌, List}
use Rattle.closures.specs.Table.{held}
use Rattle.closures.specs.declared.Closures.{Closures}
use Rattle.stored_closures.specs.Stored.{stored_in}

pub record Stands (w h : ℕ) (l : List ℕ) (t : Closures) : Type 0 where
  pub wide : t.width ≡ w
  pub high : t.height ≡ h
  pub same : held t ≡ stored_in l
