-- Used by contracts between functions; nobody has to believe it: laws tie it to the definitions.
-- A cell or a step is in the way of a move exactly where the four cells in its middle say so.
--
--   beside d l r == along one axis, an offset d is shut by the cells l before and r after a line; true stands for
--                   blocked
--   window_blocked dx dy ul ur ll lr == a move by dx and dy is shut by the four cells at the vertex in its middle: upper
--                    left, upper right, lower left, lower right
--   centre d a   == the line between the two cells that an offset d from line a passes or goes between
use Rattle.std.specs.Prelude.{ℕ, zero, suc, ◌-◌, Bool, ◌&&◌, ◌||◌, ℤ, pos, negsuc}

-- An offset of one line passes the cell on that side. An offset of two passes both cells, and is shut where either is
-- blocked. An offset of none goes along the line between the cells, and is shut where both are blocked.
unfoldable pub beside : ℤ → Bool → Bool → Bool
beside (pos zero) l r = l && r
beside (pos (suc zero)) l r = r
beside (pos (suc (suc n))) l r = l || r
beside (negsuc zero) l r = l
beside (negsuc (suc n)) l r = l || r

abbrev pub window_blocked : ℤ → ℤ → Bool → Bool → Bool → Bool → Bool
window_blocked dx dy ul ur ll lr = beside dx (beside dy ul ll) (beside dy ur lr)

-- The line a itself; for an offset of two lines, the line between a and the far one.
unfoldable pub centre : ℤ → ℕ → ℕ
centre (pos zero) a = a
centre (pos (suc zero)) a = a
centre (pos (suc (suc n))) a = suc a
centre (negsuc zero) a = a
centre (negsuc (suc n)) a = a - 1
