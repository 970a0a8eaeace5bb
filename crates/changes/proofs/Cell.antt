-- One cell on two floors: x says whether it is blocked on the first, y whether on the second. It closes where
-- `not x && y` holds, and opens where `x && not y` does.
--
--   apart         == no cell closes and opens
--   beq_same      == x = y where the code's test finds them equal
--   same-neither  == where x = y the cell neither closes nor opens
--   neither-same  == where the cell neither closes nor opens, x = y
--   other_differs == where x /= y the cell closes or opens
--   differs-other == where the cell closes or opens, x /= y
--   other-closes  == where x /= y and y holds, the cell closes and does not open
--   other-opens   == where x /= y and y fails, the cell opens and does not close
use mathlib.Core.Path.{◌≡◌, refl, sym}
use mathlib.Core.Bool.{Bool, true, false, ◌&&◌, ◌||◌, not, true≢false, beq}

pub apart : (x y : Bool) → ((not x && y) && (x && not y)) ≡ false
apart true true = refl
apart true false = refl
apart false true = refl
apart false false = refl

pub beq_same : (x y : Bool) → beq x y ≡ true → x ≡ y
beq_same true true e = refl
beq_same true false e = absurd (true≢false (sym e))
beq_same false true e = absurd (true≢false (sym e))
beq_same false false e = refl

pub same-neither : (x y : Bool) → x ≡ y → ((not x && y) ≡ false) × ((x && not y) ≡ false)
same-neither true true e = (refl, refl)
same-neither true false e = absurd (true≢false e)
same-neither false true e = absurd (true≢false (sym e))
same-neither false false e = (refl, refl)

pub neither-same : (x y : Bool) → (not x && y) ≡ false → (x && not y) ≡ false → x ≡ y
neither-same true true e i = refl
neither-same true false e i = absurd (true≢false i)
neither-same false true e i = absurd (true≢false e)
neither-same false false e i = refl

pub other_differs : (x y : Bool) → (x ≡ y → ⊥) → ((not x && y) || (x && not y)) ≡ true
other_differs true true e = absurd (e refl)
other_differs true false e = refl
other_differs false true e = refl
other_differs false false e = absurd (e refl)

pub differs-other : (x y : Bool) → ((not x && y) || (x && not y)) ≡ true → x ≡ y → ⊥
differs-other true true e q = true≢false (sym e)
differs-other true false e q = true≢false q
differs-other false true e q = true≢false (sym q)
differs-other false false e q = true≢false (sym e)

pub other-closes : (x y : Bool) → beq x y ≡ false → y ≡ true → ((not x && y) ≡ true) × ((x && not y) ≡ false)
other-closes x false e i = absurd (true≢false (sym i))
other-closes true true e i = absurd (true≢false e)
other-closes false true e i = (refl, refl)

pub other-opens : (x y : Bool) → beq x y ≡ false → y ≡ false → ((not x && y) ≡ false) × ((x && not y) ≡ true)
other-opens x true e i = absurd (true≢false i)
other-opens true false e i = (refl, refl)
other-opens false false e i = absurd (true≢false e)
