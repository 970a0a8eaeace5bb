-- docs/RULES.md, 2.1 to 2.7: the three faults of a segment between vertices, in whole numbers: it enters a blocked
-- cell, it has a shut step, or it is longer than zero and starts at, ends at or passes through a pinch.
--
--   Segment             == from the vertex (x0, y0) to the vertex (x1, y1)
--   segment_of a b c d  == the segment from the vertex (a, b) to the vertex (c, d)
--   cross s p q         == the cross product (x1-x0)(q-y0) - (y1-y0)(p-x0); `pos n` is the number n of ℕ in ℤ
--   positive s p q, negative s p q == cross s p q > 0, and cross s p q < 0
--   enters s i j        == the segment enters cell (i, j)
--   no_cell_entered f s == no blocked cell is entered by s
--   no_step_shut f s    == where s goes along a grid line, no unit step of s has blocked cells on both sides; outside
--                          the floor counts as blocked
--   unblocked f s       == s enters no blocked cell and has no shut step
--   pinch f x y         == exactly two of the four cells at the vertex (x, y) are blocked, and they are diagonal to
--                          each other
--   passes s p q        == s starts at, ends at or passes through the vertex (p, q)
--   no_pinch_passed f s == no vertex that s passes is a pinch
--   still s             == s has no length: its two ends are the same vertex
--   sees f s            == the ends of s see each other: s is unblocked, and passes no pinch unless it has no length
--   between a b k       == min a b ≤ k and k + 1 ≤ max a b
--   spans a b p         == min a b ≤ p and p ≤ max a b
--   segment w a b       == the segment from vertex number a to vertex number b
use Rattle.std.specs.Prelude.{ℕ, suc, min, max, Bool, ◌&&◌, ◌||◌, not, leb, ltb, eqb, ℤ, pos, ◌-ℤ◌, ◌*ℤ◌}
use Rattle.std.specs.Int.Signed.{lt_z}
use Rattle.basics.specs.Bounded.{every}
use Rattle.floor.specs.Floor.{Floor, blocked, column, row}

pub record Segment : Type 0 where
  pub x0 : ℕ
  pub y0 : ℕ
  pub x1 : ℕ
  pub y1 : ℕ

abbrev pub segment_of : ℕ → ℕ → ℕ → ℕ → Segment
segment_of a b c d = record { x0 = a; y0 = b; x1 = c; y1 = d }

unfoldable pub segment : ℕ → ℕ → ℕ → Segment
segment w a b = segment_of (column w a) (row w a) (column w b) (row w b)

-- On which side of the line of s the point (p, q) is; 0 on the line.
unfoldable pub cross : Segment → ℕ → ℕ → ℤ
cross s p q =
    (pos s.x1 -ℤ pos s.x0) *ℤ (pos q -ℤ pos s.y0) -ℤ (pos s.y1 -ℤ pos s.y0) *ℤ (pos p -ℤ pos s.x0)

unfoldable pub positive : Segment → ℕ → ℕ → Bool
positive s p q = lt_z (pos 0) (cross s p q)

unfoldable pub negative : Segment → ℕ → ℕ → Bool
negative s p q = lt_z (cross s p q) (pos 0)

unfoldable pub between : ℕ → ℕ → ℕ → Bool
between a b k = leb (min a b) k && ltb k (max a b)

-- One of the four corners of cell (i, j) passes the test.
unfoldable pub corner : (ℕ → ℕ → Bool) → ℕ → ℕ → Bool
corner p i j = p i j || p (suc i) j || p i (suc j) || p (suc i) (suc j)

unfoldable pub enters : Segment → ℕ → ℕ → Bool
enters s i j =
    between s.x0 s.x1 i && between s.y0 s.y1 j && (corner (positive s) i j && corner (negative s) i j)

unfoldable pub no_cell_entered : Floor → Segment → Bool
no_cell_entered f s = every f.wide (λ i. every f.high (λ j. not (blocked f (suc i) (suc j) && enters s i j)))

-- The two cells beside the step along column line x from (x, j) to (x, j + 1) are not both blocked.
unfoldable pub upright_open : Floor → ℕ → ℕ → Bool
upright_open f x j = not (blocked f x (suc j) && blocked f (suc x) (suc j))

-- The two cells beside the step along row line y from (i, y) to (i + 1, y) are not both blocked.
unfoldable pub level_open : Floor → ℕ → ℕ → Bool
level_open f i y = not (blocked f (suc i) y && blocked f (suc i) (suc y))

unfoldable pub no_step_shut : Floor → Segment → Bool
no_step_shut f s =
    (not (eqb s.x0 s.x1) || every f.high (λ j. not (between s.y0 s.y1 j) || upright_open f s.x0 j))
    && (not (eqb s.y0 s.y1) || every f.wide (λ i. not (between s.x0 s.x1 i) || level_open f i s.y0))

unfoldable pub unblocked : Floor → Segment → Bool
unblocked f s = no_cell_entered f s && no_step_shut f s

-- ---- pinches

-- The cells at the vertex (x, y) on one diagonal are blocked and those on the other are open.
unfoldable pub pinch : Floor → ℕ → ℕ → Bool
pinch f x y =
    (blocked f x y && blocked f (suc x) (suc y) && (not (blocked f (suc x) y) && not (blocked f x (suc y))))
    || (not (blocked f x y) && not (blocked f (suc x) (suc y)) && (blocked f (suc x) y && blocked f x (suc y)))

unfoldable pub spans : ℕ → ℕ → ℕ → Bool
spans a b p = leb (min a b) p && leb p (max a b)

-- The vertex is in the box of s, its edges counted, and on the line of s.
unfoldable pub passes : Segment → ℕ → ℕ → Bool
passes s p q = spans s.x0 s.x1 p && spans s.y0 s.y1 q && (not (positive s p q) && not (negative s p q))

unfoldable pub no_pinch_passed : Floor → Segment → Bool
no_pinch_passed f s = every (suc f.wide) (λ p. every (suc f.high) (λ q. not (pinch f p q && passes s p q)))

abbrev pub still : Segment → Bool
still s = eqb s.x0 s.x1 && eqb s.y0 s.y1

unfoldable pub sees : Floor → Segment → Bool
sees f s = unblocked f s && (still s || no_pinch_passed f s)

-- Named on an `unfolding` line, this opens all of these definitions, for a theorem that antt computes.
unfoldable pub sight-opened : ℕ
unfolding segment cross positive negative between corner enters no_cell_entered upright_open level_open no_step_shut unblocked
    pinch spans passes no_pinch_passed sees
sight-opened = 0
