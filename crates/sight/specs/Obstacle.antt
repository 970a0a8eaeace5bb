-- docs/RULES.md, 2.8 to 2.10: the first obstacle of a segment, going from its first end.
--
--   span a b               == the number of cells between the grid lines a and b
--   cell_on a b k          == the k-th cell from grid line a towards grid line b, counted from 0
--   start_on a b k         == the grid line where the step past the k-th cell from a towards b begins
--   or_else o p            == o where it is not None, else p
--   first n F              == of F 0, F 1, .., F (n - 1) the first that is not None; None where each is
--   blocked_cell f s c r   == the cell c columns and r rows from the first end where it is blocked and entered, else
--                             None
--   upright_step f x a b k == the vertex where the k-th step along column line x begins, from row a towards row b,
--                             where the step is shut, else None
--   level_step f y a b k   == the vertex where the k-th step along row line y begins, from column a towards column b,
--                             where the step is shut, else None
--   blockage f s           == the first shut step of a segment along a grid line; of the blocked cells that a slanted
--                             segment enters, the one least far in columns from the first end, of equals least far in
--                             rows; None where there is none
--   passed_pinch f s c r   == the vertex c columns and r rows from the first end where it is a pinch and passed, else
--                             None
--   nearest_pinch f s      == of the pinches that s passes, the one least far in columns from the first end, of equals
--                             least far in rows: the nearest, since all are on one line
--   obstacle f s           == the blockage; where that is None and s has a length, the nearest pinch
--   is_clear o             == nothing is in the way
use Rattle.std.specs.Prelude.{ℕ, zero, suc, ◌+◌, ◌-◌, min, max, Bool, true, false, ◌&&◌, leb, eqb, Option, Some, None}
use Rattle.basics.specs.Bounded.{pick}
use Rattle.floor.specs.Floor.{Floor, cell_number, blocked, number}
use Rattle.sight.specs.Sight.{Segment, enters, upright_open, level_open, pinch, passes, still}
use Rattle.sight.specs.declared.Obstacle.{Obstacle}
use Rattle.sight.specs.declared.Obstacle.TheVariants.{Cell, Step, Pinch}

abbrev pub is_clear : Option Obstacle → Bool
is_clear None = true
is_clear (Some o) = false

-- As obstacles: the cell in column i and row j; the step that begins in the vertex (x, y); that vertex as a pinch.
abbrev pub cell_at : Floor → ℕ → ℕ → Option Obstacle
cell_at f i j = Some (Cell (record { 0 = cell_number f.wide i j }))

abbrev pub step_at : Floor → ℕ → ℕ → Option Obstacle
step_at f x y = Some (Step (record { 0 = number f.wide x y }))

abbrev pub pinch_at : Floor → ℕ → ℕ → Option Obstacle
pinch_at f x y = Some (Pinch (record { 0 = number f.wide x y }))

-- ---- counted from the first end

unfoldable pub span : ℕ → ℕ → ℕ
span a b = max a b - min a b

unfoldable pub cell_on : ℕ → ℕ → ℕ → ℕ
cell_on a b k = elim (leb a b) [ true ↦ a + k | false ↦ a - suc k ]

unfoldable pub start_on : ℕ → ℕ → ℕ → ℕ
start_on a b k = elim (leb a b) [ true ↦ a + k | false ↦ a - k ]

-- ---- the first that is in the way

abbrev pub or_else : Option Obstacle → Option Obstacle → Option Obstacle
or_else None p = p
or_else (Some o) p = Some o

unfoldable pub first : ℕ → (ℕ → Option Obstacle) → Option Obstacle
first zero F = None
first (suc n) F = or_else (first n F) (F n)

unfoldable pub blocked_cell : Floor → Segment → ℕ → ℕ → Option Obstacle
blocked_cell f s c r =
    let i = cell_on s.x0 s.x1 c in
    let j = cell_on s.y0 s.y1 r in
    pick (blocked f (suc i) (suc j) && enters s i j) (cell_at f i j) None

unfoldable pub upright_step : Floor → ℕ → ℕ → ℕ → ℕ → Option Obstacle
upright_step f x a b k = pick (upright_open f x (cell_on a b k)) None (step_at f x (start_on a b k))

unfoldable pub level_step : Floor → ℕ → ℕ → ℕ → ℕ → Option Obstacle
level_step f y a b k = pick (level_open f (cell_on a b k) y) None (step_at f (start_on a b k) y)

unfoldable pub blockage : Floor → Segment → Option Obstacle
blockage f s =
    pick (eqb s.x0 s.x1) (first (span s.y0 s.y1) (upright_step f s.x0 s.y0 s.y1))
    (pick (eqb s.y0 s.y1) (first (span s.x0 s.x1) (level_step f s.y0 s.x0 s.x1))
    (first (span s.x0 s.x1) (λ c. first (span s.y0 s.y1) (blocked_cell f s c))))

-- ---- pinches

unfoldable pub passed_pinch : Floor → Segment → ℕ → ℕ → Option Obstacle
passed_pinch f s c r =
    let x = start_on s.x0 s.x1 c in
    let y = start_on s.y0 s.y1 r in
    pick (pinch f x y && passes s x y) (pinch_at f x y) None

unfoldable pub nearest_pinch : Floor → Segment → Option Obstacle
nearest_pinch f s = first (suc (span s.x0 s.x1)) (λ c. first (suc (span s.y0 s.y1)) (passed_pinch f s c))

-- A blocked cell or a shut step, wherever it is, is named before a pinch.
unfoldable pub obstacle : Floor → Segment → Option Obstacle
obstacle f s = or_else (blockage f s) (pick (still s) None (nearest_pinch f s))

-- Named on an `unfolding` line, this opens all of these definitions, for a theorem that antt computes.
unfoldable pub obstacle-opened : ℕ
unfolding span cell_on start_on first blocked_cell upright_step level_step blockage passed_pinch nearest_pinch obstacle
obstacle-opened = 0
