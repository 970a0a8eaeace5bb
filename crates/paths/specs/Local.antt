-- Used by contracts between functions; nobody has to believe it: laws tie it to the definitions.
-- Tests of a sheet vertex by vertex, each of which reads a vertex and its neighbours alone. They pass on the true
-- numbers and on no others. The checker runs them; the planner establishes them.
--
--   inflow g D F v             == the sum of F w over the neighbours w of v with D w + cost = D v
--   relaxed g D v              == D w ≤ D v + cost for every neighbour w of v
--   tight g D v                == D w + cost = D v for some neighbour w of v
--   right_costs g a D          == D a = 0, and D v is right by its neighbours (`right_cost`) for every vertex v: D has
--                                 the distances from a
--   count_at g a on D F v      == 1 at a, `inflow g D F v` at another vertex v with `on`, and 0 elsewhere
--   right_counts g a on D F    == F v = count_at g a on D F v for every vertex v: F has the path counts from a where
--                                 `on`, and 0 elsewhere
--   right_point v next b n R i == place i of a route R of n points, each a number below v: where i < n, R i is b at the
--                                 last place, and elsewhere R (i + 1) is the next vertex of R i; where n ≤ i, R i is 0
--   right_route v next a b n R == R has the n points from a to b by the rule `next`, then 0
--   Shaped n s                 == the slices of the sheet s have n places each
--   local_on, local_next       == whether a vertex is on the way, and its next vertex, by the numbers of a sheet
--   local_numbers g a b s      == d, e, f and b of the sheet s are those of a job with a route
--   right_next g b s v         == the next vertex of v on the sheet s is right: that of the central rule on the way
--                                 before b, b at b, 0 elsewhere
--   by_next s v                == the rule that leads from v to its next vertex on the sheet s
--   local_route g a b s        == costs, counts, next vertices, route and n of the sheet s are right: where its total
--                                 fits, s is the true route sheet
--   blank_at s v               == s has 0 for vertex v in every slice but d
--   local_no_route g a b s     == the costs from a of the sheet s are right and b is unreached, n is 0 and `blank_at`
--                                 every vertex: s is the true no_route sheet
use Rattle.std.specs.Prelude.{ℕ, suc, ◌+◌, ◌*◌, ◌≡◌, Bool, true, false, ◌&&◌, ◌||◌, List, leb, ltb, eqb, length, get_or}
use Rattle.std.proofs.Math.Option.{Option, none, some}
use Rattle.basics.specs.Bounded.{pick, every, any, sum}
use Rattle.paths.specs.Graph.{Graph}
use Rattle.paths.specs.Distance.{unreachable}
use Rattle.paths.specs.Route.{on_shortest, next_vertex}
use Rattle.paths.specs.Sheet.{Sheet}

-- F w where the option is some w, else 0.
unfoldable pub given : Option ℕ → (ℕ → ℕ) → ℕ
given none F = 0
given (some w) F = F w

-- p w where the option is some w, else true.
unfoldable pub if-there : Option ℕ → (ℕ → Bool) → Bool
if-there none p = true
if-there (some w) p = p w

-- p w where the option is some w, else false.
unfoldable pub is-there : Option ℕ → (ℕ → Bool) → Bool
is-there none p = false
is-there (some w) p = p w

-- x where a equals b, else 0.
unfoldable pub when-eq : ℕ → ℕ → ℕ → ℕ
when-eq a b x = elim (eqb a b) [ true ↦ x | false ↦ 0 ]

unfoldable pub inflow : Graph → (ℕ → ℕ) → (ℕ → ℕ) → ℕ → ℕ
inflow g D F v = sum g.moves (λ m. given (g.step m v) (λ w. when-eq (D w + g.cost m) (D v) (F w)))

unfoldable pub relaxed : Graph → (ℕ → ℕ) → ℕ → Bool
relaxed g D v = every g.moves (λ m. if-there (g.step m v) (λ w. leb (D w) (D v + g.cost m)))

unfoldable pub tight : Graph → (ℕ → ℕ) → ℕ → Bool
tight g D v = any g.moves (λ m. is-there (g.step m v) (λ w. eqb (D w + g.cost m) (D v)))

unfoldable pub right_cost : Graph → ℕ → (ℕ → ℕ) → ℕ → Bool
right_cost g a D v = leb (D v) unreachable && (relaxed g D v && (eqb (D v) unreachable || (eqb v a || tight g D v)))

unfoldable pub right_costs : Graph → ℕ → (ℕ → ℕ) → Bool
right_costs g a D = eqb (D a) 0 && every g.size (right_cost g a D)

unfoldable pub count_at : Graph → ℕ → (ℕ → Bool) → (ℕ → ℕ) → (ℕ → ℕ) → ℕ → ℕ
count_at g a on D F v = pick (on v) (pick (eqb v a) 1 (inflow g D F v)) 0

unfoldable pub right_counts : Graph → ℕ → (ℕ → Bool) → (ℕ → ℕ) → (ℕ → ℕ) → Bool
right_counts g a on D F = every g.size (λ v. eqb (F v) (count_at g a on D F v))

-- ---- the route, place by place

unfoldable pub right_point : ℕ → (ℕ → Option ℕ) → ℕ → ℕ → (ℕ → ℕ) → ℕ → Bool
right_point v next b n R i =
    pick (ltb i n)
    (ltb (R i) v
    && pick (eqb (R i) b) (eqb (suc i) n) (ltb (suc i) n && is-there (next (R i)) (λ w. eqb w (R (suc i)))))
    (eqb (R i) 0)

unfoldable pub right_route : ℕ → (ℕ → Option ℕ) → ℕ → ℕ → ℕ → (ℕ → ℕ) → Bool
right_route v next a b n R = ltb 0 n && (leb n v && (eqb (R 0) a && every v (right_point v next b n R)))

-- ---- a sheet

-- The number that a slice has for vertex v.
abbrev pub entry : List ℕ → ℕ → ℕ
entry l v = get_or l v 0

pub record Shaped (n : ℕ) (s : Sheet) : Type 0 where
  pub d : length s.d ≡ n
  pub e : length s.e ≡ n
  pub f : length s.f ≡ n
  pub b : length s.b ≡ n
  pub route : length s.route ≡ n
  pub next : length s.next ≡ n

unfoldable pub local_on : ℕ → Sheet → ℕ → Bool
local_on b s = on_shortest (entry s.d) (entry s.e) b

unfoldable pub local_next : Graph → ℕ → Sheet → ℕ → Option ℕ
local_next g b s = next_vertex g (local_on b s) (entry s.d) (λ v. entry s.f v * entry s.b v)

-- The costs and counts of a route sheet. They are tested before the next vertices: where they are right, the products
-- f(v) * b(v) fit 64 bits.
unfoldable pub local_numbers : Graph → ℕ → ℕ → Sheet → Bool
local_numbers g a b s =
    right_costs g a (entry s.d)
    && (ltb (entry s.d b) unreachable
    && (right_costs g b (entry s.e)
    && (right_counts g a (local_on b s) (entry s.d) (entry s.f)
    && right_counts g b (local_on b s) (entry s.e) (entry s.b))))

unfoldable pub right_next : Graph → ℕ → Sheet → ℕ → Bool
right_next g b s v =
    pick (local_on b s v)
    (pick (eqb v b) (eqb (entry s.next v) b) (is-there (local_next g b s v) (λ w. eqb (entry s.next v) w)))
    (eqb (entry s.next v) 0)

abbrev pub by_next : Sheet → ℕ → Option ℕ
by_next s v = some (entry s.next v)

unfoldable pub local_route : Graph → ℕ → ℕ → Sheet → Bool
local_route g a b s =
    local_numbers g a b s
    && (every g.size (right_next g b s) && right_route g.size (by_next s) a b s.n (entry s.route))

unfoldable pub blank_at : Sheet → ℕ → Bool
blank_at s v =
    eqb (entry s.e v) 0
    && (eqb (entry s.f v) 0
    && (eqb (entry s.b v) 0 && (eqb (entry s.route v) 0 && eqb (entry s.next v) 0)))

unfoldable pub local_no_route : Graph → ℕ → ℕ → Sheet → Bool
local_no_route g a b s =
    right_costs g a (entry s.d)
    && (eqb (entry s.d b) unreachable && (eqb s.n 0 && every g.size (blank_at s)))

-- Named on an `unfolding` line, this opens all of these definitions, for a theorem that antt computes.
unfoldable pub local-opened : ℕ
unfolding given if-there is-there when-eq inflow relaxed tight right_cost right_costs count_at right_counts
    right_point right_route local_on local_next local_numbers right_next local_route blank_at local_no_route
local-opened = 0
