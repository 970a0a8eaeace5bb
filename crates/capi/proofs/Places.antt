-- The C interface answers in 32 bits: the place of what is in the way is the number of a cell or vertex of the floor,
-- and the slot of post is one of the sixteen.
use Prim.Native.Nat.{ℕ, zero, suc, ◌≤◌, ◌<◌}
use mathlib.Core.Path.{◌≡◌, refl}
use mathlib.Core.Bool.{Bool, true, false, ◌&&◌}
use mathlib.Core.List.{List}
use native.Mathlib.Omega.{arith}
use lib.Dec.{eqb}
use Rattle.std.proofs.Common.{Option, Some, None, Ok, Err}
use Rattle.basics.specs.Bounded.{pick}
use Rattle.floor.specs.Floor.{Floor, floor_of, vertices, blocked, column, row}
use Rattle.floor.specs.Refusals.{Shape, and_then}
use Rattle.floor.proofs.Numbers.{vertices-le, column-le, row-le, number_lt, cell-lt}
use Rattle.sight.specs.Sight.{Segment, segment_of, segment, enters, upright_open, level_open, pinch, passes, still}
use Rattle.sight.specs.Obstacle.{cell_at, step_at, pinch_at, span, cell_on, start_on, or_else, first, obstacle}
use Rattle.sight.specs.Obstacle.{blocked_cell, upright_step, level_step, blockage, passed_pinch, nearest_pinch}
use Rattle.sight.specs.Question.{sight_answer, obstacle_place}
use Rattle.sight.specs.Travel.{Ends}
use Rattle.sight.specs.declared.Obstacle.{Obstacle}
use Rattle.sight.specs.declared.Obstacle.TheVariants.{Cell, Step, Pinch}
use Rattle.sight.proofs.Travel.{cell_on-lt}
use Rattle.sight.proofs.Vertices.{point-le}
use Rattle.sight.proofs.Question.{Asked, question, asked}
use Rattle.closures.specs.Plain.{Plain, lowest_free, post_shape, post_answer, post_slot}
use Rattle.closures.specs.declared.Rectangle.{Rectangle}
use Rattle.closures.proofs.Shapes.{good-post}

-- An answer that is no refusal comes from a question of good shape.
answered-good : (s : Shape) (x : Option Obstacle) {o : Option Obstacle} → Ok o ≡ and_then s (Ok x)
    → (s ≡ Ok tt) × (x ≡ o)
answered-good (Ok u) x e = (refl, cc)
answered-good (Err r) x e = cc

-- ---- a place below 16,384, for each function that `obstacle` is made of

abbrev Within : Option Obstacle → Type 0
Within o = obstacle_place o < 16384

else-within : (o p : Option Obstacle) → Within o → Within p → Within (or_else o p)
else-within None p i j = j
else-within (Some (Cell c)) p i j = i
else-within (Some (Step v)) p i j = i
else-within (Some (Pinch v)) p i j = i

pick-within : (b : Bool) (o p : Option Obstacle) → Within o → Within p → Within (pick b o p)
pick-within true o p i j = i
pick-within false o p i j = j

first-within : (n : ℕ) (F : ℕ → Option Obstacle) → ((k : ℕ) → k < n → Within (F k)) → Within (first n F)
unfolding first
first-within zero F i = omega arith
first-within (suc n) F i =
    else-within (first n F) (F n) (first-within n F (λ k l. i k (omega arith))) (i n (omega arith))

module _ (f : Floor) (x0 y0 x1 y1 : ℕ) (e : Ends f.wide f.high x0 y0 x1 y1)
    (fits : vertices f.wide f.high ≤ 16384) where
  abbrev s : Segment
  s = segment_of x0 y0 x1 y1

  clear_within : Within None
  clear_within = omega arith

  -- The column and the row k steps from the first end are on the floor.
  column-on : (k : ℕ) → k ≤ span x0 x1 → start_on x0 x1 k ≤ f.wide
  column-on k l = point-le x0 x1 k f.wide e.x_first e.x_last l

  row_on : (k : ℕ) → k ≤ span y0 y1 → start_on y0 y1 k ≤ f.high
  row_on k l = point-le y0 y1 k f.high e.y_first e.y_last l

  vertex-within : (x y : ℕ) → x ≤ f.wide → y ≤ f.high → Within (step_at f x y)
  vertex-within x y p q = omega (arith, number_lt f.wide f.high x y p q)

  upright-within : (k : ℕ) → k < span y0 y1 → Within (upright_step f x0 y0 y1 k)
  unfolding upright_step
  upright-within k l =
      pick-within (upright_open f x0 (cell_on y0 y1 k)) None _ clear_within
      (vertex-within x0 (start_on y0 y1 k) e.x_first (row_on k (omega arith)))

  level-within : (k : ℕ) → k < span x0 x1 → Within (level_step f y0 x0 x1 k)
  unfolding level_step
  level-within k l =
      pick-within (level_open f (cell_on x0 x1 k) y0) None _ clear_within
      (vertex-within (start_on x0 x1 k) y0 (column-on k (omega arith)) e.y_first)

  cell-within : (c r : ℕ) → c < span x0 x1 → r < span y0 y1 → Within (blocked_cell f s c r)
  unfolding blocked_cell
  cell-within c r p q =
      let i = cell_on x0 x1 c in
      let j = cell_on y0 y1 r in
      let n = cell-lt f.wide f.high i j (cell_on-lt x0 x1 c f.wide e.x_first e.x_last p)
      (cell_on-lt y0 y1 r f.high e.y_first e.y_last q) in
      pick-within (blocked f (suc i) (suc j) && enters s i j) (cell_at f i j) None (omega arith) clear_within

  blockage-within : Within (blockage f s)
  unfolding blockage
  blockage-within =
      pick-within (eqb x0 x1) _ _ (first-within (span y0 y1) (upright_step f x0 y0 y1) upright-within)
      (pick-within (eqb y0 y1) _ _ (first-within (span x0 x1) (level_step f y0 x0 x1) level-within)
      (first-within (span x0 x1) (λ c. first (span y0 y1) (blocked_cell f s c)) (λ c p.
      first-within (span y0 y1) (blocked_cell f s c) (λ r q. cell-within c r p q))))

  pinch-within : (c r : ℕ) → c ≤ span x0 x1 → r ≤ span y0 y1 → Within (passed_pinch f s c r)
  unfolding passed_pinch
  pinch-within c r p q =
      let x = start_on x0 x1 c in
      let y = start_on y0 y1 r in
      pick-within (pinch f x y && passes s x y) (pinch_at f x y) None (vertex-within x y (column-on c p) (row_on r q))
      clear_within

  nearest-within : Within (nearest_pinch f s)
  unfolding nearest_pinch
  nearest-within =
      first-within (suc (span x0 x1)) (λ c. first (suc (span y0 y1)) (passed_pinch f s c)) (λ c p.
      first-within (suc (span y0 y1)) (passed_pinch f s c) (λ r q. pinch-within c r (omega arith) (omega arith)))

  obstacle-within : Within (obstacle f s)
  unfolding obstacle
  obstacle-within =
      else-within (blockage f s) (pick (still s) None (nearest_pinch f s)) blockage-within
      (pick-within (still s) None (nearest_pinch f s) clear_within nearest-within)

module _ (w h : ℕ) (l : List ℕ) (a b : ℕ) where
  asked-within : Asked w h l a b → Within (obstacle (floor_of w h l) (segment w a b))
  unfolding segment
  asked-within q =
      let ends : Ends w h (column w a) (row w a) (column w b) (row w b) = record {
        x_first = column-le w a;
        y_first = row-le w h a q.first;
        x_last = column-le w b;
        y_last = row-le w h b q.last;
      } in
      obstacle-within (floor_of w h l) (column w a) (row w a) (column w b) (row w b) ends
      (vertices-le q.sized.wide q.sized.high)

  pub place-lt : {o : Option Obstacle} → Ok o ≡ sight_answer w h l a b → obstacle_place o < 16384
  unfolding sight_answer
  place-lt {o} e =
      let g = answered-good (question w h l a b) (obstacle (floor_of w h l) (segment w a b)) e in
      rw g.1 at (asked-within (asked w h l a b g.0))

slot_of : (s : Shape) (n : ℕ) → (s ≡ Ok tt → n < 16) → post_slot (and_then s (Ok n)) < 16
slot_of (Ok u) n b = b refl
slot_of (Err r) n b = omega arith

pub slot_lt : (w h : ℕ) (m : Plain) (r : Rectangle) → post_slot (post_answer w h m r) < 16
slot_lt w h m r = slot_of (post_shape w h m r) (lowest_free m) (good-post w h m r)
