-- docs/RULES.md, 3.4 and 3.5: the far end of a move, and when a move is open.
--
--   shifted n a d        == a + d, where that is from 0 to n; else none
--   far_end_at w h m x y == the number of the vertex to which move m leads from (x, y); none where it leaves the floor
--   end_if S f m x y     == the number of the vertex to which move m leads from (x, y), where S holds of the segment
--                           between the two; else none
--   open_end_at f m x y  == `end_if sees f m x y`: the far end of move m from (x, y), where the move is open
--   open_end f m v       == `open_end_at f m x y`, where (x, y) is the vertex with number v
--   step_of o            == the far end o, a vertex or off the floor, as the code answers it
use Rattle.std.specs.Prelude.{ℕ, suc, ◌+◌, ◌-◌, Bool, true, false, ◌&&◌, leb, ℤ, pos, negsuc, Some, None}
use Rattle.std.specs.Prelude.{Option as Answer}
use Rattle.std.proofs.Math.Option.{Option, none, some}
use Rattle.floor.specs.Floor.{Floor, number, column, row}
use Rattle.floor.specs.declared.Vertex.{Vertex}
use Rattle.sight.specs.Sight.{Segment, segment, sees}
use Rattle.moves.specs.declared.Move.{Move}

-- How far an offset goes up, and how far down: one of the two is 0.
unfoldable pub up : ℤ → ℕ
up (pos n) = n
up (negsuc n) = 0

unfoldable pub down : ℤ → ℕ
down (pos n) = 0
down (negsuc n) = suc n

unfoldable pub shifted : ℕ → ℕ → ℤ → Option ℕ
shifted n a d =
    elim (leb (down d) (a + up d) && leb (a + up d) (n + down d)) [ true ↦ some (a + up d - down d) | false ↦ none ]

-- F of the number, where there is one; else none.
unfoldable pub then_at : Option ℕ → (ℕ → Option ℕ) → Option ℕ
then_at none F = none
then_at (some w) F = F w

unfoldable pub far_end_at : ℕ → ℕ → Move → ℕ → ℕ → Option ℕ
far_end_at w h m x y = then_at (shifted w x m.dx) (λ i. then_at (shifted h y m.dy) (λ j. some (number w i j)))

unfoldable pub end_if : (Floor → Segment → Bool) → Floor → Move → ℕ → ℕ → Option ℕ
end_if S f m x y =
    then_at (far_end_at f.wide f.high m x y)
    (λ w. elim (S f (segment f.wide (number f.wide x y) w)) [ true ↦ some w | false ↦ none ])

abbrev pub open_end_at : Floor → Move → ℕ → ℕ → Option ℕ
open_end_at = end_if sees

abbrev pub open_end : Floor → Move → ℕ → Option ℕ
open_end f m v = open_end_at f m (column f.wide v) (row f.wide v)

unfoldable pub step_of : Option ℕ → Answer Vertex
step_of none = None
step_of (some v) = Some (record { 0 = v })

-- Named on an `unfolding` line, this opens all of these definitions, for a theorem that antt computes.
unfoldable pub steps-opened : ℕ
unfolding up down shifted then_at far_end_at end_if step_of
steps-opened = 0
