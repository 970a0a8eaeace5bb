-- Used by contracts between functions; nobody has to believe it: laws tie it to the definitions.
-- A move as a change of a vertex number. With the mask of the open moves it gives the same far end as `open_end`.
--
--   offset_of w m              == by how much move m changes a vertex number: by `up` less `down`
--   masked_end n v k o         == v + up - down, by the offset o, where bit k of n is set; else none
--   Movable n v k o            == `masked_end n v k o` can be worked out: k is below 32, and no number is negative or
--                                 too large
--   shift_base, Shifts w r l   == place k of l is `shift_base` = 512 plus the offset of direction k, for each direction
--                                 k of r: a number that is never negative
--   by_shift x, shifted_by l k == the offset x - 512, and that of place k of the list l
--   dir_end l n v k            == the far end of direction k from v by the mask n and the shifts l, if the move is open
--   end_of o                   == the far end o as the code answers it
use Rattle.std.specs.Prelude.{ℕ, suc, ◌+◌, ◌-◌, ◌*◌, ◌^◌, ◌≤◌, ◌<◌, ◌≡◌, true, List, length, get_or, Option as Answer, Some, None}
use Rattle.std.proofs.Math.Option.{Option, none, some}
use Rattle.basics.specs.Bounded.{pick}
use Rattle.moves.specs.declared.Move.{Move}
use Rattle.moves.specs.declared.Offset.{Offset}
use Rattle.floor.specs.declared.Vertex.{Vertex}
use Rattle.moves.specs.declared.Directions.{Directions}
use Rattle.moves.specs.Moves.{dir_count, dir_at, move_at}
use Rattle.moves.specs.Steps.{up, down}
use Rattle.basics.specs.Bits.{bit}

abbrev pub offset_of : ℕ → Move → Offset
offset_of w m = record { up = up m.dy * suc w + up m.dx; down = down m.dy * suc w + down m.dx }

abbrev pub masked_end : ℕ → ℕ → ℕ → Offset → Option ℕ
masked_end n v k o = pick (bit n k) (some (v + o.up - o.down)) none

pub record Movable (n v k : ℕ) (o : Offset) : Type 0 where
  pub dir : k < 32
  pub sum : v + o.up < 2 ^ 32
  pub enough : bit n k ≡ true → o.down ≤ v + o.up

abbrev pub shift_base : ℕ
shift_base = 512

pub record Shifts (w : ℕ) (r : Directions) (l : List ℕ) : Type 0 where
  pub len : length l ≡ dir_count
  pub at : (m : ℕ) → m < r.count
      → get_or l (dir_at r m) 0 + (offset_of w (move_at r m)).down ≡ shift_base + (offset_of w (move_at r m)).up

abbrev pub by_shift : ℕ → Offset
by_shift x = record { up = x; down = shift_base }

abbrev pub shifted_by : List ℕ → ℕ → Offset
shifted_by l k = by_shift (get_or l k 0)

abbrev pub dir_end : List ℕ → ℕ → ℕ → ℕ → Option ℕ
dir_end l n v k = masked_end n v k (shifted_by l k)

abbrev pub end_of : Option ℕ → Answer Vertex
end_of none = None
end_of (some v) = Some (record { 0 = v })
