-- docs/RULES.md, 3.1 to 3.3: the tables of moves, and which of their directions a neighbourhood has. In names `dir`
-- stands for a direction and `dirs` for several.
--
--   moves               == the table of eight moves, direction by direction: signed offsets and cost
--   sixteen             == the table of sixteen moves: the eight moves and, between each two of them, their sum, in
--                          order of angle, with costs of their own
--   move_of x y c       == the move by x columns and y rows at cost c
--   dir_move k          == the move of direction k of 32: directions 0 to 15 have the eight moves, each at two of them,
--                          and directions 16 to 31 the sixteen. In both a direction is a sixteenth of a turn, so that
--                          four make a quarter turn
--   dir_at r m          == the direction of move m of a neighbourhood with the directions r
--   directions_of i s n == n directions, from i on, each s after the one before
--   move_at r m         == move m of a neighbourhood with the directions r
--   neighbourhood_of n  == the directions of neighbourhood n: 8 has the table of eight, 4 its cardinal directions in
--                          the same order, 16 the table of sixteen; every other n is refused (refusal 4)
use Rattle.std.specs.Prelude.{ℕ, ◌+◌, ◌-◌, ◌*◌, ◌/◌, List, [], ◌∷◌, ltb, eqb, ℤ, pos, negsuc, get_or}
use Rattle.std.specs.Prelude.{Option, Some, None}
use Rattle.basics.specs.Bounded.{pick}
use Rattle.moves.specs.declared.Move.{Move}
use Rattle.moves.specs.declared.Directions.{Directions}

abbrev pub move_of : ℤ → ℤ → ℕ → Move
move_of x y c = record { dx = x; dy = y; cost = c }

-- `negsuc 0` is -1.
abbrev pub moves : List Move
moves =
    move_of (pos 1) (pos 0) 408
    ∷ move_of (pos 1) (pos 1) 577
    ∷ move_of (pos 0) (pos 1) 408
    ∷ move_of (negsuc 0) (pos 1) 577
    ∷ move_of (negsuc 0) (pos 0) 408
    ∷ move_of (negsuc 0) (negsuc 0) 577
    ∷ move_of (pos 0) (negsuc 0) 408
    ∷ move_of (pos 1) (negsuc 0) 577
    ∷ []

-- `negsuc 1` is -2.
abbrev pub sixteen : List Move
sixteen =
    move_of (pos 1) (pos 0) 1000
    ∷ move_of (pos 2) (pos 1) 2236
    ∷ move_of (pos 1) (pos 1) 1414
    ∷ move_of (pos 1) (pos 2) 2236
    ∷ move_of (pos 0) (pos 1) 1000
    ∷ move_of (negsuc 0) (pos 2) 2236
    ∷ move_of (negsuc 0) (pos 1) 1414
    ∷ move_of (negsuc 1) (pos 1) 2236
    ∷ move_of (negsuc 0) (pos 0) 1000
    ∷ move_of (negsuc 1) (negsuc 0) 2236
    ∷ move_of (negsuc 0) (negsuc 0) 1414
    ∷ move_of (negsuc 0) (negsuc 1) 2236
    ∷ move_of (pos 0) (negsuc 0) 1000
    ∷ move_of (pos 1) (negsuc 1) 2236
    ∷ move_of (pos 1) (negsuc 0) 1414
    ∷ move_of (pos 2) (negsuc 0) 2236
    ∷ []

abbrev pub dir_count : ℕ
dir_count = 32

-- The move past the end of a table: no offset, at cost 0.
abbrev pub no_move : Move
no_move = move_of (pos 0) (pos 0) 0

abbrev pub dir_move : ℕ → Move
dir_move k = pick (ltb k 16) (get_or moves (k / 2) no_move) (get_or sixteen (k - 16) no_move)

abbrev pub directions_of : ℕ → ℕ → ℕ → Directions
directions_of first stride count = record { first = first; stride = stride; count = count }

abbrev pub dir_at : Directions → ℕ → ℕ
dir_at r m = r.first + r.stride * m

abbrev pub move_at : Directions → ℕ → Move
move_at r m = dir_move (dir_at r m)

unfoldable pub neighbourhood_of : ℕ → Option Directions
neighbourhood_of n =
    pick (eqb n 16) (Some (directions_of 16 1 16))
    (pick (eqb n 8) (Some (directions_of 0 2 8)) (pick (eqb n 4) (Some (directions_of 0 4 4)) None))
