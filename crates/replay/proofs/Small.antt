-- The rules on a graph of four vertices: 0 - 1 - 2 joined by moves of cost 10, and vertex 3 apart, a pinch.
--
--   empty          == an empty log
--   there_and_back == moves there, standing still, and back
--   jumped         == record 4 cannot follow, and nothing after it costs, not even an open move
--   on-a-pinch     == a first record on a pinch cannot follow
--   onto-a-pinch   == a later record on a pinch cannot follow
use Prim.Native.Nat.{ℕ, zero, suc}
use mathlib.Core.Path.{◌≡◌, refl}
use mathlib.Core.Bool.{Bool, true, false}
use mathlib.Core.List.{List, [], ◌∷◌}
use mathlib.Core.Option.{Option, none, some}
use lib.Dec.{eqb}
use Rattle.std.proofs.Common.{Some, None}
use Rattle.basics.specs.Bounded.{bounded-opened}
use Rattle.paths.specs.Graph.{Graph}
use Rattle.replay.specs.Replay.{move_cost, follow_cost, Driven, driven_of, drive}

abbrev after : ℕ → Option ℕ
after zero = some 1
after (suc zero) = some 2
after (suc (suc n)) = none

abbrev before : ℕ → Option ℕ
before zero = none
before (suc zero) = some 0
before (suc (suc zero)) = some 1
before (suc (suc (suc n))) = none

abbrev row : Graph
row = record { size = 4; moves = 2; cost = λ m. 10; step = λ m v. elim (eqb m 0) [ true ↦ after v | false ↦ before v ] }

abbrev apart : ℕ → Bool
apart v = eqb v 3

abbrev run : List ℕ → Driven
run l = drive row apart 1 None 0 l

empty : run [] ≡ driven_of 0 None
unfolding drive
empty = refl

there_and_back : run (0 ∷ 1 ∷ 1 ∷ 2 ∷ 1 ∷ []) ≡ driven_of 30 None
unfolding bounded-opened move_cost follow_cost drive
there_and_back = refl

jumped : run (0 ∷ 1 ∷ 0 ∷ 2 ∷ 1 ∷ 0 ∷ []) ≡ driven_of 20 (Some 4)
unfolding bounded-opened move_cost follow_cost drive
jumped = refl

on-a-pinch : run (3 ∷ 3 ∷ []) ≡ driven_of 0 (Some 1)
unfolding bounded-opened move_cost follow_cost drive
on-a-pinch = refl

onto-a-pinch : run (2 ∷ 1 ∷ 3 ∷ 3 ∷ []) ≡ driven_of 10 (Some 3)
unfolding bounded-opened move_cost follow_cost drive
onto-a-pinch = refl
