-- The answers of the C interface from those of the operations.
--
--   clear-alike == `lurfanzi_obstacle` answers 0 exactly where `lurfanzi_sight` does
--   finishes-to == the statement of the planner's second operation in C from that of `finish`
use Prim.Native.Nat.{ℕ}
use mathlib.Core.Path.{◌≡◌, refl, ap}
use mathlib.Core.List.{List}
use lib.Dec.{eqb}
use Rattle.std.proofs.Common.{Some, None, Ok, Err}
use Rattle.sight.specs.Question.{Sight, sight_number}
use Rattle.sight.specs.declared.Obstacle.TheVariants.{Cell, Step, Pinch}
use Rattle.planner.specs.Plan.{Slices, Planned, Finishes, plan_number, plan_cost, plan_total, plan_points}
use Rattle.capi.specs.Results.{obstacle_result, plan_result, FinishesTo}

pub clear-alike : (s : Sight) → eqb (obstacle_result s).answer 0 ≡ eqb (sight_number s) 0
clear-alike (Ok None) = refl
clear-alike (Ok (Some (Cell c))) = refl
clear-alike (Ok (Some (Step v))) = refl
clear-alike (Ok (Some (Pinch v))) = refl
clear-alike (Err r) = refl

-- What `finish` answers, as its number and its three values, is what the C function answers. The proofs go without it;
-- docs name it.
pub finishes-to : {w h : ℕ} {map : List ℕ} {nb a b : ℕ} {d : List ℕ} {s s' : Slices} {p : Planned} {t n c r : ℕ}
    → Finishes w h map nb a b d s p s'
    → t ≡ plan_total p → n ≡ plan_points p → c ≡ plan_cost p → r ≡ plan_number p
    → FinishesTo w h map nb a b d s (record { total = t; points = n; cost = c; answer = r }) s'
finishes-to {p = p} F et en ec er =
    record { answer = rw (et, en, ec, er) (ap plan_result F.answer); left = F.left }
