-- The answers of the C interface: the operations' own, as numbers with their values beside them.
--
--   obstacle_result s  == the answer s of the sight question as a number, with the place of what is in the way; the
--                         place is 0 where the way is clear and at a refusal
--   plan_result p      == the answer p of the planner's second operation: its number, the cost, the total and n
--   thin_result t      == the answer t of the thinning: its number, and how many positions are kept
--   post_result p      == the answer p of post: its number, and the slot
--   replay_result r    == the answer r of the replay: its number, and the values of rule 12.9; `cheapest` is 1 or 0
--   FillsTo ..         == the statement of the planner's first operation: the answer r, and both lent slices afterwards
--   FinishesTo ..      == the statement of the planner's second operation: the answer r, and every slice lent to be
--                         written afterwards
--   ThinsTo ..         == the thinning's statement: the answer r, and the output slice afterwards
--   PostsTo, StrikesTo == the statements of post and strike: the answer, and the 64 numbers afterwards
--   WritesTo ..        == the statement of writing the working map: the answer, and the slice afterwards
--   ReplaysTo ..       == the replay's statement: the answer r, and both lent slices afterwards
use Rattle.std.specs.Prelude.{ℕ, ◌≡◌, List, length, Result}
use Rattle.floor.specs.Refusals.{answer_number}
use Rattle.basics.specs.Bounded.{pick}
use Rattle.floor.specs.declared.Refusal.{Refusal}
use Rattle.sight.specs.Question.{Sight, sight_case, sight_place}
use Rattle.planner.specs.Plan.{CostSlices, costs_answer, costs_left}
use Rattle.planner.specs.Plan.{Slices, Planned, finish_answer, finish_left, plan_number, plan_cost, plan_total, plan_points}
use Rattle.thinning.specs.Answer.{thin_answer, thin_output, thin_number, thin_kept}
use Rattle.closures.specs.Plain.{post_answer, post_slot, post_number, strike_shape}
use Rattle.closures.specs.Plain.{work_shape, work_left}
use Rattle.closures.specs.declared.Rectangle.{Rectangle}
use Rattle.stored_closures.specs.Stored.{stored_in, post_stored, strike_stored}
use Rattle.replay.specs.Replay.{ReplaySlices, replay_answer, replay_left, replay_number}
use Rattle.replay.specs.Replay.{replay_read, replay_cost, replay_unfollowed, replay_bad, replay_cheapest}
use Rattle.replay.specs.declared.Replayed.{Replayed}
use Rattle.capi.specs.declared.ObstacleResult.{ObstacleResult}
use Rattle.capi.specs.declared.PlanResult.{PlanResult}
use Rattle.capi.specs.declared.ThinResult.{ThinResult}
use Rattle.capi.specs.declared.PostResult.{PostResult}
use Rattle.capi.specs.declared.ReplayResult.{ReplayResult}

abbrev pub obstacle_result : Sight → ObstacleResult
obstacle_result s = record { place = sight_place s; answer = sight_case s }

abbrev pub plan_result : Planned → PlanResult
plan_result p = record { total = plan_total p; points = plan_points p; cost = plan_cost p; answer = plan_number p }

abbrev pub thin_result : Result ℕ Refusal → ThinResult
thin_result t = record { kept = thin_kept t; answer = thin_number t }

abbrev pub post_result : Result ℕ Refusal → PostResult
post_result p = record { slot = post_slot p; answer = post_number p }

abbrev pub replay_result : Result Replayed Refusal → ReplayResult
replay_result r = record {
  read = replay_read r;
  unfollowed = replay_unfollowed r;
  bad = replay_bad r;
  cost = replay_cost r;
  cheapest = pick (replay_cheapest r) 1 0;
  answer = replay_number r;
}

pub record FillsTo (w h : ℕ) (map : List ℕ) (nb a : ℕ) (s : CostSlices) (r : ℕ) (s' : CostSlices) : Type 0 where
  pub answer : r ≡ answer_number (costs_answer w h map nb a s)
  pub left : s' ≡ costs_left w h map nb a s

pub record FinishesTo (w h : ℕ) (map : List ℕ) (nb a b : ℕ) (d : List ℕ) (s : Slices) (r : PlanResult) (s' : Slices)
    : Type 0 where
  pub answer : r ≡ plan_result (finish_answer w h map nb a b d s)
  pub left : s' ≡ finish_left w h map nb a b d s

pub record ThinsTo (w h : ℕ) (map list out : List ℕ) (n : ℕ) (r : ThinResult) (out' : List ℕ) : Type 0 where
  pub answer : r ≡ thin_result (thin_answer w h map list out n)
  pub left : out' ≡ thin_output w h map list out n

pub record PostsTo (w h : ℕ) (l : List ℕ) (x : Rectangle) (r : PostResult) (l' : List ℕ) : Type 0 where
  pub answer : r ≡ post_result (post_answer w h (stored_in l) x)
  pub left : l' ≡ post_stored w h l x

pub record StrikesTo (w h : ℕ) (l : List ℕ) (k r : ℕ) (l' : List ℕ) : Type 0 where
  pub answer : r ≡ answer_number (strike_shape w h (stored_in l) k)
  pub left : l' ≡ strike_stored w h l k

pub record WritesTo (w h : ℕ) (l base map : List ℕ) (r : ℕ) (map' : List ℕ) : Type 0 where
  pub answer : r ≡ answer_number (work_shape w h base (length map))
  pub left : map' ≡ work_left w h base (stored_in l) map

pub record ReplaysTo (w h : ℕ) (map : List ℕ) (nb : ℕ) (log : List ℕ) (s : ReplaySlices) (r : ReplayResult)
    (s' : ReplaySlices) : Type 0 where
  pub answer : r ≡ replay_result (replay_answer w h map nb log s)
  pub left : s' ≡ replay_left w h map nb log s
