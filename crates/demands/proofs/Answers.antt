-- Demand 1: each operation's answer is the first line of its table that applies, and the answer's number decides what
-- is left. The closures are in ClosureAnswers.antt, the operations of the later requests in RequestAnswers.antt.
--
--   sight-answers == demand 1 of the sight question
--   costs-answers == demand 1 of the planner's first operation
--   plan-answers  == demand 1 of the planner's second operation
--   check-answers == demand 1 of the checker
--   thin-answers  == demand 1 of thinning
use Prim.Native.Nat.{ℕ, ◌*◌}
use mathlib.Core.Path.{◌≡◌, refl, ap, ◌∙◌}
use mathlib.Core.Bool.{Bool, true, false, ◌&&◌, not}
use mathlib.Core.List.{List, [], ◌∷◌, ◌++◌}
use borrow.Author.Tests.{ltb-true}
use lib.Dec.{leb, eqb}
use lib.ListN.{length}
use Rattle.std.proofs.Common.{Result, Ok, Err}
use Rattle.basics.specs.Bounded.{pick}
use Rattle.basics.specs.Lists.{tabulate, padded, zeros}
use Rattle.basics.proofs.Bools.{and_both}
use Rattle.floor.specs.Floor.{floor_of, vertices}
use Rattle.floor.specs.Refusals.{Shape, refusal_number, end_shape, and_then, answer_number}
use Rattle.floor.specs.declared.Refusal.{Refusal}
use Rattle.floor.specs.declared.Refusal.TheVariants.{End, SliceLength, NoRoute, TooMany, FalseSheet, NotJoined}
use Rattle.sight.specs.Sight.{sees, segment}
use Rattle.sight.specs.Obstacle.{obstacle}
use Rattle.sight.specs.Question.{Sight, sight_answer, sight_number}
use Rattle.sight.proofs.Passed.{obstacle-sees-segment}
use Rattle.paths.specs.Graph.{Graph}
use Rattle.paths.specs.Distance.{distance, path_count}
use Rattle.paths.specs.Route.{central_route}
use Rattle.paths.specs.Sheet.{Sheet, joined, fits, route_sheet, no_route_sheet, same_sheet}
use Rattle.given_costs.specs.Given.{costs_true}
use Rattle.planner.specs.Plan.{CostSlices, cost_slices_of, Slices, costs_sized, slices_sized, sheet_slices, costs_alone}
use Rattle.planner.specs.Plan.{route_answer, route_left, job_costs, job_costs_left, costs_answer, costs_left, FillsCosts}
use Rattle.planner.specs.Plan.{job_answer, job_left, finish_answer, finish_left, Finishes}
use Rattle.planner.specs.Plan.{Planned, plan_of as planned_of, plan_number, plan_cost, plan_total, plan_points}
use Rattle.checker.specs.declared.SheetKind.{SheetKind}
use Rattle.checker.specs.declared.SheetKind.TheVariants.{Route, NoRoute as NoRouteSheet}
use Rattle.checker.specs.Answer.{verdict, sheet_sized, judged, check_answer, check_number}
use Rattle.thinning.specs.Thinning.{kept_positions, joined_list}
use Rattle.thinning.specs.Answer.{list_shape, thin_answer, thin_output, Thins}
use Rattle.demands.specs.Demands.{line, first_of, at_zero, is_vertex, graph_of}
use Rattle.demands.specs.Demands.{AnswersSight, costs_lines, AnswersCosts, finish_shape, plan_lines, plan_left}
use Rattle.demands.specs.Demands.{AnswersPlan, verdict_lines, AnswersCheck, thin_lines, AnswersThin}
use Rattle.demands.proofs.Shapes.{tested, test-first, and_first, floor-first}
use Rattle.demands.proofs.Shapes.{job-first, job-cases, answer-number, answer-kept, left-zero}

-- ---- the sight question

module _ (w h : ℕ) (map : List ℕ) (a b : ℕ) where
  abbrev clear : Bool
  clear = sees (floor_of w h map) (segment w a b)

  abbrev asked : Sight
  asked = Ok (obstacle (floor_of w h map) (segment w a b))

  -- The number is 0 exactly where the two vertices see each other, else 100.
  clear-number : (is_vertex w h a && is_vertex w h b) ≡ true → sight_number asked ≡ pick (not clear) 100 0
  clear-number e =
      let i = and_both (is_vertex w h a) (is_vertex w h b) e in
      let q = obstacle-sees-segment (floor_of w h map) a b (ltb-true a (vertices w h) i.0)
      (ltb-true b (vertices w h) i.1) in
      rw q (turned clear)
    where
      turned : (x : Bool) → ◌≡◌ {A = ℕ} (pick x 0 100) (pick (not x) 100 0)
      turned true = refl
      turned false = refl

  ends-number : sight_number (and_then (and_then (end_shape w h a) (end_shape w h b)) asked)
      ≡ first_of (line 5 (not (is_vertex w h a && is_vertex w h b)) ∷ line 100 (not clear) ∷ [])
  unfolding end_shape
  ends-number = cases (is_vertex w h a) (is_vertex w h b) clear-number
    where
      cases : (x y : Bool) → ((x && y) ≡ true → sight_number asked ≡ pick (not clear) 100 0)
          → sight_number (and_then (and_then (tested x End) (tested y End)) asked)
          ≡ first_of (line 5 (not (x && y)) ∷ line 100 (not clear) ∷ [])
      cases false y k = refl
      cases true false k = refl
      cases true true k = k refl

  pub sight-answers : (r : Sight) → r ≡ sight_answer w h map a b → AnswersSight w h map a b r
  unfolding sight_answer
  sight-answers r e = record {
    number = ap sight_number e ∙ floor-first w h map
        (λ s. sight_number (and_then (and_then s (and_then (end_shape w h a) (end_shape w h b))) asked)) (λ q. refl)
        (line 5 (not (is_vertex w h a && is_vertex w h b)) ∷ line 100 (not clear) ∷ []) ends-number;
  }

-- ---- the planner

module _ (w h : ℕ) (map : List ℕ) (nb a : ℕ) (s : CostSlices) where
  abbrev filled : CostSlices
  filled = cost_slices_of (tabulate (vertices w h) (distance (graph_of w h map nb) a)) (zeros (4 * vertices w h))

  costs-number : answer_number (costs_answer w h map nb a s) ≡ first_of (costs_lines w h map nb a s)
  unfolding costs_answer
  costs-number =
      job-first w h map nb a a (λ j. answer_number (job_costs w h s j)) (λ r. refl)
      (line 6 (not (costs_sized (vertices w h) s)) ∷ []) (cases (costs_sized (vertices w h) s))
    where
      cases : (x : Bool)
          → answer_number (tested x SliceLength) ≡ first_of (line 6 (not x) ∷ [])
      cases true = refl
      cases false = refl

  costs-leaves : costs_left w h map nb a s ≡ at_zero (answer_number (costs_answer w h map nb a s)) filled s
  unfolding costs_answer costs_left
  costs-leaves =
      job-cases w h map nb a a
      (λ j. job_costs_left w h map a s j ≡ at_zero (answer_number (job_costs w h s j)) filled s) refl refl refl refl refl refl (cases (costs_sized (vertices w h) s))
    where
      cases : (x : Bool) → pick x filled s ≡ at_zero (answer_number (tested x SliceLength)) filled s
      cases true = refl
      cases false = refl

  pub costs-answers : (r : Shape) (s' : CostSlices) → FillsCosts w h map nb a s r s'
      → AnswersCosts w h map nb a s r s'
  costs-answers r s' F = record {
    number = ap answer_number F.answer ∙ costs-number;
    leaves = rw (F.answer, F.left) costs-leaves;
  }

module _ (w h : ℕ) (map : List ℕ) (nb a b : ℕ) (d : List ℕ) (s : Slices) where
  abbrev g : Graph
  g = graph_of w h map nb

  abbrev found : Planned
  found = Ok (planned_of (distance g a b) (path_count g a b) (length (central_route g a b)))

  -- The answer of a fit job by its four tests: lengths, true costs, joined ends, a total that fits.
  abbrev planned : Bool → Bool → Bool → Bool → Planned
  planned x y z u =
      pick x (pick y (pick z (pick u found (Err TooMany)) (Err NoRoute)) (Err FalseSheet))
      (Err SliceLength)

  abbrev left : Bool → Bool → Bool → Bool → Slices
  left x y z u =
      pick x (pick y (pick z (pick u (sheet_slices g.size (route_sheet g a b)) (costs_alone g b))
      (sheet_slices g.size (no_route_sheet g a))) s) s

  plan-number : plan_number (finish_answer w h map nb a b d s)
      ≡ first_of (finish_shape w h map nb a b d s ++ plan_lines g a b)
  unfolding finish_answer route_answer
  plan-number =
      job-first w h map nb a b (λ j. plan_number (job_answer w h map a b d s j)) (λ r. refl)
      (line 6 (not (slices_sized (vertices w h) d s)) ∷ line 9 (not (costs_true g a d)) ∷ plan_lines g a b)
      (cases (slices_sized (vertices w h) d s) (costs_true g a d) (joined g a b) (fits g a b))
    where
      cases : (x y z u : Bool) → plan_number (planned x y z u)
          ≡ first_of (line 6 (not x) ∷ line 9 (not y) ∷ line 7 (not z) ∷ line 8 (not u) ∷ [])
      cases false y z u = refl
      cases true false z u = refl
      cases true true false u = refl
      cases true true true false = refl
      cases true true true true = refl

  -- P holds of the answer and what is left, where it holds at every refusal of the shape and at 0, 7 and 8.
  plan-cases : (P : Planned → Slices → Type 0)
      → ((r : Refusal) → eqb (refusal_number r) 0 ≡ false → eqb (refusal_number r) 7 ≡ false
      → eqb (refusal_number r) 8 ≡ false → P (Err r) s)
      → P found (sheet_slices g.size (route_sheet g a b)) → P (Err TooMany) (costs_alone g b)
      → P (Err NoRoute) (sheet_slices g.size (no_route_sheet g a))
      → P (finish_answer w h map nb a b d s) (finish_left w h map nb a b d s)
  unfolding finish_answer finish_left route_answer route_left
  plan-cases P shape at_0 at_8 at_7 =
      job-cases w h map nb a b (λ j. P (job_answer w h map a b d s j) (job_left w h map a b d s j))
      (shape _ refl refl refl) (shape _ refl refl refl) (shape _ refl refl refl) (shape _ refl refl refl)
      (shape _ refl refl refl) (shape _ refl refl refl)
      (cases (slices_sized (vertices w h) d s) (costs_true g a d) (joined g a b) (fits g a b))
    where
      cases : (x y z u : Bool) → P (planned x y z u) (left x y z u)
      cases false y z u = shape SliceLength refl refl refl
      cases true false z u = shape FalseSheet refl refl refl
      cases true true false u = at_7
      cases true true true false = at_8
      cases true true true true = at_0

  abbrev Leaves : Planned → Slices → Type 0
  Leaves r s' = s' ≡ plan_left (plan_number r) (sheet_slices g.size (route_sheet g a b))
      (sheet_slices g.size (no_route_sheet g a)) (costs_alone g b) s

  abbrev Values : Planned → Slices → Type 0
  Values r s' = (plan_cost r ≡ at_zero (plan_number r) (distance g a b) 0)
      × (plan_total r ≡ at_zero (plan_number r) (path_count g a b) 0)
      × (plan_points r ≡ at_zero (plan_number r) (length (central_route g a b)) 0)

  pub plan-answers : (r : Planned) (s' : Slices) → Finishes w h map nb a b d s r s'
      → AnswersPlan w h map nb a b d s r s' g
  plan-answers r s' F =
      let v = plan-cases Values (λ q e n k. (rw e, rw e, rw e)) (refl, refl, refl) (refl, refl, refl)
      (refl, refl, refl) in
      rw (F.answer, F.left) (record {
        number = plan-number;
        leaves = plan-cases Leaves (λ q e n k. rw (e, n, k)) refl refl refl;
        cost = v.0;
        total = v.1;
        points = v.2;
      })

-- ---- the checker

pub check-answers : (w h : ℕ) (map : List ℕ) (nb a b : ℕ) (s : Sheet) (r : Result SheetKind Refusal)
    → r ≡ check_answer w h map nb a b s → AnswersCheck w h map nb a b s r
unfolding check_answer verdict
check-answers w h map nb a b s r e =
    let g = graph_of w h map nb in
    record {
      number = ap check_number e ∙ job-first w h map nb a b (λ j. check_number (judged w h map a b s j)) (λ q. refl)
          (line 6 (not (sheet_sized (vertices w h) s)) ∷ verdict_lines g a b s)
          (cases (sheet_sized (vertices w h) s) (joined g a b && (fits g a b && same_sheet s (route_sheet g a b)))
          (not (joined g a b) && same_sheet s (no_route_sheet g a)));
    }
  where
    cases : (x y z : Bool)
        → check_number
        (pick x (pick y (Ok Route) (pick z (Ok NoRouteSheet) (Err FalseSheet))) (Err SliceLength))
        ≡ first_of (line 6 (not x) ∷ line 0 y ∷ line 7 z ∷ line 9 true ∷ [])
    cases false y z = refl
    cases true true z = refl
    cases true false true = refl
    cases true false false = refl

-- ---- thinning

module _ (w h : ℕ) (map list out : List ℕ) (n : ℕ) where
  abbrev shape : Shape
  shape = list_shape w h map list (length out) n

  list-number : answer_number shape ≡ first_of (thin_lines w h map list out n)
  unfolding list_shape
  list-number =
      floor-first w h map (λ s. answer_number (and_then s rest)) (λ r. refl)
      (line 6 (not fit) ∷ line 10 (not joins) ∷ [])
      (and_first answer_number (λ r. refl) fit SliceLength (tested joins NotJoined)
      ∙ ap (pick (not fit) 6) (test-first answer_number (λ r. refl) joins NotJoined))
    where
      fit : Bool
      fit = leb (length list) 16384 && eqb (length out) (length list)

      joins : Bool
      joins = joined_list (floor_of w h map) list n

      rest : Shape
      rest = and_then (tested fit SliceLength) (tested joins NotJoined)

  pub thin-answers : (r : Result ℕ Refusal) (out' : List ℕ) → Thins w h map list out n r out'
      → AnswersThin w h map list out n r out'
  unfolding thin_answer thin_output
  thin-answers r out' T =
      let k = length (kept_positions (floor_of w h map) list n) in
      let e = answer-number shape k in
      rw (T.answer, T.output) (record {
        number = e ∙ list-number;
        kept = rw e (answer-kept shape k ∙ left-zero shape k 0);
        leaves = rw e (left-zero shape (padded (length out) (kept_positions (floor_of w h map) list n)) out);
      })
