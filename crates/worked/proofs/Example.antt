-- The example of docs/RULES.md, section 16: the text of the program for its input, by the definition. Its floor is
-- floor b, whose costs, counts and kept positions are worked.
--
--   case-text  == the lines of a job whose true route sheet is known
--   example    == the text of the example
use Prim.Native.Nat.{ℕ}
use mathlib.Core.Path.{◌≡◌, sym, ap, ◌∙◌}
use mathlib.Core.List.{List, [], ◌++◌, append-nil}
use lib.ListN.{length}
use Rattle.std.proofs.Common.{Ok}
use Rattle.basics.specs.Lists.{tabulate}
use Rattle.floor.specs.Floor.{vertices}
use Rattle.paths.specs.Route.{central_route}
use Rattle.paths.specs.Sheet.{Sheet, route_sheet}
use Rattle.planner.specs.Plan.{route_answer, plan_of as planned_of}
use Rattle.records.specs.Lines.{ascii, route_line, at_line, kept_of}
use Rattle.records.specs.declared.stream.JobRecord.{JobRecord}
use Rattle.records.proofs.Example.{input, example-read, example-lines}
use Rattle.program_text.specs.Text.{route_text, answer_text, answer_of, points_of, job_text}
use Rattle.program_text.specs.Text.{jobs_text, rest_text, floor_text, program_text}
use Rattle.program_text.proofs.Central.{route-padded}
use Rattle.worked.specs.Floors.{Case, plan_of, graph_of, floor_b, RouteHolds}
use Rattle.worked.proofs.Worked.{worked}

-- Job n of a case.
abbrev case_job : ℕ → Case → JobRecord
case_job n c = record { number = n; neighbourhood = c.neighbourhood; start = c.start; end = c.end }

module _ (c : Case) (h : RouteHolds c) (n : ℕ) where
  abbrev central : List ℕ
  central = central_route (graph_of c) c.start c.end

  points : c.sheet.n ≡ length central
  unfolding route_sheet
  points = ap (λ (s : Sheet). s.n) h.sheet.is

  answer : route_answer (graph_of c) c.start c.end ≡ Ok (planned_of c.cost c.total c.sheet.n)
  unfolding route_answer
  answer = rw (h.sheet.is_joined, h.sheet.total_fits, h.cost, h.total, points)

  route-is : route_text n (plan_of c) central c.cost c.total c.sheet.n
      ≡ route_text n (plan_of c) c.sheet.route c.cost c.total c.sheet.n
  unfolding route_sheet
  route-is =
      sym (route-padded n (plan_of c) central (vertices c.wide c.high) c.cost c.total c.sheet.n)
      ∙ ap (λ (s : Sheet). route_text n (plan_of c) s.route c.cost c.total c.sheet.n) (sym h.sheet.is)

  case-text : job_text c.wide c.high c.map (case_job n c)
      ≡ route_text n (plan_of c) c.sheet.route c.cost c.total c.sheet.n
  unfolding job_text answer_text answer_of points_of
  case-text =
      let f = plan_of c in
      ap (λ j. answer_text n f (points_of f c.start c.end j) (answer_of f c.start c.end j)) h.shape
      ∙ ap (answer_text n (plan_of c) central) answer ∙ route-is

pub example : program_text input ≡ ascii "job 1: cost 816 routes 2 points 3 kept 2\nat 0 3\n"
unfolding program_text rest_text jobs_text tabulate
example =
    let h : RouteHolds floor_b = worked.routes_hold.1.0 in
    let text : List ℕ = job_text 1 1 floor_b.map (case_job 1 floor_b) in
    ap (λ t. floor_text input t.map t) example-read
    ∙ append-nil (text ++ []) ∙ append-nil text
    ∙ case-text floor_b h 1
    ∙ ap (λ ps. route_line 1 816 2 3 (length ps) ++ at_line (kept_of (length ps) ps floor_b.sheet.route)) h.kept
    ∙ example-lines
