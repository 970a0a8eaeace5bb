-- Demand 1 of the replay, the two reports of what changed, the writer, fewest stops and the mending.
--
--   replay-answers   == demand 1 of the replay of a log
--   cells-answers    == demand 1 of the first report, on cells
--   changes-answers  == demand 1 of the second report, on costs
--   write-answers    == demand 1 of a call of the writer
--   legs-answers     == demand 1 of the checker of proposals
--   proposal-answers == demand 1 of the proposer
--   mend-answers     == demand 1 of the mending
use Prim.Native.Nat.{ℕ, ◌+◌, ◌*◌}
use mathlib.Core.Path.{◌≡◌, refl, ap, ◌∙◌}
use mathlib.Core.Bool.{Bool, true, false, ◌&&◌, ◌||◌, not}
use mathlib.Core.List.{List, [], ◌∷◌, ◌++◌}
use lib.Dec.{leb, eqb}
use lib.ListN.{length, take, drop}
use Rattle.std.proofs.Common.{Some, None, Result, Ok, Err}
use Rattle.basics.specs.Bounded.{pick}
use Rattle.basics.specs.Lists.{tabulate, padded, zeros}
use Rattle.floor.specs.Floor.{floor_of, vertices}
use Rattle.floor.specs.Refusals.{Shape, good_if, refusal_number, floor_shape, end_shape, and_then, answer_number}
use Rattle.floor.specs.declared.Refusal.{Refusal}
use Rattle.floor.specs.declared.Refusal.TheVariants.{Size, Neighbourhood as BadNeighbourhood, End, SliceLength}
use Rattle.floor.specs.declared.Refusal.TheVariants.{TooMany, NotJoined, Pinched, SizesDiffer, LogLength, NoRoom}
use Rattle.floor.specs.declared.Refusal.TheVariants.{FalseChoice, OutOfTurn}
use Rattle.moves.specs.declared.Directions.{Directions}
use Rattle.moves.specs.Moves.{neighbourhood_of}
use Rattle.paths.specs.Graph.{Graph}
use Rattle.paths.specs.Distance.{distance}
use Rattle.paths.specs.Route.{central_route}
use Rattle.paths.specs.Sheet.{Sheet, joined, fits, route_sheet, no_route_sheet}
use Rattle.grid.specs.Grid.{with_dirs, pinch_shape}
use Rattle.planner.specs.Plan.{sheet_slices, costs_alone, route_left}
use Rattle.checker.specs.Answer.{sheet_sized}
use Rattle.thinning.specs.Thinning.{seen, joined_list}
use Rattle.thinning.specs.Answer.{thin_number, thin_kept}
use Rattle.logs.specs.Log.{Log, log_of}
use Rattle.replay.specs.Replay.{ReplaySlices, replay_slices_of, log_shape, replay_shape, log_answer, log_costs}
use Rattle.replay.specs.Replay.{pinch_at, bad_number, replay_number, replay_answer, replay_left, Replays}
use Rattle.replay.specs.Replay.{job_answer as replayed, job_left as replayedLeft}
use Rattle.replay.specs.declared.Replayed.{Replayed}
use Rattle.changes.specs.Changes.{GivenFloor, shape_of, floor_in, floors_shape, differing, tally_of, cells_shape}
use Rattle.changes.specs.Changes.{cells_answer, cells_left, ReportsCells, cells_number, ReportSlices, slices_shape}
use Rattle.changes.specs.Changes.{start_shape, report_shape, costs_on, costs_answer, costs_left, ReportsCosts}
use Rattle.changes.specs.Changes.{job_left as changedLeft}
use Rattle.changes.specs.declared.Tally.{Tally}
use Rattle.records.specs.Format.{map_side}
use Rattle.writer.specs.Writing.{Call, put_map, put_job, call_bytes, map_shape, given_shape, in_turn, room_shape}
use Rattle.writer.specs.Writing.{call_shape, Writes}
use Rattle.writer.specs.declared.Writer.{Writer}
use Rattle.writer.specs.declared.AfterWrite.{AfterWrite}
use Rattle.legs.specs.Choices.{fewest_legs}
use Rattle.legs.specs.Answer.{legs_shape, true_choice, check_answer as legsAnswer}
use Rattle.legs.specs.Answer.{proposed, propose_answer, kept_left, legs_left, Proposes}
use Rattle.mending.specs.Mending.{MendSlices, sheet_in, with_costs, sheet_differences, no_differences, sheet_answer}
use Rattle.mending.specs.Mending.{MendAnswer, by_route, by_none, sheet_left, if_sized, mend_shape}
use Rattle.mending.specs.Mending.{job_answer as mended, job_left as mendedLeft, mend_answer, mend_left, Mends}
use Rattle.mending.specs.Mending.{mend_number, mend_points, mend_differences}
use Rattle.demands.specs.Demands.{Line, line, first_of, at_zero, floor_lines, is_neighbourhood, is_vertex, is_pinch}
use Rattle.demands.specs.Demands.{dirs_for, graph_of, plan_lines, plan_left, replay_lines, AnswersReplay}
use Rattle.demands.specs.Demands.{floors_lines, AnswersCells, report_lines, AnswersChanges, given_lines, write_lines}
use Rattle.demands.specs.Demands.{AnswersWrite, legs_lines, AnswersLegs, AnswersProposal, mend_lines, AnswersMend}
use Rattle.demands.proofs.Shapes.{tested, test-first, two-first, two_cases, floor-first}
use Rattle.demands.proofs.Shapes.{floor-cases, known-first, known-cases, job-first, job-cases}
use Rattle.demands.proofs.Shapes.{refusal-positive, good-number, answer-number, answer-kept, left-zero}

-- ---- the replay of a log

module _ (w h : ℕ) (map : List ℕ) (nb : ℕ) (log : List ℕ) (s : ReplaySlices) where
  abbrev graph : Graph
  graph = graph_of w h map nb

  abbrev read_log : Log
  read_log = log_of log (vertices w h)

  abbrev short : Bool
  short = leb (length log) 16384

  abbrev sized : Bool
  sized = eqb (length s.costs) (vertices w h) && eqb (length s.work) (4 * vertices w h)

  abbrev written : ReplaySlices
  written = replay_slices_of (log_costs graph (pinch_at (floor_of w h map)) read_log) (zeros (4 * vertices w h))

  log-first : replay_number (Ok (log_answer graph (pinch_at (floor_of w h map)) read_log))
      ≡ first_of (line 17 read_log.broken ∷ [])
  unfolding log_answer
  log-first = cases read_log.broken _
    where
      cases : (x : Bool) (k : ℕ) → bad_number (pick x (Some k) None) ≡ first_of (line 17 x ∷ [])
      cases true k = refl
      cases false k = refl

  replay-first : replay_number (replay_answer w h map nb log s)
      ≡ first_of (replay_lines w h map nb log s ++ (line 17 read_log.broken ∷ []))
  unfolding replay_answer replay_shape log_shape
  replay-first =
      let n = neighbourhood_of nb in
      let past : List Line = line 16 (not short) ∷ line 6 (not sized) ∷ line 17 read_log.broken ∷ [] in
      let logs = and_then (tested short LogLength) (tested sized SliceLength) in
      floor-first w h map (λ t. replay_number (replayed w h map log (and_then t (with_dirs n logs)))) (λ r. refl)
      (line 4 (not (is_neighbourhood nb)) ∷ past)
      (known-first nb (λ n. replay_number (replayed w h map log (with_dirs n logs))) refl past
      (two-first (λ t. replay_number (replayed w h map log (and_then t (Ok (dirs_for n))))) (λ r. refl) short sized
      LogLength SliceLength
      ∙ ap (λ k. pick (not short) 16 (pick (not sized) 6 k)) log-first))

  log-leaves : written ≡ (let k = replay_number (Ok (log_answer graph (pinch_at (floor_of w h map)) read_log)) in
      pick (eqb k 0 || eqb k 17) written s)
  log-leaves = rw log-first (cases read_log.broken)
    where
      cases : (x : Bool) → written ≡ (let k = first_of (line 17 x ∷ []) in pick (eqb k 0 || eqb k 17) written s)
      cases true = refl
      cases false = refl

  replay-leaves : replay_left w h map nb log s ≡ (let k = replay_number (replay_answer w h map nb log s) in
      pick (eqb k 0 || eqb k 17) written s)
  unfolding replay_answer replay_left replay_shape log_shape
  replay-leaves =
      let n = neighbourhood_of nb in
      let logs = and_then (tested short LogLength) (tested sized SliceLength) in
      let P : Result Directions Refusal → Type 0
      = λ j. replayedLeft w h map log s j ≡ (let k = replay_number (replayed w h map log j) in
      pick (eqb k 0 || eqb k 17) written s) in
      floor-cases w h map (λ t. P (and_then t (with_dirs n logs))) refl refl refl
      (known-cases nb (λ n. P (with_dirs n logs)) refl
      (two_cases (λ t. P (and_then t (Ok (dirs_for n)))) short sized LogLength SliceLength refl refl log-leaves))

  pub replay-answers : (r : Result Replayed Refusal) (s' : ReplaySlices) → Replays w h map nb log s r s'
      → AnswersReplay w h map nb log s r s'
  replay-answers r s' R = rw (R.answer, R.left) (record { number = replay-first; leaves = replay-leaves })

-- ---- the reports of what changed

module _ (p q : GivenFloor) where
  abbrev sizes : Bool
  sizes = eqb p.wide q.wide && eqb p.high q.high

  floors-first : (F : Shape → ℕ) → ((r : Refusal) → F (Err r) ≡ refusal_number r) → (rest : List Line)
      → F (Ok tt) ≡ first_of rest → F (floors_shape p q) ≡ first_of (floors_lines p q ++ rest)
  unfolding floors_shape
  floors-first F given rest e =
      let last = tested sizes SizesDiffer in
      let past : List Line = line 15 (not sizes) ∷ rest in
      floor-first p.wide p.high p.map (λ s. F (and_then s (and_then (shape_of q) last))) given
      (floor_lines q.wide q.high q.map ++ past)
      (floor-first q.wide q.high q.map (λ s. F (and_then s last)) given past
      (test-first F given sizes SizesDiffer ∙ ap (pick (not sizes) 15) e))

  floors-cases : (P : Shape → Type 0) → ((r : Refusal) → P (Err r)) → P (Ok tt) → P (floors_shape p q)
  floors-cases P given good = cases (floors_shape p q)
    where
      cases : (s : Shape) → P s
      cases (Ok _) = good
      cases (Err r) = given r

  module _ (l : List ℕ) where
    listed-number : (s : Shape) (t : Tally) → cells_number (and_then s (Ok t)) ≡ answer_number s
    listed-number (Ok _) t = refl
    listed-number (Err r) t = refl

    cells-first : answer_number (cells_shape p q (length l))
        ≡ first_of (floors_lines p q ++ (line 6 (not (eqb (length l) (p.wide * p.high))) ∷ []))
    unfolding cells_shape
    cells-first =
        let t = eqb (length l) (p.wide * p.high) in
        floors-first (λ s. answer_number (and_then s (tested t SliceLength))) (λ r. refl)
        (line 6 (not t) ∷ []) (test-first answer_number (λ r. refl) t SliceLength)

    pub cells-answers : (r : Result Tally Refusal) (l' : List ℕ) → ReportsCells p q l r l' → AnswersCells p q l r l'
    unfolding cells_answer cells_left
    cells-answers r l' R =
        let s = cells_shape p q (length l) in
        let e = listed-number s (tally_of (floor_in p) (floor_in q)) in
        rw (R.answer, R.left) (record {
          number = e ∙ cells-first;
          leaves = rw e (left-zero s (padded (length l) (differing (floor_in p) (floor_in q))) l);
        })

  module _ (nb a : ℕ) (s : ReportSlices) where
    abbrev v : ℕ
    v = vertices p.wide p.high

    abbrev lent : Bool
    lent = eqb (length s.first) v && eqb (length s.second) v && eqb (length s.change) v
        && eqb (length s.work) (4 * v)

    start_first : (F : Shape → ℕ) → ((r : Refusal) → F (Err r) ≡ refusal_number r) → (t : Shape)
        → F (and_then (start_shape p q a) t)
        ≡ pick (not (is_vertex p.wide p.high a)) 5
        (pick (is_pinch p.wide p.high p.map a || is_pinch q.wide q.high q.map a) 11 (F t))
    unfolding start_shape end_shape pinch_shape
    start_first F given t =
        cases (is_vertex p.wide p.high a) (is_pinch p.wide p.high p.map a)
        (is_pinch q.wide q.high q.map a)
      where
        cases : (x y z : Bool)
            → F (and_then (and_then (tested x End) (and_then (pick y (Err Pinched) (Ok tt))
            (pick z (Err Pinched) (Ok tt)))) t)
            ≡ pick (not x) 5 (pick (y || z) 11 (F t))
        cases false y z = given End
        cases true true z = given Pinched
        cases true false true = given Pinched
        cases true false false = refl

    changes-first : answer_number (costs_answer p q nb a s) ≡ first_of (report_lines p q nb a s)
    unfolding costs_answer report_shape slices_shape
    changes-first =
        let n = neighbourhood_of nb in
        let last = tested lent SliceLength in
        let ends = and_then (start_shape p q a) last in
        let past : List Line = line 5 (not (is_vertex p.wide p.high a))
        ∷ line 11 (is_pinch p.wide p.high p.map a || is_pinch q.wide q.high q.map a)
        ∷ line 6 (not lent) ∷ [] in
        let F : Shape → ℕ = λ t. answer_number (good_if (and_then t (Ok (dirs_for n)))) in
        floors-first (λ t. answer_number (good_if (and_then t (with_dirs n ends)))) (λ r. refl)
        (line 4 (not (is_neighbourhood nb)) ∷ past)
        (known-first nb (λ n. answer_number (good_if (with_dirs n ends))) refl past
        (start_first F (λ r. refl) last
        ∙ ap (λ k. pick (not (is_vertex p.wide p.high a)) 5
        (pick (is_pinch p.wide p.high p.map a || is_pinch q.wide q.high q.map a) 11 k))
        (test-first F (λ r. refl) lent SliceLength)))

    abbrev report : Result Directions Refusal → ReportSlices
    report j = at_zero (answer_number (good_if j))
        (costs_on (graph_of p.wide p.high p.map nb) (graph_of q.wide q.high q.map nb) a) s

    refused-leaves : (r : Refusal) → changedLeft (floor_in p) (floor_in q) a s (Err r) ≡ report (Err r)
    refused-leaves r = rw (refusal-positive r)

    changes-leaves : costs_left p q nb a s ≡ report (report_shape p q nb a (length s.first) (length s.second)
        (length s.change) (length s.work))
    unfolding costs_left report_shape
    changes-leaves =
        let n = neighbourhood_of nb in
        let ends = and_then (start_shape p q a)
        (slices_shape v (length s.first) (length s.second) (length s.change) (length s.work)) in
        let P : Result Directions Refusal → Type 0 = λ j. changedLeft (floor_in p) (floor_in q) a s j ≡ report j in
        floors-cases (λ t. P (and_then t (with_dirs n ends))) refused-leaves
        (known-cases nb (λ n. P (with_dirs n ends)) (refused-leaves BadNeighbourhood)
        (cases ends))
      where
        cases : (t : Shape)
            → changedLeft (floor_in p) (floor_in q) a s (and_then t (Ok (dirs_for (neighbourhood_of nb))))
            ≡ report (and_then t (Ok (dirs_for (neighbourhood_of nb))))
        cases (Ok _) = refl
        cases (Err r) = refused-leaves r

    pub changes-answers : (r : Shape) (s' : ReportSlices) → ReportsCosts p q nb a s r s'
        → AnswersChanges p q nb a s r s'
    unfolding costs_answer
    changes-answers r s' R = rw (R.answer, R.left) (record { number = changes-first; leaves = changes-leaves })

-- ---- the writer

given-first : (x : Call) (t : Shape) (rest : List Line) → answer_number t ≡ first_of rest
    → answer_number (and_then (given_shape x) t) ≡ first_of (given_lines x ++ rest)
unfolding map_shape
given-first (put_map w h l) t rest e = cases (map_side w && map_side h)
  where
    cases : (x : Bool) → answer_number (and_then (and_then (tested x Size) (floor_shape w h l)) t)
        ≡ first_of (line 1 (not x) ∷ (floor_lines w h l ++ rest))
    cases true = floor-first w h l (λ s. answer_number (and_then s t)) (λ r. refl) rest e
    cases false = refl
given-first (put_job j) t rest e = e

module _ (c : Writer) (x : Call) (buf : List ℕ) where
  abbrev call_is : Shape
  call_is = call_shape c x (length buf)

  call-first : answer_number call_is ≡ first_of (write_lines c x buf)
  unfolding call_shape room_shape
  call-first =
      let turn = in_turn c.due x in
      let room = leb (c.at + length (call_bytes x)) (length buf) in
      given-first x (and_then (tested turn OutOfTurn) (tested room NoRoom))
      (line 20 (not turn) ∷ line 18 (not room) ∷ []) (two-first answer_number (λ r. refl) turn room OutOfTurn NoRoom)

  pub write-answers : (r : AfterWrite) (buf' : List ℕ) → Writes c x buf r buf' → AnswersWrite c x buf r buf'
  write-answers r buf' W =
      let n = call_bytes x in
      let e : answer_number r.answer ≡ answer_number call_is = ap answer_number W.answer in
      record {
        number = e ∙ call-first;
        writer = rw e (W.writer ∙ left-zero call_is (record { at = c.at + length n; due = c.due + 1 }) c);
        leaves = rw e (W.left ∙ left-zero call_is (take c.at buf ++ n ++ drop (c.at + length n) buf) buf);
      }

-- ---- fewest stops

module _ (w h : ℕ) (map list kept legs : List ℕ) (n : ℕ) where
  abbrev three : Bool
  three = leb (length list) 16384 && (eqb (length kept) (length list) && eqb (length legs) (length list))

  abbrev joins : Bool
  joins = joined_list (floor_of w h map) list n

  pub legs-first : (F : Shape → ℕ) → ((r : Refusal) → F (Err r) ≡ refusal_number r) → (rest : List Line)
      → F (Ok tt) ≡ first_of rest
      → F (legs_shape w h map list (length kept) (length legs) n) ≡ first_of (legs_lines w h map list kept legs n ++ rest)
  unfolding legs_shape
  legs-first F given rest e =
      let lists = and_then (tested three SliceLength) (tested joins NotJoined) in
      floor-first w h map (λ s. F (and_then s lists)) given (line 6 (not three) ∷ line 10 (not joins) ∷ rest)
      (two-first F given three joins SliceLength NotJoined
      ∙ ap (λ k. pick (not three) 6 (pick (not joins) 10 k)) e)

  pub legs-answers : (c : ℕ) (r : Shape) → r ≡ legsAnswer w h map list n kept c legs
      → AnswersLegs w h map list n kept c legs r
  unfolding legsAnswer
  legs-answers c r e =
      let t = true_choice (seen (floor_of w h map) list) n kept c legs in
      let last = tested t FalseChoice in
      record {
        number = ap answer_number e
            ∙ legs-first (λ s. answer_number (and_then s last)) (λ q. refl) (line 19 (not t) ∷ [])
            (test-first answer_number (λ q. refl) t FalseChoice);
      }

  pub proposal-answers : (r : Result ℕ Refusal) (kept' legs' : List ℕ) → Proposes w h map list kept legs n r kept' legs'
      → AnswersProposal w h map list kept legs n r kept' legs'
  unfolding propose_answer kept_left legs_left
  proposal-answers r kept' legs' P =
      let s = legs_shape w h map list (length kept) (length legs) n in
      let sight = seen (floor_of w h map) list in
      let k = length (proposed sight n) in
      let e : thin_number r ≡ answer_number s = ap thin_number P.answer ∙ answer-number s k in
      record {
        number = e ∙ legs-first answer_number (λ q. refl) [] refl;
        count = rw e (ap thin_kept P.answer ∙ answer-kept s k ∙ left-zero s k 0);
        leaves_kept = rw e (P.kept_after ∙ left-zero s (padded (length kept) (proposed sight n)) kept);
        leaves_legs = rw e (P.legs_after ∙ left-zero s (padded (length legs) (tabulate n (fewest_legs sight n))) legs);
      }

-- ---- the mending of a sheet

module _ (w h : ℕ) (map : List ℕ) (nb a b : ℕ) (old : Sheet) (s : MendSlices) where
  abbrev g : Graph
  g = graph_of w h map nb

  abbrev sheets : Bool
  sheets = sheet_sized (vertices w h) old && sheet_sized (vertices w h) (sheet_in s 0)
      && eqb (length s.work) (4 * vertices w h)

  abbrev costs : List ℕ
  costs = tabulate g.size (distance g a)

  abbrev outcome : Bool → Bool → Bool → MendAnswer
  outcome x z u =
      pick x (pick z
      (pick u (by_route (route_sheet g a b).n (sheet_differences old (route_sheet g a b))) (Err TooMany))
      (by_none (sheet_differences old (no_route_sheet g a)))) (Err SliceLength)

  abbrev left_behind : Bool → Bool → Bool → MendSlices
  left_behind x z u =
      pick x (with_costs costs (pick z (pick u (sheet_slices g.size (route_sheet g a b)) (costs_alone g b))
      (sheet_slices g.size (no_route_sheet g a)))) s

  fit-outcome : (x : Bool) → mended w h map a b old (if_sized x (Ok (dirs_for (neighbourhood_of nb))))
      ≡ outcome x (joined g a b) (fits g a b)
  unfolding sheet_answer
  fit-outcome true = refl
  fit-outcome false = refl

  fit-left : (x : Bool) → mendedLeft w h map a b s (if_sized x (Ok (dirs_for (neighbourhood_of nb))))
      ≡ left_behind x (joined g a b) (fits g a b)
  unfolding sheet_left route_left
  fit-left true = refl
  fit-left false = refl

  mend-first : mend_number (mend_answer w h map nb a b old s)
      ≡ first_of (mend_lines w h map nb a b old s ++ plan_lines g a b)
  unfolding mend_answer mend_shape sheet_sized
  mend-first =
      job-first w h map nb a b (λ j. mend_number (mended w h map a b old (if_sized sheets j))) (λ r. refl)
      (line 6 (not sheets) ∷ plan_lines g a b)
      (ap mend_number (fit-outcome sheets) ∙ cases sheets (joined g a b) (fits g a b))
    where
      cases : (x z u : Bool)
          → mend_number (outcome x z u) ≡ first_of (line 6 (not x) ∷ line 7 (not z) ∷ line 8 (not u) ∷ [])
      cases false z u = refl
      cases true false u = refl
      cases true true false = refl
      cases true true true = refl

  mend-cases : (P : MendAnswer → MendSlices → Type 0)
      → ((r : Refusal) → eqb (refusal_number r) 0 ≡ false → eqb (refusal_number r) 7 ≡ false
      → eqb (refusal_number r) 8 ≡ false → P (Err r) s)
      → P (by_route (route_sheet g a b).n (sheet_differences old (route_sheet g a b)))
      (with_costs costs (sheet_slices g.size (route_sheet g a b)))
      → P (Err TooMany) (with_costs costs (costs_alone g b))
      → P (by_none (sheet_differences old (no_route_sheet g a)))
      (with_costs costs (sheet_slices g.size (no_route_sheet g a)))
      → P (mend_answer w h map nb a b old s) (mend_left w h map nb a b old s)
  unfolding mend_answer mend_left mend_shape sheet_sized
  mend-cases P shape at_0 at_8 at_7 =
      job-cases w h map nb a b
      (λ j. P (mended w h map a b old (if_sized sheets j)) (mendedLeft w h map a b s (if_sized sheets j)))
      (shape _ refl refl refl) (shape _ refl refl refl) (shape _ refl refl refl) (shape _ refl refl refl)
      (shape _ refl refl refl) (shape _ refl refl refl)
      (rw (fit-outcome sheets, fit-left sheets) (cases sheets (joined g a b) (fits g a b)))
    where
      cases : (x z u : Bool) → P (outcome x z u) (left_behind x z u)
      cases false z u = shape SliceLength refl refl refl
      cases true false u = at_7
      cases true true false = at_8
      cases true true true = at_0

  abbrev Leaves : MendAnswer → MendSlices → Type 0
  Leaves r s' = s' ≡ plan_left (mend_number r) (with_costs costs (sheet_slices g.size (route_sheet g a b)))
      (with_costs costs (sheet_slices g.size (no_route_sheet g a))) (with_costs costs (costs_alone g b)) s

  abbrev Values : MendAnswer → MendSlices → Type 0
  Values r s' = (mend_points r ≡ at_zero (mend_number r) (length (central_route g a b)) 0)
      × (mend_differences r ≡ plan_left (mend_number r) (sheet_differences old (route_sheet g a b))
      (sheet_differences old (no_route_sheet g a)) no_differences no_differences)

  mend-values : Values (mend_answer w h map nb a b old s) (mend_left w h map nb a b old s)
  unfolding route_sheet
  mend-values = mend-cases Values (λ q e n k. (rw e, rw (e, n, k))) (refl, refl) (refl, refl) (refl, refl)

  pub mend-answers : (r : MendAnswer) (s' : MendSlices) → Mends w h map nb a b old s r s'
      → AnswersMend w h map nb a b old s r s' g
  mend-answers r s' M =
      rw (M.answer, M.left) (record {
        number = mend-first;
        leaves = mend-cases Leaves (λ q e n k. rw (e, n, k)) refl refl refl;
        points = mend-values.0;
        counts = mend-values.1;
      })
