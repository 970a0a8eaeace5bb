-- The lines of a job are those of the answer that the planner gives.
--
--   planned-as   == `JobPlanned` of an equal answer
--   answer-text  == job_text is `answer_text` of the planner's answer
--   found-route  == where the answer is a route, the job is fit and the route slice has the central route
--   ready-room   == what is ready for a job has room for its lines
--   routable     == `Routable` of the route slice, where the answer is a route
--   refused-written, found-written == `JobWritten` where the answer is a refusal, and where it is a route
use Prim.Native.Nat.{ℕ, ◌≤◌, ◌<◌}
use mathlib.Core.Path.{◌≡◌, refl, sym, ap, ap₂, ◌∙◌}
use mathlib.Core.List.{List}
use native.Mathlib.Omega.{arith}
use native.Mathlib.Nat.{mul-le-mul}
use lib.ListN.{length}
use Rattle.std.specs.Prelude.{Result, Ok, Err}
use Rattle.basics.specs.Lists.{padded}
use Rattle.basics.proofs.Lists.{length-padded}
use Rattle.floor.specs.Floor.{floor_of, vertices}
use Rattle.floor.specs.Refusals.{refusal_number}
use Rattle.floor.specs.declared.Refusal.{Refusal}
use Rattle.moves.specs.declared.Directions.{Directions}
use Rattle.paths.specs.Distance.{unreachable, distance}
use Rattle.paths.specs.Route.{central_route}
use Rattle.grid.specs.Grid.{floor_graph}
use Rattle.planner.specs.Plan.{Slices, Planned}
use Rattle.planner.specs.declared.Plan.{Plan}
use Rattle.thinning.specs.Thinning.{kept_positions, joined_list}
use Rattle.records.specs.Lines.{refused_line}
use Rattle.records.specs.Known.{Written}
use Rattle.records.specs.declared.stream.JobRecord.{JobRecord}
use Rattle.records.proofs.Writing.{written_as}
use Rattle.program_text.specs.Text.{route_text, answer_text, answer_of, points_of, job_text}
use Rattle.program_text.specs.Contract.{
  Ready,
  Room,
  shape_of,
  JobPlanned,
  answer_kept,
  kept_left,
  JobWritten,
  Routable,
  RouteWritten,
}
use Rattle.program_text.proofs.Planning.{route-of}
use Rattle.program_text.proofs.Start.{written-size, written-take}
use Rattle.program_text.proofs.Central.{central-length, central-joined, kept-padded, route-padded}

-- ---- the answer

-- `JobPlanned` of an equal answer.
pub planned-as : {w h : ℕ} {map : List ℕ} {j : JobRecord} {r x : Planned} {route : List ℕ} → r ≡ x
    → JobPlanned w h map j r route → JobPlanned w h map j x route
planned-as e p = record { answer = sym e ∙ p.answer; points = λ x q. p.points x (e ∙ q) }

-- The points of a job's route.
abbrev points : ℕ → ℕ → List ℕ → JobRecord → List ℕ
points w h map j = points_of (floor_of w h map) j.start j.end (shape_of w h map j)

module _ {w h : ℕ} {map : List ℕ} {j : JobRecord} {r : Planned} {route : List ℕ}
    (p : JobPlanned w h map j r route) where
  answer-text : job_text w h map j ≡ answer_text j.number (floor_of w h map) (points w h map j) r
  unfolding job_text
  answer-text = ap (answer_text j.number (floor_of w h map) (points w h map j)) (sym p.answer)

  answer-kept : (kept : List ℕ) → kept_left w h map j kept ≡ answer_kept (floor_of w h map) (points w h map j) kept r
  unfolding kept_left
  answer-kept kept = ap (answer_kept (floor_of w h map) (points w h map j) kept) (sym p.answer)

-- ---- a route

-- Where the answer is a route of n points: the job is fit, and the route slice has the central route.
record FoundRoute (w h : ℕ) (map : List ℕ) (j : JobRecord) (n : ℕ) (route : List ℕ) : Type 0 where
  dirs : Directions
  fit : shape_of w h map j ≡ Ok dirs
  reached : distance (floor_graph (floor_of w h map) dirs) j.start j.end < unreachable
  count : n ≡ length (central_route (floor_graph (floor_of w h map) dirs) j.start j.end)
  list : route ≡ padded (vertices w h) (central_route (floor_graph (floor_of w h map) dirs) j.start j.end)

found-route : {w h : ℕ} {map : List ℕ} {j : JobRecord} {x : Plan} {route : List ℕ}
    → JobPlanned w h map j (Ok x) route → FoundRoute w h map j x.points route
unfolding answer_of points_of
found-route {w} {h} {map} {j} {x} {route} p =
    cases (shape_of w h map j) refl p.answer (p.points x refl)
  where
    cases : (shape : Result Directions Refusal) → shape_of w h map j ≡ shape
        → Ok x ≡ answer_of (floor_of w h map) j.start j.end shape
        → route ≡ padded (vertices w h) (points_of (floor_of w h map) j.start j.end shape)
        → FoundRoute w h map j x.points route
    cases (Ok dirs) q u v =
        let r = route-of (floor_graph (floor_of w h map) dirs) j.start j.end x (sym u) in
        record { dirs = dirs; fit = q; reached = r.reached; count = r.count; list = v }
    cases (Err r) q u v = cc

-- ---- the lines written

pub ready-room : {w h : ℕ} {map d : List ℕ} {s : Slices} {kept out : List ℕ} → Ready w h map d s kept out
    → Room w h map kept out
ready-room r = record { floor = r.floor; kept_len = r.lent.kept_len; room = r.room }

module _ {w h : ℕ} {map : List ℕ} (j : JobRecord) {kept out : List ℕ} (ready : Room w h map kept out) where
  few : vertices w h ≤ 1024
  few = mul-le-mul {n₂ = 32} {m₂ = 32} (omega (arith, ready.floor.high)) (omega (arith, ready.floor.wide))

  told : {r : Planned} {route kept' out' : List ℕ} {n : ℕ} → JobPlanned w h map j r route
      → Written out 0 (answer_text j.number (floor_of w h map) (points w h map j) r) out' n
      → kept' ≡ answer_kept (floor_of w h map) (points w h map j) kept r → JobWritten w h map j kept out n kept' out'
  told {r} {route} {kept'} {out'} {n} p t k =
      let text = answer-text p in
      let here : Written out 0 (job_text w h map j) out' n = rw text t in
      record {
        size = written-size here;
        text = written-take here;
        written = here;
        positions = k ∙ sym (answer-kept p kept);
      }

  pub refused-written : {r : Refusal} {route out' : List ℕ} {k n : ℕ} → JobPlanned w h map j (Err r) route
      → k ≡ refusal_number r → Written out 0 (refused_line j.number k) out' n
      → JobWritten w h map j kept out n kept out'
  unfolding answer_text
  refused-written p e t = told p (written_as (ap (refused_line j.number) e) t) refl

  module _ {x : Plan} {route : List ℕ} (p : JobPlanned w h map j (Ok x) route) where
    found : FoundRoute w h map j x.points route
    found = found-route p

    central : List ℕ
    central = central_route (floor_graph (floor_of w h map) found.dirs) j.start j.end

    route-size : length route ≡ vertices w h
    unfolding central
    route-size =
        ap length found.list
        ∙ length-padded (vertices w h) central
        (central-length w h map j.neighbourhood j.start j.end found.dirs found.fit)

    pub routable : Routable w h map route x.points kept out
    unfolding central
    routable = record {
      floor = ready.floor;
      kept_len = ready.kept_len ∙ sym route-size;
      short = omega (arith, route-size, few);
      joined = ap₂ (joined_list (floor_of w h map)) found.list found.count
          ∙ central-joined w h map j.neighbourhood j.start j.end found.dirs found.fit found.reached;
      room = omega (arith, route-size, ready.room);
    }

    pub found-written : {kept' out' : List ℕ} {next : ℕ}
        → RouteWritten (floor_of w h map) j.number x.cost x.total x.points route kept out kept' next out'
        → JobWritten w h map j kept out next kept' out'
    unfolding answer_text points_of central
    found-written {kept'} {out'} {next} r =
        let f = floor_of w h map in
        let same : points w h map j ≡ central = ap (points_of f j.start j.end) found.fit in
        let lines : route_text j.number f route x.cost x.total x.points
        ≡ route_text j.number f (points w h map j) x.cost x.total x.points =
        ap (λ l. route_text j.number f l x.cost x.total x.points) found.list
        ∙ route-padded j.number f central (vertices w h) x.cost x.total x.points
        ∙ ap (λ l. route_text j.number f l x.cost x.total x.points) (sym same) in
        told p (rw lines at r.written)
        (r.positions
        ∙ ap (padded (length kept))
        (ap (λ l. kept_positions f l x.points) found.list ∙ kept-padded f central (vertices w h) x.points
        ∙ ap (λ l. kept_positions f l x.points) (sym same)))
