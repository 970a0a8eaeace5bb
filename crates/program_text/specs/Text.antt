-- docs/RULES.md, 16.6 to 16.9: the text that the program writes.
--
--   route_text n f points .. == the two lines of a route of these points: its cost, total and point count, the number of
--                              points kept, and the kept vertices
--   answer_text n f points r == the lines of job n on floor f for the planner's answer r: the refused line, or the two
--                              of the route
--   answer_of f a b shape    == the planner's answer for a job from a to b of the given shape
--   points_of f a b shape    == the points of the central route of a job from a to b of the given shape; none where it
--                              is refused by 1 to 5 or 11
--   job_text w h map j       == the lines of job j on a floor of width w and height h
--   jobs_text w h map js     == the lines of the jobs js one after the other
--   bad_text o               == the bad line where there is a bad record, at place o
--   rest_text w h map t      == the lines of the jobs of t, then the bad line where t has a bad record
--   floor_text s m t         == the lines of the stream t with the map m, whose cells are in s; the bad line alone where
--                              there is no map
--   program_text s           == all that the program writes for the input s
use Rattle.std.specs.Prelude.{ℕ, List, [], ◌∷◌, ◌++◌, length}
use Rattle.std.specs.Prelude.{Result, Ok, Err}
use Rattle.std.proofs.Math.Option.{Option, some, none}
use Rattle.floor.specs.Floor.{Floor, floor_of, stored_cells}
use Rattle.floor.specs.Refusals.{refusal_number}
use Rattle.floor.specs.declared.Refusal.{Refusal}
use Rattle.moves.specs.declared.Directions.{Directions}
use Rattle.paths.specs.Route.{central_route}
use Rattle.grid.specs.Grid.{floor_graph, job_shape}
use Rattle.planner.specs.Plan.{Planned, route_answer}
use Rattle.thinning.specs.Thinning.{kept_positions}
use Rattle.records.specs.Format.{Stream, cells_of, stream_of}
use Rattle.records.specs.Lines.{refused_line, route_line, at_line, bad_line, kept_of}
use Rattle.records.specs.declared.stream.MapRecord.{MapRecord}
use Rattle.records.specs.declared.stream.JobRecord.{JobRecord}

-- The second line has the points at the kept positions.
abbrev pub route_text : ℕ → Floor → List ℕ → ℕ → ℕ → ℕ → List ℕ
route_text n f points cost total count =
    let kept = kept_positions f points count in
    route_line n cost total count (length kept) ++ at_line (kept_of (length kept) kept points)

unfoldable pub answer_text : ℕ → Floor → List ℕ → Planned → List ℕ
answer_text n f points (Ok p) = route_text n f points p.cost p.total p.points
answer_text n f points (Err r) = refused_line n (refusal_number r)

unfoldable pub answer_of : Floor → ℕ → ℕ → Result Directions Refusal → Planned
answer_of f a b (Ok dirs) = route_answer (floor_graph f dirs) a b
answer_of f a b (Err r) = Err r

unfoldable pub points_of : Floor → ℕ → ℕ → Result Directions Refusal → List ℕ
points_of f a b (Ok dirs) = central_route (floor_graph f dirs) a b
points_of f a b (Err r) = []

unfoldable pub job_text : ℕ → ℕ → List ℕ → JobRecord → List ℕ
job_text w h map j =
    let f = floor_of w h map in
    let shape = job_shape w h map j.neighbourhood j.start j.end in
    answer_text j.number f (points_of f j.start j.end shape) (answer_of f j.start j.end shape)

unfoldable pub jobs_text : ℕ → ℕ → List ℕ → List JobRecord → List ℕ
jobs_text w h map [] = []
jobs_text w h map (j ∷ js) = job_text w h map j ++ jobs_text w h map js

abbrev pub bad_text : Option ℕ → List ℕ
bad_text none = []
bad_text (some k) = bad_line k

unfoldable pub rest_text : ℕ → ℕ → List ℕ → Stream → List ℕ
rest_text w h map t = jobs_text w h map t.jobs ++ bad_text t.bad

abbrev pub floor_text : List ℕ → Option MapRecord → Stream → List ℕ
floor_text s none t = bad_text t.bad
floor_text s (some m) t = rest_text m.wide m.high (stored_cells (cells_of s m)) t

unfoldable pub program_text : List ℕ → List ℕ
program_text s = floor_text s (stream_of s).map (stream_of s)
