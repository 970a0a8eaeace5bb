-- Used by contracts between functions; nobody has to believe it: laws tie it to the definitions.
-- What the functions of this crate require, and what they leave.
--
--   SmallFloor w h map        == a floor of good shape with sides of at most 31 cells
--   JobSlices v ..            == the slices of the sheet and the slice of kept positions have v places, the working
--                                slice 4 * v
--   room_of v                 == the bytes that the lines of a job on v vertices may take: 160 for the first line, and
--                                for the second 6 for each vertex, and 3 for "at" and its end
--   Ready ..                  == `SmallFloor`, `JobSlices` for its vertices, and room for the lines of a job
--   Room ..                   == of these, what the writing of a job's lines takes
--   JobPlanned ..             == r is the answer to the job, and after a route the route slice has its points; of the
--                                other slices nothing is said
--   answer_kept f points kept r == the slice of kept positions after the answer r, where it held `kept` before
--   kept_left ..              == the slice of kept positions after a job: the kept positions of its central route, then
--                                0; unchanged where the job is refused
--   JobWritten ..             == the lines of the job are in the buffer, and the kept positions in their slice
--   Routable ..               == a small floor and a list of its vertices, each of which sees the next
--   RouteWritten ..           == the two lines of the route are in the buffer, from its start on
--   CellsIn s m map           == the cells of the map m are within the input s, and the slice has the length of a
--                                stored map of them
--   text_from s w h map c     == what the program writes from the cursor c on, which is past the map
--   and_from l o rest         == the text l, then `rest` of the cursor o, if there is one
--   turn_text r out rest      == the text that the turn r wrote into `out`, then `rest` of the cursor that it answers
--   Moves s c o, GoesOn s c r == the cursor o, or that of the turn r, if any, is further on than c and within the input
--                                s, a job is due there, and it is `Reached` where c is
--   TurnWritten ..            == the text of the turn r and the text from the cursor that it answers are the text from
--                                c on, for every input with the same record at c; of the other slices nothing is said
use Rattle.std.specs.Prelude.{ℕ, ◌+◌, ◌*◌, ◌≤◌, ◌<◌, ◌≡◌, true, List, ◌++◌, length, take}
use Rattle.std.specs.Prelude.{Result, Ok, Err, Option, Some, None}
use Rattle.basics.specs.Lists.{padded}
use Rattle.floor.specs.Floor.{Floor, map_length, floor_of, vertices}
use Rattle.floor.specs.Refusals.{floor_shape}
use Rattle.floor.specs.declared.Refusal.{Refusal}
use Rattle.moves.specs.declared.Directions.{Directions}
use Rattle.grid.specs.Grid.{job_shape}
use Rattle.planner.specs.Parts.{FullSlices}
use Rattle.planner.specs.Plan.{Slices, Planned}
use Rattle.planner.specs.declared.Plan.{Plan}
use Rattle.thinning.specs.Thinning.{kept_positions, joined_list}
use Rattle.records.specs.Format.{record_at, stream_from}
use Rattle.records.specs.Known.{Written}
use Rattle.records.specs.Settled.{Reached}
use Rattle.records.specs.declared.stream.Cursor.{Cursor}
use Rattle.records.specs.declared.stream.MapRecord.{MapRecord}
use Rattle.records.specs.declared.stream.JobRecord.{JobRecord}
use Rattle.program_text.specs.Text.{route_text, answer_of, points_of, job_text, rest_text}
use Rattle.program_text.specs.declared.Turn.{Turn}

pub record SmallFloor (w h : ℕ) (map : List ℕ) : Type 0 where
  pub shape : floor_shape w h map ≡ Ok tt
  pub wide : w ≤ 31
  pub high : h ≤ 31

pub record JobSlices (v : ℕ) (d : List ℕ) (s : Slices) (kept : List ℕ) : Type 0 where
  pub full : FullSlices v d s.e s.f s.b s.route s.next s.work
  pub kept_len : length kept ≡ v

abbrev pub room_of : ℕ → ℕ
room_of v = 160 + (3 + 6 * v)

pub record Ready (w h : ℕ) (map d : List ℕ) (s : Slices) (kept out : List ℕ) : Type 0 where
  pub floor : SmallFloor w h map
  pub lent : JobSlices (vertices w h) d s kept
  pub room : room_of (vertices w h) ≤ length out

pub record Room (w h : ℕ) (map kept out : List ℕ) : Type 0 where
  pub floor : SmallFloor w h map
  pub kept_len : length kept ≡ vertices w h
  pub room : room_of (vertices w h) ≤ length out

abbrev pub shape_of : ℕ → ℕ → List ℕ → JobRecord → Result Directions Refusal
shape_of w h map j = job_shape w h map j.neighbourhood j.start j.end

pub record JobPlanned (w h : ℕ) (map : List ℕ) (j : JobRecord) (r : Planned) (route : List ℕ) : Type 0 where
  pub answer : r ≡ answer_of (floor_of w h map) j.start j.end (shape_of w h map j)
  pub points : (p : Plan) → r ≡ Ok p
      → route ≡ padded (vertices w h) (points_of (floor_of w h map) j.start j.end (shape_of w h map j))

abbrev pub answer_kept : Floor → List ℕ → List ℕ → Planned → List ℕ
answer_kept f points kept (Ok p) = padded (length kept) (kept_positions f points p.points)
answer_kept f points kept (Err r) = kept

unfoldable pub kept_left : ℕ → ℕ → List ℕ → JobRecord → List ℕ → List ℕ
kept_left w h map j kept =
    let f = floor_of w h map in
    let shape = shape_of w h map j in
    answer_kept f (points_of f j.start j.end shape) kept (answer_of f j.start j.end shape)

-- The slices are kept and out before the job, kept' and out' after it; n is the length of the text.
pub record JobWritten (w h : ℕ) (map : List ℕ) (j : JobRecord) (kept out : List ℕ) (n : ℕ) (kept' out' : List ℕ)
    : Type 0 where
  pub size : n ≡ length (job_text w h map j)
  pub text : take n out' ≡ job_text w h map j
  pub written : Written out 0 (job_text w h map j) out' n
  pub positions : kept' ≡ kept_left w h map j kept

-- ---- the lines of a route

pub record Routable (w h : ℕ) (map points : List ℕ) (n : ℕ) (kept out : List ℕ) : Type 0 where
  pub floor : SmallFloor w h map
  pub kept_len : length kept ≡ length points
  pub short : length points ≤ 16384
  pub joined : joined_list (floor_of w h map) points n ≡ true
  pub room : room_of (length points) ≤ length out

pub record RouteWritten (f : Floor) (number cost total n : ℕ) (points kept out kept' : List ℕ) (next : ℕ)
    (out' : List ℕ)
    : Type 0 where
  pub written : Written out 0 (route_text number f points cost total n) out' next
  pub positions : kept' ≡ padded (length kept) (kept_positions f points n)

-- ---- a turn of the program

pub record CellsIn (s : List ℕ) (m : MapRecord) (map : List ℕ) : Type 0 where
  pub within : m.cells + m.wide * m.high ≤ length s
  pub size : length map ≡ map_length (m.wide * m.high)

unfoldable pub text_from : List ℕ → ℕ → ℕ → List ℕ → Cursor → List ℕ
text_from s w h map c = rest_text w h map (stream_from s c)

abbrev pub and_from : List ℕ → Option Cursor → (Cursor → List ℕ) → List ℕ
and_from l (Some d) rest = l ++ rest d
and_from l None rest = l

abbrev pub turn_text : Turn → List ℕ → (Cursor → List ℕ) → List ℕ
turn_text r out rest = and_from (take r.bytes out) r.next rest

abbrev pub Moves : List ℕ → Cursor → Option Cursor → Type 0
Moves s c (Some d) = (c.at < d.at) × (d.at ≤ length s) × (1 ≤ d.due) × (Reached c → Reached d)
Moves s c None = (0 ≤ 0)

pub record GoesOn (s : List ℕ) (c : Cursor) (r : Turn) : Type 0 where
  pub moved : Moves s c r.next

pub record TurnWritten (s : List ℕ) (w h : ℕ) (map : List ℕ) (c : Cursor) (r : Turn) (out : List ℕ) : Type 0 where
  pub text : (t : List ℕ) → record_at t c ≡ record_at s c → turn_text r out (text_from t w h map) ≡ text_from t w h map c
  pub fits : r.bytes ≤ length out
  pub on : GoesOn s c r
