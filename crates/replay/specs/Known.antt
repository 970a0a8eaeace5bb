-- Used by contracts between functions; nobody has to believe it: laws tie it to the definitions.
-- What the functions of the replay require and leave.
--
--   Drivable w h map dirs == the floor and the directions of the neighbourhood are good
--   vertex_of v           == the vertex with number v
--   progress_of n c f e   == the progress with n records read, cost c, the first record f that cannot follow, if any,
--                            and first and last stops e, if any
--   last_in e             == the last of the stops e
--   before s              == the vertex of the last record read; none where none was read
--   first_with e v        == the first stop, after one of vertex v is read: that of e, or v where there is none
--   after_stop g p s v    == the progress s after one more record, of vertex v
--   after_stops g p s l   == the progress s after records of the stops l, one by one
--   start_progress        == the progress before the first record
--   EndsIn v e            == the stops e are vertices of a floor of v vertices
--   Bounded v s           == on a floor of v vertices: the stops of s are vertices, and its cost is at most 4,095 for
--                            each record
--   Taking ..             == what one more record requires: a good floor, a vertex of it, `Bounded`, and fewer than
--                            4,096 records before
--   LogRead ..            == the reading r is that of the whole log
--   sound_ends r          == the first and the last stop of the reading r, where it has a record and neither fault
--   answer_in r b         == the answer for the reading r, where b says whether the log is cheapest
--   Replayable ..         == what the replay of a log requires: `Drivable`, a log of at most 16,384 bytes, and slices
--                            of the right lengths
--   Judged ..             == r says whether the log is cheapest, and the two slices are left as the operation leaves
--                            them
--   ReplaysLog ..         == r is the answer for the log, and the two slices are left as the operation leaves them
use Rattle.std.specs.Prelude.{ℕ, ◌+◌, ◌*◌, ◌≤◌, ◌<◌, ◌≡◌, Bool, ◌&&◌, not, List, [], ◌∷◌, length, Option, None, Some}
use Rattle.basics.specs.Bounded.{pick}
use Rattle.basics.specs.Lists.{zeros}
use Rattle.floor.specs.Floor.{floor_of, vertices}
use Rattle.floor.specs.Known.{Sized}
use Rattle.floor.specs.declared.Vertex.{Vertex}
use Rattle.moves.specs.declared.Directions.{Directions}
use Rattle.moves.specs.Table.{Listed}
use Rattle.paths.specs.Graph.{Graph}
use Rattle.grid.specs.Grid.{floor_graph}
use Rattle.logs.specs.Log.{Log, log_of}
use Rattle.replay.specs.Replay.{follow_cost, throughout, cheapest, log_answer, log_costs, pinch_at}
use Rattle.replay.specs.declared.Progress.{Progress}
use Rattle.replay.specs.declared.Reading.{Reading}
use Rattle.replay.specs.declared.Replayed.{Replayed}

pub record Drivable (w h : ℕ) (map : List ℕ) (dirs : Directions) : Type 0 where
  pub sized : Sized w h map
  pub listed : Listed dirs

-- ---- one record more

abbrev pub vertex_of : ℕ → Vertex
vertex_of v = record { 0 = v }

abbrev pub progress_of : ℕ → ℕ → Option ℕ → Option (Vertex × Vertex) → Progress
progress_of n c f e = record { read = n; cost = c; unfollowed = f; ends = e }

abbrev pub last_in : Option (Vertex × Vertex) → Option ℕ
last_in None = None
last_in (Some (a, b)) = Some b.0

abbrev pub before : Progress → Option ℕ
before s = last_in s.ends

abbrev pub first_with : Option (Vertex × Vertex) → ℕ → Vertex
first_with None v = vertex_of v
first_with (Some (a, b)) v = a

-- The cost c and that of one more record; c alone where a record before could not follow.
abbrev pub cost_with : Option ℕ → ℕ → Option ℕ → ℕ
cost_with None c None = c
cost_with None c (Some x) = c + x
cost_with (Some k) c o = c

-- Record n is the first that cannot follow, where all before it could and it cannot.
abbrev pub unfollowed_with : Option ℕ → ℕ → Option ℕ → Option ℕ
unfollowed_with None n None = Some n
unfollowed_with None n (Some x) = None
unfollowed_with (Some k) n o = Some k

unfoldable pub after_stop : Graph → (ℕ → Bool) → Progress → ℕ → Progress
after_stop g p s v =
    let o = follow_cost g p (before s) v in
    progress_of (s.read + 1) (cost_with s.unfollowed s.cost o) (unfollowed_with s.unfollowed (s.read + 1) o)
    (Some (first_with s.ends v, vertex_of v))

unfoldable pub after_stops : Graph → (ℕ → Bool) → Progress → List ℕ → Progress
after_stops g p s [] = s
after_stops g p s (v ∷ l) = after_stops g p (after_stop g p s v) l

abbrev pub start_progress : Progress
start_progress = progress_of 0 0 None None

abbrev pub EndsIn : ℕ → Option (Vertex × Vertex) → Type 0
EndsIn v None = Unit {0}
EndsIn v (Some (a, b)) = (a.0 < v) × (b.0 < v)

pub record Bounded (v : ℕ) (s : Progress) : Type 0 where
  pub ends : EndsIn v s.ends
  pub cost : s.cost ≤ 4095 * s.read

pub record Taking (w h : ℕ) (map : List ℕ) (dirs : Directions) (s : Progress) (v : ℕ) : Type 0 where
  pub good : Drivable w h map dirs
  pub inside : v < vertices w h
  pub bounded : Bounded (vertices w h) s
  pub few : s.read < 4096

-- ---- the whole log

pub record LogRead (w h : ℕ) (map : List ℕ) (dirs : Directions) (log : List ℕ) (r : Reading) : Type 0 where
  pub drive : r.drive
      ≡ after_stops (floor_graph (floor_of w h map) dirs) (pinch_at (floor_of w h map)) start_progress
      (log_of log (vertices w h)).stops
  pub broken : r.broken ≡ (log_of log (vertices w h)).broken
  pub bounded : Bounded (vertices w h) r.drive
  pub few : r.drive.read ≤ 4096

abbrev pub sound_ends : Reading → Option (Vertex × Vertex)
sound_ends r = pick (not r.broken && throughout r.drive.unfollowed) r.drive.ends None

unfoldable pub answer_in : Reading → Bool → Replayed
answer_in r b = record {
  read = r.drive.read;
  cost = r.drive.cost;
  unfollowed = r.drive.unfollowed;
  bad = pick r.broken (Some (r.drive.read + 1)) None;
  cheapest = b;
}

pub record Replayable (w h : ℕ) (map : List ℕ) (dirs : Directions) (log costs work : List ℕ) : Type 0 where
  pub good : Drivable w h map dirs
  pub short : length log ≤ 16384
  pub costs_len : length costs ≡ vertices w h
  pub work_len : length work ≡ 4 * vertices w h

pub record Judged (g : Graph) (p : ℕ → Bool) (l : Log) (r : Bool) (costs' work' : List ℕ) : Type 0 where
  pub answer : r ≡ cheapest g p l
  pub costs : costs' ≡ log_costs g p l
  pub work : work' ≡ zeros (4 * g.size)

pub record ReplaysLog (g : Graph) (p : ℕ → Bool) (l : Log) (r : Replayed) (costs' work' : List ℕ) : Type 0 where
  pub answer : r ≡ log_answer g p l
  pub costs : costs' ≡ log_costs g p l
  pub work : work' ≡ zeros (4 * g.size)
