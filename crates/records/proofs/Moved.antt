-- The cursor past a map or a job is further on and within the input, so that a loop over the records ends. The cells of
-- the map are within the input and are 0 or 1; the number of the job is the one that was due.
--
--   map-step   == `MapFound` of a map that a step finds, and of the cursor past it
--   job-step   == `JobFound` of a job that a step finds, and of the cursor past it
use Prim.Native.Nat.{ℕ, ◌+◌, ◌*◌, ◌≤◌, ◌<◌}
use mathlib.Core.Path.{◌≡◌, refl}
use mathlib.Core.Bool.{true}
use mathlib.Core.List.{List}
use native.Mathlib.Omega.{arith}
use native.Mathlib.Nat.{mul-le-mul}
use lib.ListN.{length}
use Rattle.basics.specs.Bounded.{every}
use Rattle.records.specs.Format.{wide_at, high_at, cell_byte, map_in, past_map, job_in, past_job, record_at, Step, gives_map, gives_job}
use Rattle.records.specs.declared.stream.Cursor.{Cursor}
use Rattle.records.specs.declared.stream.MapRecord.{MapRecord}
use Rattle.records.specs.declared.stream.JobRecord.{JobRecord}
use Rattle.records.proofs.Found.{
  same-found,
  side-pos,
  side-le,
  GoodMap,
  GoodJob,
  Finding,
  found_map,
  no-map,
  at-end,
  found-job,
  no-job,
  finding,
}

pub record Moved (s : List ℕ) (c d : Cursor) : Type 0 where
  pub on : c.at < d.at
  pub within : d.at ≤ length s
  pub next : d.due ≡ c.due + 1

pub record MapFound (s : List ℕ) (c : Cursor) (m : MapRecord) (d : Cursor) : Type 0 where
  pub moved : Moved s c d
  pub due : c.due ≡ 0
  pub wide_pos : 1 ≤ m.wide
  pub wide : m.wide ≤ 31
  pub high_pos : 1 ≤ m.high
  pub high : m.high ≤ 31
  pub place : m.cells ≡ c.at + 4
  pub cells_end : m.cells + m.wide * m.high ≡ d.at
  pub cells : every (m.wide * m.high) (cell_byte s m.cells) ≡ true

pub record JobFound (s : List ℕ) (c : Cursor) (j : JobRecord) (d : Cursor) : Type 0 where
  pub moved : Moved s c d
  pub number : j.number ≡ c.due
  pub number_pos : 1 ≤ j.number
  pub number_le : j.number ≤ 1000
  pub past : d.at ≡ c.at + 7

never : {P : Type 0} → ◌≡◌ {A = ℕ} 0 1 → P
never e = absurd (omega arith)

pub cells-few : (s : List ℕ) (p : ℕ) → GoodMap s p → wide_at s p * high_at s p ≤ 961
cells-few s p g = mul-le-mul {n₂ = 31} {m₂ = 31} (side-le (wide_at s p) g.wide) (side-le (high_at s p) g.high)

module _ (s : List ℕ) (c : Cursor) where
  this-map : c.due ≡ 0 → GoodMap s c.at → MapFound s c (map_in s c.at) (past_map s c.at)
  this-map z g = record {
    moved = record { on = omega arith; within = omega (arith, g.whole); next = omega arith };
    due = z;
    wide_pos = side-pos (wide_at s c.at) g.wide;
    wide = side-le (wide_at s c.at) g.wide;
    high_pos = side-pos (high_at s c.at) g.high;
    high = side-le (high_at s c.at) g.high;
    place = refl;
    cells_end = refl;
    cells = g.cells;
  }

  this-job : 1 ≤ c.due → c.due ≤ 1000 → GoodJob s c.at
      → JobFound s c (job_in s c.at c.due) (past_job c.at c.due)
  this-job a b g = record {
    moved = record { on = omega arith; within = omega (arith, g.whole); next = refl };
    number = refl;
    number_pos = a;
    number_le = b;
    past = refl;
  }

  pub map-step : (m : MapRecord) (d : Cursor) → record_at s c ≡ gives_map m d → MapFound s c m d
  map-step m d e = cases (record_at s c) (finding s c) e
    where
      cases : (r : Step) → Finding s c r → r ≡ gives_map m d → MapFound s c m d
      cases _ (found_map z g) x =
          let e = same-found x in
          let p : map_in s c.at ≡ m = cc in
          rw (← p, ← e.1) (this-map z g)
      cases _ (no-map z g) x = never (cc)
      cases _ (at-end a l) x = never (cc)
      cases _ (found-job a b g) x = let e = same-found x in never (cc)
      cases _ (no-job a l g) x = never (cc)

  pub job-step : (j : JobRecord) (d : Cursor) → record_at s c ≡ gives_job j d → JobFound s c j d
  job-step j d e = cases (record_at s c) (finding s c) e
    where
      cases : (r : Step) → Finding s c r → r ≡ gives_job j d → JobFound s c j d
      cases _ (found_map z g) x = let e = same-found x in never (cc)
      cases _ (no-map z g) x = never (cc)
      cases _ (at-end a l) x = never (cc)
      cases _ (found-job a b g) x =
          let e = same-found x in
          let p : job_in s c.at c.due ≡ j = cc in
          rw (← p, ← e.1) (this-job a b g)
      cases _ (no-job a l g) x = never (cc)
