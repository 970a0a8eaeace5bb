-- The tests of the shape of a job in the planner's operations, and what each says of the answer.
--
--   lent_of                        == `FullSlices`, where `lengths_good`
--   full-sized                     == `slices_sized`, where `FullSlices`
--   lengths-bad                    == `slices_sized` is false, where `lengths_good` is
--   finish-unsized, -refused, -finished == the second operation's answer by the lengths of its slices and the test of d
--   job-false                      == the second operation's answer and slices at a d that is not the costs
--   job-finishable                 == `Finishable`, where d has passed its test
--   finishable-on                  == `Finishable` with another working slice of the same length
use Prim.Native.Nat.{ℕ, ◌*◌}
use mathlib.Core.Path.{◌≡◌, sym, ◌∙◌}
use mathlib.Core.Bool.{Bool, true, false, not}
use mathlib.Core.List.{List}
use borrow.Author.Tests.{eqb-true, eq-eqb, not-true}
use lib.Dec.{eqb}
use lib.ListN.{length}
use Rattle.std.specs.Prelude.{Ok, Err}
use Rattle.basics.proofs.Bools.{and_intro, and_left, and_right}
use Rattle.floor.specs.Floor.{floor_of, vertices}
use Rattle.floor.specs.declared.Refusal.TheVariants.{SliceLength, FalseSheet}
use Rattle.moves.specs.declared.Directions.{Directions}
use Rattle.paths.specs.Sheet.{sheet_of}
use Rattle.paths.proofs.Sheets.{lengths_are, lengths-shaped, shaped-lengths}
use Rattle.grid.specs.Grid.{floor_graph, job_shape}
use Rattle.grid.specs.Known.{GoodJob}
use Rattle.given_costs.specs.Given.{costs_true}
use Rattle.given_costs.proofs.Tested.{true-list}
use Rattle.planner.specs.Plan.{Planned, Slices, slices_of, slices_sized, job_answer, job_left, finish_answer, finish_left, Finishes}
use Rattle.planner.specs.Parts.{lengths_good, FullSlices, Finishable, Finished}

lent_at : (v : ℕ) (d e f back route next work : List ℕ)
    → true ≡ lengths_good v (length d) (length e) (length f) (length back) (length route) (length next) (length work)
    → FullSlices v d e f back route next work
unfolding lengths_good
lent_at v d e f back route next work q =
    let t = sheet_of d e f back route next 0 in
    let W = eqb (length work) (4 * v) in
    record {
      sheet = lengths-shaped v t (and_left (lengths_are v t) W (sym q));
      work_len = eqb-true (length work) (4 * v) (and_right (lengths_are v t) W (sym q));
    }

pub lent_of : {v k : ℕ} {r : Bool} (d e f back route next work : List ℕ) → v ≡ k
    → r ≡ lengths_good v (length d) (length e) (length f) (length back) (length route) (length next) (length work)
    → r ≡ true
    → FullSlices k d e f back route next work
lent_of {k = k} d e f back route next work n q t = lent_at k d e f back route next work (sym t ∙ (rw n at q))

pub full-sized : {v : ℕ} {d e f back route next work : List ℕ} → FullSlices v d e f back route next work
    → slices_sized v d (slices_of e f back route next work) ≡ true
unfolding slices_sized
full-sized {v} {work = work} L =
    and_intro _ _ (shaped-lengths v _ L.sheet) (eq-eqb (length work) (4 * v) L.work_len)

pub lengths-bad : (v k : ℕ) (d e f back route next work : List ℕ) (r : Bool) → v ≡ k
    → r ≡ lengths_good v (length d) (length e) (length f) (length back) (length route) (length next) (length work)
    → r ≡ false
    → slices_sized k d (slices_of e f back route next work) ≡ false
unfolding slices_sized lengths_good
lengths-bad v k d e f back route next work r n q t = sym (rw n at q) ∙ t

module _ {w h : ℕ} {map : List ℕ} {nb a b : ℕ} {dirs : Directions} (fit : job_shape w h map nb a b ≡ Ok dirs)
    {d e f back route next work : List ℕ} where
  pub finish-unsized : slices_sized (vertices w h) d (slices_of e f back route next work) ≡ false
      → Finishes w h map nb a b d (slices_of e f back route next work) (Err SliceLength)
      (slices_of e f back route next work)
  unfolding finish_answer finish_left
  finish-unsized z = record { answer = rw (fit, z); left = rw (fit, z) }

  module _ (L : FullSlices (vertices w h) d e f back route next work) where
    pub finish-refused : costs_true (floor_graph (floor_of w h map) dirs) a d ≡ false
        → Finishes w h map nb a b d (slices_of e f back route next work) (Err FalseSheet)
        (slices_of e f back route next work)
    unfolding finish_answer finish_left
    finish-refused n = let y = full-sized L in record { answer = rw (fit, y, n); left = rw (fit, y, n) }

    pub finish-finished : {r : Planned} {s' : Slices} → costs_true (floor_graph (floor_of w h map) dirs) a d ≡ true
        → Finished (floor_graph (floor_of w h map) dirs) a b r s'
        → Finishes w h map nb a b d (slices_of e f back route next work) r s'
    unfolding finish_answer finish_left
    finish-finished t F =
        let y = full-sized L in record { answer = rw (fit, y, t) F.answer; left = rw (fit, y, t) F.left }

-- Where d is found not to be the costs, the answer is 9 and the slices are as before.
pub job-false : (w h : ℕ) (map : List ℕ) (dirs : Directions) (a b : ℕ) (d e f back route next work : List ℕ)
    → FullSlices (vertices w h) d e f back route next work → (t : Bool) (s' : Slices)
    → t ≡ costs_true (floor_graph (floor_of w h map) dirs) a d → not t ≡ true
    → s' ≡ slices_of e f back route next work
    → ◌≡◌ {A = Planned} (Err FalseSheet) (job_answer w h map a b d (slices_of e f back route next work) (Ok dirs))
    × (s' ≡ job_left w h map a b d (slices_of e f back route next work) (Ok dirs))
job-false w h map dirs a b d e f back route next work L t s' p z q =
    let y = full-sized L in
    let n = sym p ∙ not-true t z in
    (rw (y, n), rw (y, n) q)

module _ {w h : ℕ} {map : List ℕ} {dirs : Directions} {a b : ℕ} {d e f back route next work : List ℕ} where
  pub job-finishable : GoodJob w h map dirs a b → FullSlices (vertices w h) d e f back route next work
      → costs_true (floor_graph (floor_of w h map) dirs) a d ≡ true
      → Finishable w h map dirs a b d (slices_of e f back route next work)
  job-finishable J L t = record {
    job = J;
    lent = L;
    costs = true-list (floor_graph (floor_of w h map) dirs) a d t;
  }

  pub finishable-on : {work' : List ℕ} → Finishable w h map dirs a b d (slices_of e f back route next work)
      → length work' ≡ length work → Finishable w h map dirs a b d (slices_of e f back route next work')
  finishable-on F same = record {
    job = F.job;
    lent = record { sheet = F.lent.sheet; work_len = same ∙ F.lent.work_len };
    costs = F.costs;
  }
