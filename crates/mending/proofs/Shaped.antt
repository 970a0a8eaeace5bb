-- The tests of the shape of the input, and what each step of the code says of the answer.
--
--   mend-fit                 == `mend_shape` is fit where the job is and each length is right
--   job-is-fit, job-mendable == where `mend_shape` is fit, so is the job; and it is `Mendable`
--   mends-sheet              == the operation's answer where the shape is good
--   plan-costing             == the costs of a `Plannable` job can be filled
--   plan-finishable          == a `Plannable` job can be finished, once the costs from its start are filled
--   planned-of               == `PlannedSheet` of the filled costs and the finished job
--   alike-shaped             == `AlikeSheets` of two sheets of v places each
--   alike-left               == `AlikeSheets` of the damaged sheet and slices that have kept the lengths of the second
--                               set
--   mended-of                == `MendsSheet` of the planner's answer and sheet, with the differences to it
use Prim.Native.Nat.{ℕ, ◌*◌}
use mathlib.Core.Path.{◌≡◌, refl, sym, ◌∙◌}
use mathlib.Core.Logic.{⊎_elim}
use mathlib.Core.Bool.{Bool, true, false, ◌&&◌}
use mathlib.Core.List.{List}
use borrow.Author.Tests.{eqb-true, eq-eqb}
use lib.Dec.{eqb}
use lib.ListN.{length}
use Rattle.std.specs.Prelude.{Result, Ok, Err}
use Rattle.basics.proofs.Bools.{true-or-false, and_left, and_right}
use Rattle.floor.specs.Floor.{floor_of, vertices}
use Rattle.floor.specs.declared.Refusal.{Refusal}
use Rattle.moves.specs.declared.Directions.{Directions}
use Rattle.paths.specs.Graph.{Graph}
use Rattle.paths.specs.Sheet.{Sheet, sheet_of, joined, fits, route_sheet, no_route_sheet}
use Rattle.paths.specs.Local.{Shaped}
use Rattle.paths.proofs.Sheets.{lengths-shaped}
use Rattle.grid.specs.Grid.{floor_graph, job_shape}
use Rattle.grid.proofs.Jobs.{good-job, start-alone, refused-fit}
use Rattle.distances.specs.Costs.{Costing, FilledCosts}
use Rattle.checker.specs.Answer.{sheet_sized}
use Rattle.planner.specs.Plan.{Planned, Slices, slices_of, route_answer, route_left}
use Rattle.planner.specs.Parts.{Finishable, Finished}
use Rattle.mending.specs.declared.Differences.{Differences}
use Rattle.mending.specs.Mending.{
  MendSlices,
  MendAnswer,
  mend_slices_of,
  sheet_in,
  sheet_differences,
  sheet_answer,
  with_costs,
  sheet_left,
  if_sized,
  mend_shape,
  shape_for,
  mend_answer,
  mend_left,
  Mends,
}
use Rattle.mending.specs.Known.{answer_by, AlikeSheets, Plannable, PlannedSheet, Mendable, MendsSheet}

-- ---- the shape

-- Where `if_sized z j` is fit, z is true and j is fit.
sized-fit : (z : Bool) (j : Result Directions Refusal) {dirs : Directions} → if_sized z j ≡ Ok dirs
    → (z ≡ true) × (j ≡ Ok dirs)
sized-fit true (Ok r) e = (refl, e)
sized-fit false (Ok r) e = refused-fit e
sized-fit z (Err r) e = refused-fit e

sized-shaped : (v : ℕ) (s : Sheet) → sheet_sized v s ≡ true → Shaped v s
unfolding sheet_sized
sized-shaped v s t = lengths-shaped v s t

pub mend-fit : (w h : ℕ) (map : List ℕ) (nb a b : ℕ) (old second : Sheet) (work : List ℕ) {dirs : Directions} {v : ℕ}
    → job_shape w h map nb a b ≡ Ok dirs → v ≡ vertices w h → sheet_sized v old ≡ true → sheet_sized v second ≡ true
    → length work ≡ 4 * v → Ok dirs ≡ mend_shape w h map nb a b old second work
unfolding mend_shape
mend-fit w h map nb a b old second work {v = v} j q o t e =
    rw (← q, j, o, t, eq-eqb (length work) (4 * v) e)

module _ (w h : ℕ) (map : List ℕ) (nb a b : ℕ) (old : Sheet) (s : MendSlices) (dirs : Directions)
    (fit : shape_for w h map nb a b old s ≡ Ok dirs) where
  pub job-is-fit : job_shape w h map nb a b ≡ Ok dirs
  unfolding mend_shape
  job-is-fit = (sized-fit _ (job_shape w h map nb a b) fit).1

  pub job-mendable : Mendable w h map dirs a b old s
  unfolding mend_shape
  job-mendable =
      let v = vertices w h in
      let O = sheet_sized v old in
      let S = sheet_sized v (sheet_in s 0) in
      let W = eqb (length s.work) (4 * v) in
      let t = sized-fit (O && S && W) (job_shape w h map nb a b) fit in
      let both = and_left (O && S) W t.0 in
      record {
        plannable = record {
          job = good-job w h map nb a b dirs t.1;
          lent = record {
            sheet = sized-shaped v (sheet_in s 0) (and_right O S both);
            work_len = eqb-true (length s.work) (4 * v) (and_right (O && S) W t.0);
          };
        };
        damaged = sized-shaped v old (and_left O S both);
      }

pub mends-sheet : {w h : ℕ} {map : List ℕ} {nb a b : ℕ} {old : Sheet} {s s' : MendSlices} {dirs : Directions} {r : MendAnswer}
    → shape_for w h map nb a b old s ≡ Ok dirs → MendsSheet (floor_graph (floor_of w h map) dirs) a b old r s'
    → Mends w h map nb a b old s r s'
unfolding mend_answer mend_left
mends-sheet e P = record { answer = rw e P.answer; left = rw e P.left }

-- ---- the true sheet

pub plan-costing : {w h : ℕ} {map : List ℕ} {dirs : Directions} {a b : ℕ} {s : MendSlices} → Plannable w h map dirs a b s
    → Costing w h map dirs a s.d s.work
plan-costing P = record { job = start-alone P.job; d_len = P.lent.sheet.d; work_len = P.lent.work_len }

module _ {w h : ℕ} {map : List ℕ} {dirs : Directions} {a b : ℕ} {d e f back route next work d' work' : List ℕ} where
  pub plan-finishable : Plannable w h map dirs a b (mend_slices_of d e f back route next work)
      → FilledCosts (floor_graph (floor_of w h map) dirs) a d' work' → length d' ≡ length d → length work' ≡ length work
      → Finishable w h map dirs a b d' (slices_of e f back route next work')
  plan-finishable P F d-same work-same = record {
    job = P.job;
    lent = record {
      sheet = record {
        d = d-same ∙ P.lent.sheet.d;
        e = P.lent.sheet.e;
        f = P.lent.sheet.f;
        b = P.lent.sheet.b;
        route = P.lent.sheet.route;
        next = P.lent.sheet.next;
      };
      work_len = work-same ∙ P.lent.work_len;
    };
    costs = F.costs;
  }

pub planned-of : {g : Graph} {a b : ℕ} {d work : List ℕ} {r : Planned} {s : Slices} → FilledCosts g a d work
    → Finished g a b r s → PlannedSheet g a b r (with_costs d s)
unfolding sheet_left
planned-of C F = record { answer = F.answer; left = rw (C.costs, F.left) }

-- ---- the differences, and the answer

pub alike-shaped : {v : ℕ} {s t : Sheet} → Shaped v s → Shaped v t → AlikeSheets s t
alike-shaped S T = record {
  d = S.d ∙ sym T.d;
  e = S.e ∙ sym T.e;
  f = S.f ∙ sym T.f;
  b = S.b ∙ sym T.b;
  route = S.route ∙ sym T.route;
  next = S.next ∙ sym T.next;
}

pub alike-left : {w h : ℕ} {map : List ℕ} {dirs : Directions} {a b : ℕ} {old : Sheet} {s : MendSlices}
    (d e f back route next : List ℕ) → Mendable w h map dirs a b old s
    → length d ≡ length s.d → length e ≡ length s.e → length f ≡ length s.f
    → length back ≡ length s.b → length route ≡ length s.route → length next ≡ length s.next
    → AlikeSheets old (sheet_of d e f back route next 0)
alike-left d e f back route next M qd qe qf qb qr qx =
    let S = M.plannable.lent.sheet in
    alike-shaped M.damaged (record {
      d = qd ∙ S.d;
      e = qe ∙ S.e;
      f = qf ∙ S.f;
      b = qb ∙ S.b;
      route = qr ∙ S.route;
      next = qx ∙ S.next;
    })

-- The planner's answer to a job, with the differences to what it leaves, is the answer of the operation.
by-planner : (g : Graph) (a b : ℕ) (old : Sheet)
    → answer_by (route_answer g a b) (sheet_differences old (sheet_in (sheet_left g a b) 0)) ≡ sheet_answer g a b old
unfolding route_answer route_left sheet_answer sheet_left route_sheet no_route_sheet
by-planner g a b old = ⊎_elim
    (λ (j : joined g a b ≡ true).
    ⊎_elim (λ (f : fits g a b ≡ true). rw (j, f)) (λ (f : fits g a b ≡ false). rw (j, f)) (true-or-false (fits g a b)))
    (λ (j : joined g a b ≡ false). rw j) (true-or-false (joined g a b))

pub mended-of : {g : Graph} {a b : ℕ} {old : Sheet} {p : Planned} {s : MendSlices} {c : Differences} {r : MendAnswer}
    → PlannedSheet g a b p s → c ≡ sheet_differences old (sheet_in s 0) → r ≡ answer_by p c
    → MendsSheet g a b old r s
mended-of {g} {a} {b} {old} P e q =
    record { answer = q ∙ rw (e, P.answer, P.left) (by-planner g a b old); left = P.left }
