-- docs/RULES.md, 14.4, for every input: at 0 and 7 the checker accepts the mended sheet, and the counts say exactly
-- which slices were damaged.
--
--   takes-route, takes_none == the checker accepts a true route sheet as a route, and a true no_route sheet as no route
--   Ending ..    == the three ways in which a call ends: with the true route sheet in the second set, with the true
--                   no_route sheet there, or with a refusal
--   ending       == `Ending` of every call
--   mended-route == at 0 the checker accepts the second set, with the n answered, as a route
--   mended-none  == at 7 the checker accepts the second set, with the n answered, as no route
--   Exact c s t  == each count of c is 0 exactly when that slice of the sheets s and t is the same
--   counts-exact == at 0 and 7 the counts answered are `Exact` of the damaged sheet and the second set
--   undamaged    == at 0 and 7 all six counts are 0 exactly when every slice of the damaged sheet is the true one
use Prim.Native.Nat.{ℕ}
use mathlib.Core.Path.{◌≡◌, refl, ap}
use mathlib.Core.Logic.{◌⊎◌, ⊎_elim, ◌↔◌}
use mathlib.Core.Bool.{true, false}
use mathlib.Core.List.{List}
use native.Mathlib.Omega.{arith}
use lib.ListN.{length}
use Rattle.std.specs.Prelude.{Result, Ok, Err}
use Rattle.basics.specs.Lists.{differences}
use Rattle.basics.proofs.Bools.{true-or-false, not-both}
use Rattle.basics.proofs.Counting.{differences-same, differences-none}
use Rattle.floor.specs.Floor.{floor_of, vertices}
use Rattle.floor.specs.Refusals.{refusal_number}
use Rattle.floor.specs.declared.Refusal.{Refusal}
use Rattle.floor.specs.declared.Refusal.TheVariants.{TooMany}
use Rattle.moves.specs.declared.Directions.{Directions}
use Rattle.moves.proofs.Table.{listed-lawful}
use Rattle.paths.specs.Graph.{Graph}
use Rattle.paths.specs.Sheet.{Sheet, joined, fits, route_sheet, no_route_sheet, TrueRoute, TrueNoRoute}
use Rattle.paths.specs.Local.{Shaped}
use Rattle.paths.proofs.Sheets.{shaped-lengths, same_sheet-exact, sheet-eq, route-entries, no_route-entries}
use Rattle.planner.specs.Plan.{route_left}
use Rattle.grid.specs.Grid.{floor_graph, job_shape}
use Rattle.grid.proofs.Jobs.{good-job}
use Rattle.grid.proofs.Lawful.{floor-lawful}
use Rattle.checker.specs.Answer.{verdict, sheet_sized, check_answer}
use Rattle.checker.specs.declared.SheetKind.TheVariants.{Route, NoRoute}
use Rattle.mending.specs.declared.Differences.{Differences}
use Rattle.mending.specs.Mending.{
  MendSlices,
  MendAnswer,
  sheet_in,
  sheet_differences,
  no_differences,
  by_route,
  by_none,
  sheet_answer,
  sheet_left,
  shape_for,
  job_answer,
  job_left,
  mend_answer,
  mend_left,
  Mends,
  mend_number,
  mend_points,
  mend_differences,
}
use Rattle.mending.specs.Known.{AlikeSheets}
use Rattle.mending.proofs.Shaped.{job-mendable, job-is-fit, alike-shaped}
use Rattle.mending.proofs.Refused.{other, mend-other}

-- ---- the true sheets of a job

shaped-sized : (v : ℕ) (s : Sheet) → Shaped v s → sheet_sized v s ≡ true
unfolding sheet_sized
shaped-sized v s S = shaped-lengths v s S

module _ (w h : ℕ) (map : List ℕ) (nb a b : ℕ) (dirs : Directions) (fit : job_shape w h map nb a b ≡ Ok dirs)
    (s : Sheet) where
  abbrev g : Graph
  g = floor_graph (floor_of w h map) dirs

  route-shaped : TrueRoute g a b s → Shaped g.size s
  route-shaped T =
      let J = good-job w h map nb a b dirs fit in
      let L = floor-lawful (floor_of w h map) dirs (listed-lawful J.listed) in
      (route-entries g L a b J.start_in J.goal_in s T).shape

  none-shaped : TrueNoRoute g a b s → Shaped g.size s
  none-shaped T = (no_route-entries g a b s T).shape

  pub takes-route : TrueRoute g a b s → check_answer w h map nb a b s ≡ Ok Route
  unfolding check_answer verdict
  takes-route T =
      rw (
        fit,
        shaped-sized g.size s (route-shaped T),
        T.is_joined,
        T.total_fits,
        (same_sheet-exact s (route_sheet g a b)).1 T.is,
      )

  pub takes_none : TrueNoRoute g a b s → check_answer w h map nb a b s ≡ Ok NoRoute
  unfolding check_answer verdict
  takes_none T =
      rw (
        fit,
        shaped-sized g.size s (none-shaped T),
        T.not_joined,
        (same_sheet-exact s (no_route_sheet g a)).1 T.is,
      )

-- ---- the ways in which a call ends

pub data Ending (w h : ℕ) (map : List ℕ) (nb a b : ℕ) (old : Sheet) (s' : MendSlices) : MendAnswer → Type 0 where
  with-route : (dirs : Directions) (n : ℕ) → job_shape w h map nb a b ≡ Ok dirs
      → TrueRoute (floor_graph (floor_of w h map) dirs) a b (sheet_in s' n) → AlikeSheets old (sheet_in s' n)
      → Ending w h map nb a b old s' (by_route n (sheet_differences old (sheet_in s' n)))
  without-route : (dirs : Directions) → job_shape w h map nb a b ≡ Ok dirs
      → TrueNoRoute (floor_graph (floor_of w h map) dirs) a b (sheet_in s' 0) → AlikeSheets old (sheet_in s' 0)
      → Ending w h map nb a b old s' (by_none (sheet_differences old (sheet_in s' 0)))
  with-refusal : (z : Refusal) → other (refusal_number z) ≡ true → Ending w h map nb a b old s' (Err z)

module _ (w h : ℕ) (map : List ℕ) (nb a b : ℕ) (old : Sheet) where
  sheet-ending : (dirs : Directions) → job_shape w h map nb a b ≡ Ok dirs → Shaped (vertices w h) old
      → let g = floor_graph (floor_of w h map) dirs in
      Ending w h map nb a b old (sheet_left g a b) (sheet_answer g a b old)
  unfolding sheet_answer sheet_left route_left route_sheet no_route_sheet
  sheet-ending dirs fit damaged = ⊎_elim
      (λ (j : joined g a b ≡ true). ⊎_elim
      (λ (f : fits g a b ≡ true).
      let T : TrueRoute g a b (route_sheet g a b) = record { is_joined = j; total_fits = f; is = refl } in
      rw (j, f)
      (with-route dirs (route_sheet g a b).n fit T
      (alike-shaped damaged (route-shaped w h map nb a b dirs fit (route_sheet g a b) T))))
      (λ (f : fits g a b ≡ false). rw (j, f) (with-refusal TooMany refl)) (true-or-false (fits g a b)))
      (λ (j : joined g a b ≡ false).
      let T : TrueNoRoute g a b (no_route_sheet g a) = record { not_joined = j; is = refl } in
      rw j
      (without-route dirs fit T
      (alike-shaped damaged (none-shaped w h map nb a b dirs fit (no_route_sheet g a) T))))
      (true-or-false (joined g a b))
    where
      g : Graph
      g = floor_graph (floor_of w h map) dirs

  outcome-ending : (s : MendSlices)
      → Ending w h map nb a b old (mend_left w h map nb a b old s) (mend_answer w h map nb a b old s)
  unfolding mend_left mend_answer
  outcome-ending s = cases (shape_for w h map nb a b old s) refl
    where
      cases : (j : Result Directions Refusal) → shape_for w h map nb a b old s ≡ j
          → Ending w h map nb a b old (job_left w h map a b s j) (job_answer w h map a b old j)
      cases (Err z) q =
          with-refusal z
          (mend-other w h map nb a b old (sheet_in s 0) s.work q)
      cases (Ok dirs) q =
          sheet-ending dirs (job-is-fit w h map nb a b old s dirs q)
          (job-mendable w h map nb a b old s dirs q).damaged

pub ending : {w h : ℕ} {map : List ℕ} {nb a b : ℕ} {old : Sheet} {s s' : MendSlices} {r : MendAnswer}
    → Mends w h map nb a b old s r s' → Ending w h map nb a b old s' r
ending {w} {h} {map} {nb} {a} {b} {old} {s} M = rw (M.answer, M.left) (outcome-ending w h map nb a b old s)

-- ---- the checker

module _ {w h : ℕ} {map : List ℕ} {nb a b : ℕ} {old : Sheet} {s s' : MendSlices} {r : MendAnswer}
    (M : Mends w h map nb a b old s r s') where
  pub mended-route : mend_number r ≡ 0
      → check_answer w h map nb a b (sheet_in s' (mend_points r)) ≡ Ok Route
  mended-route = cases r (ending M)
    where
      cases : (x : MendAnswer) → Ending w h map nb a b old s' x → mend_number x ≡ 0
          → check_answer w h map nb a b (sheet_in s' (mend_points x)) ≡ Ok Route
      cases _ (with-route dirs n fit T l) e = takes-route w h map nb a b dirs fit (sheet_in s' n) T
      cases _ (without-route dirs fit T l) e = absurd (omega arith)
      cases _ (with-refusal z o) e = not-both _ o (ap other e)

  pub mended-none : mend_number r ≡ 7
      → check_answer w h map nb a b (sheet_in s' (mend_points r)) ≡ Ok NoRoute
  mended-none = cases r (ending M)
    where
      cases : (x : MendAnswer) → Ending w h map nb a b old s' x → mend_number x ≡ 7
          → check_answer w h map nb a b (sheet_in s' (mend_points x)) ≡ Ok NoRoute
      cases _ (with-route dirs n fit T l) e = absurd (omega arith)
      cases _ (without-route dirs fit T l) e = takes_none w h map nb a b dirs fit (sheet_in s' 0) T
      cases _ (with-refusal z o) e = not-both _ o (ap other e)

-- ---- the counts

pub record Exact (c : Differences) (s t : Sheet) : Type 0 where
  pub d : (c.d ≡ 0) ↔ (s.d ≡ t.d)
  pub e : (c.e ≡ 0) ↔ (s.e ≡ t.e)
  pub f : (c.f ≡ 0) ↔ (s.f ≡ t.f)
  pub back : (c.back ≡ 0) ↔ (s.b ≡ t.b)
  pub route : (c.route ≡ 0) ↔ (s.route ≡ t.route)
  pub next : (c.next ≡ 0) ↔ (s.next ≡ t.next)

slice-exact : (k l : List ℕ) → length k ≡ length l → (differences k l ≡ 0) ↔ (k ≡ l)
slice-exact k l e = (differences-none k l e, λ q. rw q (differences-same l))

differences-exact : (s t : Sheet) → AlikeSheets s t → Exact (sheet_differences s t) s t
differences-exact s t A = record {
  d = slice-exact s.d t.d A.d;
  e = slice-exact s.e t.e A.e;
  f = slice-exact s.f t.f A.f;
  back = slice-exact s.b t.b A.b;
  route = slice-exact s.route t.route A.route;
  next = slice-exact s.next t.next A.next;
}

-- Whether two sheets are alike does not depend on the point count.
alike-still : {s : Sheet} {m n : ℕ} (t : MendSlices) → AlikeSheets s (sheet_in t m) → AlikeSheets s (sheet_in t n)
alike-still t A = record { d = A.d; e = A.e; f = A.f; b = A.b; route = A.route; next = A.next }

exact-whole : (c : Differences) (s t : Sheet) → Exact c s t → s.n ≡ t.n → (c ≡ no_differences) ↔ (s ≡ t)
exact-whole c s t E n = (
  λ q. sheet-eq s t (E.d.0 (ap (λ x. x.d) q)) (E.e.0 (ap (λ x. x.e) q)) (E.f.0 (ap (λ x. x.f) q))
      (E.back.0 (ap (λ x. x.back) q)) (E.route.0 (ap (λ x. x.route) q)) (E.next.0 (ap (λ x. x.next) q)) n,
  λ q. all_none c (E.d.1 (ap (λ x. x.d) q)) (E.e.1 (ap (λ x. x.e) q)) (E.f.1 (ap (λ x. x.f) q))
      (E.back.1 (ap (λ x. x.b) q)) (E.route.1 (ap (λ x. x.route) q)) (E.next.1 (ap (λ x. x.next) q)),
)
  where
    all_none : (c : Differences) → c.d ≡ 0 → c.e ≡ 0 → c.f ≡ 0 → c.back ≡ 0 → c.route ≡ 0 → c.next ≡ 0
        → c ≡ no_differences
    all_none c d e f b r x = rw (d, e, f, b, r, x)

module _ {w h : ℕ} {map : List ℕ} {nb a b : ℕ} {old : Sheet} {s s' : MendSlices} {r : MendAnswer}
    (M : Mends w h map nb a b old s r s') (mended : (mend_number r ≡ 0) ⊎ (mend_number r ≡ 7)) where
  pub counts-exact : Exact (mend_differences r) old (sheet_in s' old.n)
  counts-exact = cases r (ending M) mended
    where
      cases : (x : MendAnswer) → Ending w h map nb a b old s' x → (mend_number x ≡ 0) ⊎ (mend_number x ≡ 7)
          → Exact (mend_differences x) old (sheet_in s' old.n)
      cases _ (with-route dirs n fit T l) e = differences-exact old (sheet_in s' old.n) (alike-still s' l)
      cases _ (without-route dirs fit T l) e = differences-exact old (sheet_in s' old.n) (alike-still s' l)
      cases _ (with-refusal z o) e = ⊎_elim (λ q. not-both _ o (ap other q)) (λ q. not-both _ o (ap other q)) e

  pub undamaged : (mend_differences r ≡ no_differences) ↔ (old ≡ sheet_in s' old.n)
  undamaged = exact-whole (mend_differences r) old (sheet_in s' old.n) counts-exact refl
