-- The shape of the second report's input as the code tests it, and the answer that follows from the shape.
--
--   start-job            == the shape of the job from a to a, from the shapes of a
--   report-first, -second, -lengths, -fit == the shape by the tests in order: the job on each floor, the lengths of the
--                                            slices, and where nothing is refused
--   fit-floors, job-reportable == what a fit report has
--   costs-fit            == the answer and the slices where the input is not refused
use Prim.Native.Nat.{ℕ, ◌*◌}
use mathlib.Core.Path.{◌≡◌, refl, sym, ap, ap₂, ◌∙◌}
use mathlib.Core.Bool.{◌&&◌}
use borrow.Author.Tests.{eqb-true}
use lib.Dec.{eqb}
use lib.ListN.{length}
use Rattle.std.proofs.Common.{Option, None, Some, Result, Ok, Err}
use Rattle.basics.proofs.Bools.{and_left, and_right}
use Rattle.floor.specs.Floor.{Floor, floor_of, vertices}
use Rattle.floor.specs.Refusals.{Shape, end_shape, and_then}
use Rattle.floor.specs.declared.Refusal.{Refusal}
use Rattle.floor.specs.declared.Refusal.TheVariants.{SliceLength}
use Rattle.floor.proofs.Shapes.{good-first, good-second, good-pick}
use Rattle.moves.specs.declared.Directions.{Directions}
use Rattle.moves.specs.Moves.{neighbourhood_of}
use Rattle.grid.specs.Grid.{floor_graph, with_dirs, pinch_shape, ends_shape, job_shape}
use Rattle.grid.proofs.Jobs.{good-job}
use Rattle.changes.specs.Changes.{
  GivenFloor,
  shape_of,
  floor_in,
  floors_shape,
  ReportSlices,
  slices_shape,
  start_shape,
  report_shape,
  shape_for,
  costs_on,
  costs_answer,
  costs_left,
  ReportsCosts,
}
use Rattle.changes.specs.Known.{Reportable}
use Rattle.changes.proofs.Shaped.{GoodFloors, good-floors}

-- ---- the lengths

module _ (v c c' n k : ℕ) where
  -- Lengths of good shape are these.
  record Fitting : Type 0 where
    first : c ≡ v
    second : c' ≡ v
    change : n ≡ v
    work : k ≡ 4 * v

  slices-fitting : slices_shape v c c' n k ≡ Ok tt → Fitting
  unfolding slices_shape
  slices-fitting e =
      let two = eqb c v && eqb c' v in
      let all = good-pick SliceLength (two && eqb n v && eqb k (4 * v)) e in
      let three = and_left (two && eqb n v) (eqb k (4 * v)) all in
      let both = and_left two (eqb n v) three in
      record {
        first = eqb-true c v (and_left (eqb c v) (eqb c' v) both);
        second = eqb-true c' v (and_right (eqb c v) (eqb c' v) both);
        change = eqb-true n v (and_right two (eqb n v) three);
        work = eqb-true k (4 * v) (and_right (two && eqb n v) (eqb k (4 * v)) all);
      }

-- ---- the start on two floors

-- The directions, or the refusal. N is the neighbourhood, E the shape of the start's number, P and Q say whether the
-- start is a pinch of the first floor and of the second, L is the shape of the lengths. `first` is for the job on one
-- floor, `whole` for the report.
abbrev first : Option Directions → Shape → Shape → Result Directions Refusal
first N E P = with_dirs N (and_then E P)

abbrev whole : Option Directions → Shape → Shape → Shape → Shape → Result Directions Refusal
whole N E P Q L = with_dirs N (and_then (and_then E (and_then P Q)) L)

first_stops : (N : Option Directions) (E P Q L : Shape) {r : Refusal} → first N E P ≡ Err r
    → first N E P ≡ whole N E P Q L
first_stops None E P Q L e = refl
first_stops (Some k) (Err z) P Q L e = refl
first_stops (Some k) (Ok u) (Err z) Q L e = refl
first_stops (Some k) (Ok u1) (Ok u2) Q L e = cc

second-stops : (N : Option Directions) (E P Q L : Shape) {dirs : Directions} {r : Refusal} → first N E P ≡ Ok dirs
    → first N E Q ≡ Err r → first N E Q ≡ whole N E P Q L
second-stops None E P Q L f e = cc
second-stops (Some k) (Err z) P Q L f e = cc
second-stops (Some k) (Ok u) (Err z) Q L f e = cc
second-stops (Some k) (Ok u1) (Ok u2) (Err z) L f e = refl
second-stops (Some k) (Ok u1) (Ok u2) (Ok u3) L f e = cc

both-pass : (N : Option Directions) (E P Q L : Shape) {dirs dirs' : Directions} → first N E P ≡ Ok dirs
    → first N E Q ≡ Ok dirs' → and_then L (Ok dirs) ≡ whole N E P Q L
both-pass None E P Q L f g = cc
both-pass (Some k) (Err z) P Q L f g = cc
both-pass (Some k) (Ok u) (Err z) Q L f g = cc
both-pass (Some k) (Ok u1) (Ok u2) (Err z) L f g = cc
both-pass (Some k) (Ok u1) (Ok u2) (Ok u3) L f g = ap (and_then L) (sym f)

-- What holds of a report that is not refused.
record Passed (N : Option Directions) (E P Q L : Shape) (dirs : Directions) : Type 0 where
  one : first N E P ≡ Ok dirs
  two : first N E Q ≡ Ok dirs
  lengths : L ≡ Ok tt

whole-passed : (N : Option Directions) (E P Q L : Shape) {dirs : Directions} → whole N E P Q L ≡ Ok dirs
    → Passed N E P Q L dirs
whole-passed None E P Q L e = cc
whole-passed (Some k) (Err z) P Q L e = cc
whole-passed (Some k) (Ok u) (Err z) Q L e = cc
whole-passed (Some k) (Ok u1) (Ok u2) (Err z) L e = cc
whole-passed (Some k) (Ok u1) (Ok u2) (Ok u3) (Err z) e = cc
whole-passed (Some k) (Ok u1) (Ok u2) (Ok u3) (Ok u4) e = record { one = e; two = e; lengths = refl }

then_same : (s : Shape) → and_then s s ≡ s
then_same (Ok u) = refl
then_same (Err r) = refl

pub start-job : (p : GivenFloor) (nb a : ℕ) → shape_of p ≡ Ok tt
    → job_shape p.wide p.high p.map nb a a
    ≡ first (neighbourhood_of nb) (end_shape p.wide p.high a) (pinch_shape (floor_in p) a)
unfolding job_shape ends_shape
start-job p nb a e = rw (e, then_same (end_shape p.wide p.high a), then_same (pinch_shape (floor_in p) a))

-- ---- the shape by the tests in order

module _ (p q : GivenFloor) (nb a c c' n k : ℕ) where
  abbrev lengths : Shape
  lengths = slices_shape (vertices p.wide p.high) c c' n k

  abbrev first_shape : Result Directions Refusal
  first_shape = job_shape p.wide p.high p.map nb a a

  abbrev second_shape : Result Directions Refusal
  second_shape = job_shape q.wide q.high q.map nb a a

  abbrev end : Shape
  end = end_shape p.wide p.high a

  abbrev free : GivenFloor → Shape
  free f = pinch_shape (floor_in f) a

  module _ (floors : floors_shape p q ≡ Ok tt) where
    -- The job on each floor, and the report, in terms of `first` and `whole`.
    first-is : first_shape ≡ first (neighbourhood_of nb) end (free p)
    unfolding floors_shape
    first-is = start-job p nb a (good-first (shape_of p) _ floors)

    second_is : second_shape ≡ first (neighbourhood_of nb) end (free q)
    unfolding floors_shape
    second_is =
        let G = good-floors p q floors in
        start-job q nb a (good-first (shape_of q) _ (good-second (shape_of p) _ floors))
        ∙ ap₂ (λ w h. first (neighbourhood_of nb) (end_shape w h a) (free q)) (sym G.wide)
        (sym G.high)

    whole_is : report_shape p q nb a c c' n k
        ≡ whole (neighbourhood_of nb) end (free p) (free q) lengths
    unfolding report_shape start_shape
    whole_is = rw floors

    pub report-first : {r : Refusal} → first_shape ≡ Err r → first_shape ≡ report_shape p q nb a c c' n k
    report-first e =
        first-is ∙ first_stops (neighbourhood_of nb) end (free p) (free q) lengths (sym first-is ∙ e) ∙ sym whole_is

    module _ {dirs : Directions} (one : first_shape ≡ Ok dirs) where
      pub report-second : {r : Refusal} → second_shape ≡ Err r → second_shape ≡ report_shape p q nb a c c' n k
      report-second e =
          second_is
          ∙ second-stops (neighbourhood_of nb) end (free p) (free q) lengths (sym first-is ∙ one) (sym second_is ∙ e)
          ∙ sym whole_is

      module _ {dirs' : Directions} (two : second_shape ≡ Ok dirs') where
        report-rest : and_then lengths (Ok dirs) ≡ report_shape p q nb a c c' n k
        report-rest =
            both-pass (neighbourhood_of nb) end (free p) (free q) lengths (sym first-is ∙ one) (sym second_is ∙ two)
            ∙ sym whole_is

        pub report-lengths : {r : Refusal} → lengths ≡ Err r → Err r ≡ report_shape p q nb a c c' n k
        report-lengths e = sym (rw e) ∙ report-rest

        pub report-fit : lengths ≡ Ok tt → Ok dirs ≡ report_shape p q nb a c c' n k
        report-fit e = sym (rw e) ∙ report-rest

-- ---- what holds of a report that is not refused, and its answer

fit-shape : (p q : GivenFloor) (nb a c c' n k : ℕ) {dirs : Directions} → report_shape p q nb a c c' n k ≡ Ok dirs
    → floors_shape p q ≡ Ok tt
unfolding report_shape
fit-shape p q nb a c c' n k {dirs} e = cases (floors_shape p q) refl e
  where
    rest : Result Directions Refusal
    rest =
        with_dirs (neighbourhood_of nb)
        (and_then (start_shape p q a) (slices_shape (vertices p.wide p.high) c c' n k))

    cases : (s : Shape) → floors_shape p q ≡ s → and_then s rest ≡ Ok dirs → floors_shape p q ≡ Ok tt
    cases (Ok u) t x = t
    cases (Err z) t x = cc

pub fit-floors : (p q : GivenFloor) (nb a : ℕ) (s : ReportSlices) {dirs : Directions} → shape_for p q nb a s ≡ Ok dirs
    → GoodFloors p q
fit-floors p q nb a s e =
    good-floors p q (fit-shape p q nb a (length s.first) (length s.second) (length s.change)
    (length s.work) e)

pub job-reportable : (p q : GivenFloor) (nb a : ℕ) (s : ReportSlices) {dirs : Directions}
    → shape_for p q nb a s ≡ Ok dirs
    → Reportable p.wide p.high p.map q.map dirs a s.first s.second s.change s.work
job-reportable p q nb a s {dirs} e =
    let c = length s.first in
    let c' = length s.second in
    let n = length s.change in
    let k = length s.work in
    let floors = fit-shape p q nb a c c' n k e in
    let G = good-floors p q floors in
    let v = vertices p.wide p.high in
    let passed = whole-passed (neighbourhood_of nb) (end_shape p.wide p.high a) (pinch_shape (floor_in p) a)
    (pinch_shape (floor_in q) a) (slices_shape v c c' n k) (sym (whole_is p q nb a c c' n k floors) ∙ e) in
    let sizes = slices-fitting v c c' n k passed.lengths in
    record {
      first = good-job p.wide p.high p.map nb a a dirs (first-is p q nb a c c' n k floors ∙ passed.one);
      second = rw (G.wide, G.high)
          (good-job q.wide q.high q.map nb a a dirs (second_is p q nb a c c' n k floors ∙ passed.two));
      first_len = sizes.first;
      second_len = sizes.second;
      change_len = sizes.change;
      work_len = sizes.work;
    }

pub costs-fit : (p q : GivenFloor) {nb a : ℕ} {s s' : ReportSlices} {dirs : Directions} → shape_for p q nb a s ≡ Ok dirs
    → s' ≡ costs_on (floor_graph (floor_in p) dirs) (floor_graph (floor_of p.wide p.high q.map) dirs) a
    → ReportsCosts p q nb a s (Ok tt) s'
unfolding costs_answer costs_left
costs-fit p q {nb} {a} {s} {dirs = dirs} e left =
    let G = fit-floors p q nb a s e in
    let same : floor_of p.wide p.high q.map ≡ floor_in q = ap₂ (λ w h. floor_of w h q.map) G.wide G.high in
    record {
      answer = rw e;
      left = rw e (left ∙ ap (λ (f : Floor). costs_on (floor_graph (floor_in p) dirs) (floor_graph f dirs) a) same);
    }
