-- The shape of a job as the code tests it, and what holds of a job of good shape.
--
--   FitJob ..               == floor, neighbourhood and ends are of good shape
--   dirs-refused, dirs-unknown, known-dirs == the shape of floor and neighbourhood by the tests in order
--   with-refused, with_rest == `shape_with` of any rest, once these two are tested
--   with-passed             == what a good `shape_with` has found
--   dirs-floor              == the floor is good where these two are
--   last-refused            == the refusal of a bad second end is the ends' one, where the first is inside
--   refused-.., fit         == `job_shape` by the tests in order
--   job-fit                 == where `job_shape` is `Ok`, `FitJob` holds
--   good-job                == where `job_shape` is `Ok`, `GoodJob` holds
--   refused-fit             == no shape is both `Err` and `Ok`
--   start-fit               == where the job from a to b is of good shape, so is the job from a to a
--   start-alone, goal-alone == where the job from a to b is a `GoodJob`, so are those from a to a and from b to b
use Prim.Native.Nat.{ℕ, ◌<◌}
use mathlib.Core.Path.{◌≡◌, refl, sym, ◌∙◌}
use mathlib.Core.Bool.{Bool, true, false}
use mathlib.Core.List.{List}
use Rattle.std.specs.Prelude.{Option, Some, None, Result, Ok, Err}
use Rattle.basics.specs.Bounded.{pick}
use Rattle.floor.specs.Floor.{Floor, floor_of, vertices, column, row}
use Rattle.floor.specs.Refusals.{Shape, floor_shape, end_shape, and_then}
use Rattle.floor.specs.declared.Refusal.{Refusal}
use Rattle.floor.specs.declared.Refusal.TheVariants.{Neighbourhood, Pinched}
use Rattle.floor.proofs.Shapes.{GoodFloor, good-floor, good-end, good-first, good-second}
use Rattle.sight.specs.Sight.{pinch}
use Rattle.moves.specs.declared.Directions.{Directions}
use Rattle.moves.specs.Moves.{neighbourhood_of}
use Rattle.moves.specs.Table.{Listed, lawful_dirs}
use Rattle.moves.proofs.Table.{listed-lawful}
use Rattle.grid.specs.Grid.{with_dirs, pinch_shape, ends_shape, job_shape}
use Rattle.grid.specs.Known.{shape_with, dirs_shape, GoodJob}

-- ---- one end, and both

good-free : (f : Floor) (v : ℕ) → pinch_shape f v ≡ Ok tt → pinch f (column f.wide v) (row f.wide v) ≡ false
unfolding pinch_shape
good-free f v e = cases (pinch f (column f.wide v) (row f.wide v)) e
  where
    cases : (b : Bool) → ◌≡◌ {A = Shape} (pick b (Err Pinched) (Ok tt)) (Ok tt) → b ≡ false
    cases true q = cc
    cases false q = refl

-- The four parts of a good `ends_shape`.
record GoodEnds (w h : ℕ) (l : List ℕ) (a b : ℕ) : Type 0 where
  start : end_shape w h a ≡ Ok tt
  end : end_shape w h b ≡ Ok tt
  start_free : pinch_shape (floor_of w h l) a ≡ Ok tt
  end_free : pinch_shape (floor_of w h l) b ≡ Ok tt

module _ (w h : ℕ) (l : List ℕ) (a b : ℕ) where
  -- A bad second end is the answer once the first is inside, pinched or not. The proofs go without it; docs name it.
  pub last-refused : end_shape w h a ≡ Ok tt → {r : Refusal} → end_shape w h b ≡ Err r
      → end_shape w h b ≡ ends_shape w h l a b
  unfolding ends_shape
  last-refused i e = rw (i, e)

  abbrev inside : Shape
  inside = and_then (end_shape w h a) (end_shape w h b)

  abbrev free : Shape
  free = and_then (pinch_shape (floor_of w h l) a) (pinch_shape (floor_of w h l) b)

  good-ends : ends_shape w h l a b ≡ Ok tt → GoodEnds w h l a b
  unfolding ends_shape
  good-ends e =
      let i = good-first inside free e in
      let f = good-second inside free e in
      record {
        start = good-first (end_shape w h a) _ i;
        end = good-second (end_shape w h a) _ i;
        start_free = good-first (pinch_shape (floor_of w h l) a) _ f;
        end_free = good-second (pinch_shape (floor_of w h l) a) _ f;
      }

  ends-good : GoodEnds w h l a b → ends_shape w h l a b ≡ Ok tt
  unfolding ends_shape
  ends-good g = rw (g.start, g.end, g.start_free, g.end_free)

-- ---- a job

pub record FitJob (w h : ℕ) (l : List ℕ) (nb a b : ℕ) (r : Directions) : Type 0 where
  pub floor : GoodFloor w h l
  pub known : neighbourhood_of nb ≡ Some r
  pub listed : Listed r
  pub lawful : lawful_dirs r ≡ true
  pub start : a < vertices w h
  pub end : b < vertices w h
  pub start_free : pinch (floor_of w h l) (column w a) (row w a) ≡ false
  pub end_free : pinch (floor_of w h l) (column w b) (row w b) ≡ false

pub refused-fit : {P : Type 0} {r : Refusal} {q : Directions} → ◌≡◌ {A = Result Directions Refusal} (Err r) (Ok q) → P
refused-fit {P} {r} {q} e = cc

-- What the tests of a fit job found, with the shape s of the rest.
pub record Passed (w h : ℕ) (l : List ℕ) (nb : ℕ) (s : Shape) (r : Directions) : Type 0 where
  pub floor : floor_shape w h l ≡ Ok tt
  pub known : neighbourhood_of nb ≡ Some r
  pub rest : s ≡ Ok tt

module _ (w h : ℕ) (l : List ℕ) (nb : ℕ) where
  -- What the code answers of the floor and the neighbourhood, test by test.
  pub dirs-refused : (z : Refusal) → floor_shape w h l ≡ Err z → Err z ≡ dirs_shape w h l nb
  unfolding dirs_shape
  dirs-refused z e = rw e

  module _ (f : floor_shape w h l ≡ Ok tt) where
    pub dirs-unknown : neighbourhood_of nb ≡ None → Err Neighbourhood ≡ dirs_shape w h l nb
    unfolding dirs_shape
    dirs-unknown e = rw (f, e)

    pub known-dirs : (r : Directions) → neighbourhood_of nb ≡ Some r → Ok r ≡ dirs_shape w h l nb
    unfolding dirs_shape
    known-dirs r e = rw (f, e)

  -- With the shape s of the rest: a refusal before it is the whole's, and without one the rest decides.
  module _ (s : Shape) where
    pub with-passed : {r : Directions} → shape_with w h l nb s ≡ Ok r → Passed w h l nb s r
    with-passed {r} e = cases (floor_shape w h l) (neighbourhood_of nb) s refl refl refl e
      where
        cases : (f : Shape) (n : Option Directions) (t : Shape) → floor_shape w h l ≡ f → neighbourhood_of nb ≡ n → s ≡ t
            → and_then f (with_dirs n t) ≡ Ok r → Passed w h l nb s r
        cases (Err z) n t p q i x = refused-fit x
        cases (Ok u) None t p q i x = refused-fit x
        cases (Ok u) (Some k) (Err z) p q i x = refused-fit x
        cases (Ok u) (Some k) (Ok o) p q i x = record { floor = p; known = cc; rest = i }

    pub with-refused : {j : Result Directions Refusal} {z : Refusal} → j ≡ dirs_shape w h l nb → j ≡ Err z → j ≡ shape_with w h l nb s
    unfolding dirs_shape
    with-refused {j} {z} told e = e ∙ cases (floor_shape w h l) (neighbourhood_of nb) (sym told ∙ e)
      where
        cases : (f : Shape) (n : Option Directions) → and_then f (with_dirs n (Ok tt)) ≡ Err z
            → Err z ≡ and_then f (with_dirs n s)
        cases (Err z) n x = sym x
        cases (Ok u) None x = sym x
        cases (Ok u) (Some k) x = refused-fit (sym x)

  module _ {j : Result Directions Refusal} {r : Directions} (told : j ≡ dirs_shape w h l nb) (e : j ≡ Ok r) where
    dirs-passed : Passed w h l nb (Ok tt) r
    unfolding dirs_shape
    dirs-passed = with-passed (Ok tt) (sym told ∙ e)

    pub dirs-floor : GoodFloor w h l
    dirs-floor = good-floor w h l dirs-passed.floor

    pub with_rest : (s : Shape) → and_then s (Ok r) ≡ shape_with w h l nb s
    with_rest s = rw (dirs-passed.floor, dirs-passed.known)

module _ (w h : ℕ) (l : List ℕ) (nb a b : ℕ) where
  shapes : (r : Directions) → job_shape w h l nb a b ≡ Ok r → Passed w h l nb (ends_shape w h l a b) r
  unfolding job_shape
  shapes r e = with-passed w h l nb (ends_shape w h l a b) e

  pub job-fit : (r : Directions) → job_shape w h l nb a b ≡ Ok r → FitJob w h l nb a b r
  job-fit r e =
      let s = shapes r e in
      let ends = good-ends w h l a b s.rest in
      let listed : Listed r = record { number = nb; known = s.known } in
      record {
        floor = good-floor w h l s.floor;
        known = s.known;
        listed = listed;
        lawful = listed-lawful listed;
        start = good-end w h a ends.start;
        end = good-end w h b ends.end;
        start_free = good-free (floor_of w h l) a ends.start_free;
        end_free = good-free (floor_of w h l) b ends.end_free;
      }

  pub good-job : (r : Directions) → job_shape w h l nb a b ≡ Ok r → GoodJob w h l r a b
  good-job r e =
      let j = job-fit r e in
      record {
        sized = j.floor.sized;
        listed = j.listed;
        start_in = j.start;
        goal_in = j.end;
        start_free = j.start_free;
        goal_free = j.end_free;
      }

  -- The whole shape, test by test.
  pub refused-floor : (s : Refusal) → floor_shape w h l ≡ Err s → Err s ≡ job_shape w h l nb a b
  unfolding job_shape
  refused-floor s e = rw e

  module _ (f : floor_shape w h l ≡ Ok tt) where
    pub refused-neighbourhood : neighbourhood_of nb ≡ None → Err Neighbourhood ≡ job_shape w h l nb a b
    unfolding job_shape
    refused-neighbourhood e = rw (f, e)

    module _ (r : Directions) (k : neighbourhood_of nb ≡ Some r) where
      pub refused-ends : (s : Refusal) → ends_shape w h l a b ≡ Err s → Err s ≡ job_shape w h l nb a b
      unfolding job_shape
      refused-ends s e = rw (f, k, e)

      pub fit : ends_shape w h l a b ≡ Ok tt → Ok r ≡ job_shape w h l nb a b
      unfolding job_shape
      fit e = rw (f, k, e)

pub start-fit : (w h : ℕ) (l : List ℕ) (nb a b : ℕ) (r : Directions) → job_shape w h l nb a b ≡ Ok r
    → job_shape w h l nb a a ≡ Ok r
unfolding job_shape
start-fit w h l nb a b r e =
    let s = shapes w h l nb a b r e in
    let g = good-ends w h l a b s.rest in
    let alone : GoodEnds w h l a a = record {
      start = g.start;
      end = g.start;
      start_free = g.start_free;
      end_free = g.start_free;
    } in
    rw (s.floor, s.known, ends-good w h l a a alone)

module _ {w h : ℕ} {map : List ℕ} {dirs : Directions} {a b : ℕ} (J : GoodJob w h map dirs a b) where
  pub start-alone : GoodJob w h map dirs a a
  start-alone = record {
    sized = J.sized;
    listed = J.listed;
    start_in = J.start_in;
    goal_in = J.start_in;
    start_free = J.start_free;
    goal_free = J.start_free;
  }

  pub goal-alone : GoodJob w h map dirs b b
  goal-alone = record {
    sized = J.sized;
    listed = J.listed;
    start_in = J.goal_in;
    goal_in = J.goal_in;
    start_free = J.goal_free;
    goal_free = J.goal_free;
  }
