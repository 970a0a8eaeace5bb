-- How many bytes of an input can matter: the map, 1,000 jobs, and one byte more, which is a job too many.
--
--   stream-limit  == stream_of s = stream_of (take longest s)
--   cells-limit   == the cells of the map of s are those of the map of `take longest s`
--   limit-settled == `Settled p c` for every cursor c that is `Reached`, where p has `longest` bytes or more
--   reached-first, reached-map, reached-job == `Reached` of the first cursor, and of the cursor past a map and past a
--                     job
use Prim.Native.Nat.{ℕ, zero, suc, ◌+◌, ◌*◌, ◌≤◌, ◌<◌}
use mathlib.Core.Path.{◌≡◌, refl, sym, ap, ◌∙◌}
use mathlib.Core.Bool.{Bool, true, false}
use mathlib.Core.List.{List, [], ◌∷◌}
use native.Mathlib.Omega.{arith}
use native.Mathlib.Nat.{mul-le-mul}
use borrow.Author.Tests.{leb-true, leb-false, le-leb, lt-leb, eqb-true}
use lib.Dec.{leb, eqb}
use lib.ListN.{length, take, drop}
use lib.Seq.{take-take}
use Rattle.basics.specs.Bounded.{pick}
use Rattle.basics.proofs.Bools.{iff-eq}
use Rattle.records.specs.Format.{
  map_in,
  past_map,
  map_at,
  job_in,
  past_job,
  job_at,
  record_at,
  Step,
  gives_map,
  gives_job,
  gives_end,
  gives_bad,
  found,
  start_cursor,
  cells_of,
  with_map,
  with_job,
  and_rest,
  steps,
  stream_from,
  stream_of,
}
use Rattle.records.specs.Settled.{Settled, longest, Reached}
use Rattle.records.specs.declared.stream.Cursor.{Cursor}
use Rattle.records.specs.declared.stream.MapRecord.{MapRecord}
use Rattle.records.specs.declared.stream.JobRecord.{JobRecord}
use Rattle.records.proofs.Found.{
  Finding,
  found_map,
  no-map,
  at-end,
  found-job,
  no-job,
  finding,
}
use Rattle.records.proofs.Moved.{cells-few, map-step, job-step}
use Rattle.records.proofs.Agree.{Agree, agree-take, agree-more, agree_less, map-agree, job-agree}

-- A step finds the same in two inputs that agree on their first `longest` bytes.
module _ {s t : List ℕ} (a : Agree longest s t) where
  map_same : (p : ℕ) → p + 965 ≤ longest → map_at s p ≡ map_at t p
  map_same p near =
      map-agree a p (omega arith) (λ g. omega (arith, cells-few s p g)) (λ g. omega (arith, cells-few t p g))

  end_same : (p : ℕ) → p < longest → leb (length s) p ≡ leb (length t) p
  end_same p l =
      iff-eq (leb (length s) p) (leb (length t) p) (λ e. back s t (a.long (suc p) l) (leb-true (length s) p e))
      (λ e. back t s (sym (a.long (suc p) l)) (leb-true (length t) p e))
    where
      back : (x y : List ℕ) → leb (suc p) (length x) ≡ leb (suc p) (length y) → length x ≤ p → leb (length y) p ≡ true
      back x y e h =
          let short = leb-false (suc p) (length y) (sym e ∙ lt-leb (suc p) (length x) (omega arith)) in
          le-leb (length y) p (omega arith)

  record_same : (c : Cursor) → Reached c → record_at s c ≡ record_at t c
  unfolding record_at
  record_same c r = cases (eqb c.due 0) (leb c.due 1000) refl refl
    where
      step : List ℕ → Bool → Bool → Step
      step l m k =
          pick m (found (map_at l c.at))
          (pick (leb (length l) c.at) gives_end (pick k (found (job_at l c.at c.due)) (gives_bad c.at)))

      cases : (m k : Bool) → eqb c.due 0 ≡ m → leb c.due 1000 ≡ k → step s m k ≡ step t m k
      cases true k p q =
          let z : c.at ≡ 0 = r.start (eqb-true c.due 0 p) in
          ap found (map_same c.at (omega arith))
      cases false true p q =
          let l : c.due ≤ 1000 = leb-true c.due 1000 q in
          let h : c.at ≤ 958 + 7 * c.due = r.place in
          rw (end_same c.at (omega arith), job-agree a c.at c.due (omega arith))
      cases false false p q =
          let h : c.at ≤ 958 + 7 * c.due = r.place in
          rw (end_same c.at (omega (arith, r.number)))

  steps-same : (n : ℕ) (c : Cursor) → Reached c → steps n s c ≡ steps n t c
  unfolding steps
  steps-same zero c r = refl
  steps-same (suc n) c r =
      cases (record_at s c) (finding s c) (steps-same n) ∙ ap (λ (x : Step). and_rest x (steps n t)) (record_same c r)
    where
      cases : (x : Step) → Finding s c x → ((d : Cursor) → Reached d → steps n s d ≡ steps n t d)
          → and_rest x (steps n s) ≡ and_rest x (steps n t)
      cases _ (found_map z g) same =
          let b : c.at ≡ 0 = r.start z in
          ap (with_map (map_in s c.at))
          (same (past_map s c.at) record {
            start = λ e. omega arith;
            place = omega (arith, cells-few s c.at g);
            number = omega arith;
          })
      cases _ (no-map z g) same = refl
      cases _ (at-end l h) same = refl
      cases _ (found-job l h g) same =
          ap (with_job (job_in s c.at c.due))
          (same (past_job c.at c.due) record {
            start = λ e. omega arith;
            place = omega (arith, r.place);
            number = omega arith;
          })
      cases _ (no-job l h g) same = refl

pub stream-limit : (s : List ℕ) → stream_of s ≡ stream_of (take longest s)
unfolding stream_of stream_from
stream-limit s =
    steps-same (agree-take longest s) 1002 start_cursor
    record { start = λ e. refl; place = omega arith; number = omega arith }

part-take : (p k n : ℕ) (s : List ℕ) → p + k ≤ n → take k (drop p s) ≡ take k (drop p (take n s))
part-take zero k n s l = sym (take-take k n s (omega arith))
part-take (suc p) k zero s l = absurd (omega arith)
part-take (suc p) k (suc n) [] l = refl
part-take (suc p) k (suc n) (x ∷ s) l = part-take p k n s (omega arith)

pub cells-limit : (s : List ℕ) (m : MapRecord) (d : Cursor) → record_at s start_cursor ≡ gives_map m d
    → cells_of s m ≡ cells_of (take longest s) m
cells-limit s m d e =
    let f = map-step s start_cursor m d e in
    let few : m.wide * m.high ≤ 961 = mul-le-mul {n₂ = 31} {m₂ = 31} f.wide f.high in
    part-take m.cells (m.wide * m.high) longest s (omega (arith, f.place))

-- ---- cursors

pub reached-first : Reached start_cursor
reached-first = record { start = λ e. refl; place = omega arith; number = omega arith }

pub reached-map : (s : List ℕ) (m : MapRecord) (d : Cursor) → record_at s start_cursor ≡ gives_map m d → Reached d
reached-map s m d e =
    let f = map-step s start_cursor m d e in
    let few : m.wide * m.high ≤ 961 = mul-le-mul {n₂ = 31} {m₂ = 31} f.wide f.high in
    record {
      start = λ z. absurd (omega (arith, f.moved.next));
      place = omega (arith, f.place, f.cells_end, f.moved.next);
      number = omega (arith, f.moved.next);
    }

pub reached-job : (s : List ℕ) (c : Cursor) (j : JobRecord) (d : Cursor) → record_at s c ≡ gives_job j d → Reached c
    → Reached d
reached-job s c j d e r =
    let f = job-step s c j d e in
    record {
      start = λ z. absurd (omega (arith, f.moved.next));
      place = omega (arith, r.place, f.past, f.moved.next);
      number = omega (arith, f.moved.next, f.number, f.number_le);
    }

pub limit-settled : (p : List ℕ) (c : Cursor) → longest ≤ length p → Reached c → Settled p c
limit-settled p c l r t = record_same (agree_less l (agree-more p t)) c r
