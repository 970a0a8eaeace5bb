-- What a step finds: a map or a job exactly where its record is good.
--
--   GoodMap s p, GoodJob s p   == the parts of `good_map s p` and of `good_job s p`: the mark, the sides, the length, the
--                                 cells
--   Finding s c r              == the step of the cursor c finds r, with the reason: what is due, and whether its
--                                 record is good
use Prim.Native.Nat.{ℕ, ◌+◌, ◌*◌, ◌≤◌, ◌<◌}
use mathlib.Core.Path.{◌≡◌, refl, sym, ap, ◌∙◌}
use mathlib.Core.Bool.{Bool, true, false, ◌&&◌, not, true≢false}
use mathlib.Core.List.{List}
use native.Mathlib.Omega.{arith}
use borrow.Author.Tests.{leb-true, leb-false, le-leb, lt-leb, eqb-true, eqb-false, eq-eqb, ne_eqb, not-false}
use lib.Dec.{leb, eqb}
use lib.ListN.{length}
use Rattle.std.specs.Prelude.{Result, Ok, Err, Some}
use Rattle.basics.specs.Bounded.{pick, every}
use Rattle.basics.proofs.Bools.{and_left, and_right}
use Rattle.records.specs.Format.{
  marked_at,
  whole_at,
  wide_at,
  high_at,
  map_side,
  cell_byte,
  good_map,
  map_in,
  past_map,
  map_at,
  good_job,
  job_in,
  past_job,
  job_at,
  record_at,
  Step,
  bad_record,
  gives_map,
  gives_job,
  gives_end,
  gives_bad,
  found,
}
use Rattle.records.specs.declared.stream.Cursor.{Cursor}
use Rattle.records.specs.declared.stream.Record.{Record}
use Rattle.records.specs.declared.stream.Record.TheVariants.{Map, Job}
use Rattle.records.specs.declared.stream.BadRecord.{BadRecord}

pub granted : {r b : Bool} → r ≡ b → not r ≡ false → b ≡ true
granted {r} {b} e t = sym e ∙ not-false r t

-- A good side, in numbers.
pub side-pos : (n : ℕ) → map_side n ≡ true → 1 ≤ n
side-pos n e = leb-true 1 n (and_left (leb 1 n) (leb n 31) e)

pub side-le : (n : ℕ) → map_side n ≡ true → n ≤ 31
side-le n e = leb-true n 31 (and_right (leb 1 n) (leb n 31) e)

-- ---- records found

-- A step that finds a record finds one alone.
pub same-found : {x y : Record × Cursor} → ◌≡◌ {A = Step} (Ok (Some x)) (Ok (Some y)) → (x.0 ≡ y.0) × (x.1 ≡ y.1)
same-found {x} {y} e =
    let q : x ≡ y = cc in
    (ap (λ (r : Record × Cursor). r.0) q, ap (λ (r : Record × Cursor). r.1) q)

pub found-same : (x y : Result (Record × Cursor) BadRecord) → found x ≡ found y → x ≡ y
found-same (Ok x) (Ok y) e = cc
found-same (Ok x) (Err y) e = cc
found-same (Err x) (Ok y) e = cc
found-same (Err x) (Err y) e = cc

-- ---- a map

pub record GoodMap (s : List ℕ) (p : ℕ) : Type 0 where
  pub mark : marked_at s p 0x4D 0x50 ≡ true
  pub wide : map_side (wide_at s p) ≡ true
  pub high : map_side (high_at s p) ≡ true
  pub whole : p + (4 + wide_at s p * high_at s p) ≤ length s
  pub cells : every (wide_at s p * high_at s p) (cell_byte s (p + 4)) ≡ true

module _ (s : List ℕ) (p : ℕ) where
  pub good-map : good_map s p ≡ true → GoodMap s p
  unfolding good_map
  good-map e =
      let mark : Bool = marked_at s p 0x4D 0x50 in
      let wide : Bool = map_side (wide_at s p) in
      let high : Bool = map_side (high_at s p) in
      let whole : Bool = whole_at s p (4 + wide_at s p * high_at s p) in
      let cells : Bool = every (wide_at s p * high_at s p) (cell_byte s (p + 4)) in
      let e₄ = and_left (mark && wide && high && whole) cells e in
      let e₃ = and_left (mark && wide && high) whole e₄ in
      let e₂ = and_left (mark && wide) high e₃ in
      record {
        mark = and_left mark wide e₂;
        wide = and_right mark wide e₂;
        high = and_right (mark && wide) high e₃;
        whole = leb-true (p + (4 + wide_at s p * high_at s p)) (length s) (and_right (mark && wide && high) whole e₄);
        cells = and_right (mark && wide && high && whole) cells e;
      }

  pub map-good : GoodMap s p → good_map s p ≡ true
  unfolding good_map
  map-good g =
      rw (g.mark, g.wide, g.high, le-leb (p + (4 + wide_at s p * high_at s p)) (length s) g.whole, g.cells)

  pub map_found : {w h : ℕ} → w ≡ wide_at s p → h ≡ high_at s p → GoodMap s p
      → Ok (Map (record { wide = w; high = h; cells = p + 4 }), record { at = p + 4 + w * h; due = 1 }) ≡ map_at s p
  unfolding map_at
  map_found a b g = rw (a, b, map-good g)

  pub map-bad : (GoodMap s p → ⊥) → Err (bad_record p) ≡ map_at s p
  unfolding map_at
  map-bad h = cases (good_map s p) refl
    where
      cases : (b : Bool) → good_map s p ≡ b
          → ◌≡◌ {A = Result (Record × Cursor) BadRecord} (Err (bad_record p))
          (pick b (Ok (Map (map_in s p), past_map s p)) (Err (bad_record p)))
      cases true e = absurd (h (good-map e))
      cases false e = refl

-- ---- a job

pub record GoodJob (s : List ℕ) (p : ℕ) : Type 0 where
  pub mark : marked_at s p 0x4A 0x42 ≡ true
  pub whole : p + 7 ≤ length s

module _ (s : List ℕ) (p : ℕ) where
  pub good-job : good_job s p ≡ true → GoodJob s p
  unfolding good_job
  good-job e = record {
    mark = and_left (marked_at s p 0x4A 0x42) (whole_at s p 7) e;
    whole = leb-true (p + 7) (length s) (and_right (marked_at s p 0x4A 0x42) (whole_at s p 7) e);
  }

  pub job_good : GoodJob s p → good_job s p ≡ true
  unfolding good_job
  job_good g = rw (g.mark, le-leb (p + 7) (length s) g.whole)

  pub job-found : (k : ℕ) → GoodJob s p → Ok (Job (job_in s p k), past_job p k) ≡ job_at s p k
  unfolding job_at
  job-found k g = rw (job_good g)

  pub job-bad : (k : ℕ) → (GoodJob s p → ⊥) → Err (bad_record p) ≡ job_at s p k
  unfolding job_at
  job-bad k h = cases (good_job s p) refl
    where
      cases : (b : Bool) → good_job s p ≡ b
          → ◌≡◌ {A = Result (Record × Cursor) BadRecord} (Err (bad_record p))
          (pick b (Ok (Job (job_in s p k), past_job p k)) (Err (bad_record p)))
      cases true e = absurd (h (good-job e))
      cases false e = refl

-- ---- a step

-- What a step can find, and when.
pub data Finding (s : List ℕ) (c : Cursor) : Step → Type 0 where
  found_map : c.due ≡ 0 → GoodMap s c.at → Finding s c (gives_map (map_in s c.at) (past_map s c.at))
  no-map : c.due ≡ 0 → (GoodMap s c.at → ⊥) → Finding s c (gives_bad c.at)
  at-end : 1 ≤ c.due → length s ≤ c.at → Finding s c gives_end
  found-job : 1 ≤ c.due → c.due ≤ 1000 → GoodJob s c.at
      → Finding s c (gives_job (job_in s c.at c.due) (past_job c.at c.due))
  no-job : 1 ≤ c.due → c.at < length s → (c.due ≤ 1000 → GoodJob s c.at → ⊥) → Finding s c (gives_bad c.at)

module _ (s : List ℕ) (c : Cursor) where
  pub map-due : c.due ≡ 0 → found (map_at s c.at) ≡ record_at s c
  unfolding record_at
  map-due e = rw (eq-eqb c.due 0 e)

  pub input-ends : (c.due ≡ 0 → ⊥) → length s ≤ c.at → gives_end ≡ record_at s c
  unfolding record_at
  input-ends n l = rw (ne_eqb c.due 0 n, le-leb (length s) c.at l)

  pub job-due : (c.due ≡ 0 → ⊥) → c.at < length s → c.due ≤ 1000 → found (job_at s c.at c.due) ≡ record_at s c
  unfolding record_at
  job-due n l k = rw (ne_eqb c.due 0 n, lt-leb (length s) c.at l, le-leb c.due 1000 k)

  pub jobs-full : (c.due ≡ 0 → ⊥) → c.at < length s → 1000 < c.due → gives_bad c.at ≡ record_at s c
  unfolding record_at
  jobs-full n l k = rw (ne_eqb c.due 0 n, lt-leb (length s) c.at l, lt-leb c.due 1000 k)

  pub finding : Finding s c (record_at s c)
  unfolding record_at map_at job_at
  finding = cases (eqb c.due 0) (leb (length s) c.at) (leb c.due 1000) refl refl refl
    where
      map_cases : c.due ≡ 0 → (g : Bool) → good_map s c.at ≡ g
          → Finding s c (found (pick g (Ok (Map (map_in s c.at), past_map s c.at)) (Err (bad_record c.at))))
      map_cases z true e = found_map z (good-map s c.at e)
      map_cases z false e = no-map z (λ g. true≢false (sym (map-good s c.at g) ∙ e))

      job-cases : (c.due ≡ 0 → ⊥) → c.at < length s → c.due ≤ 1000 → (g : Bool) → good_job s c.at ≡ g
          → Finding s c (found (pick g (Ok (Job (job_in s c.at c.due), past_job c.at c.due)) (Err (bad_record c.at))))
      job-cases n l k true e = found-job (omega arith) k (good-job s c.at e)
      job-cases n l k false e = no-job (omega arith) l (λ _ g. true≢false (sym (job_good s c.at g) ∙ e))

      cases : (m e k : Bool) → eqb c.due 0 ≡ m → leb (length s) c.at ≡ e → leb c.due 1000 ≡ k
          → Finding s c
          (pick m (found (map_at s c.at)) (pick e gives_end (pick k (found (job_at s c.at c.due)) (gives_bad c.at))))
      cases true e k p q r = map_cases (eqb-true c.due 0 p) (good_map s c.at) refl
      cases false true k p q r =
          let n = eqb-false c.due 0 p in at-end (omega arith) (leb-true (length s) c.at q)
      cases false false true p q r =
          let n = eqb-false c.due 0 p in
          job-cases n (leb-false (length s) c.at q) (leb-true c.due 1000 r) (good_job s c.at) refl
      cases false false false p q r =
          let n = eqb-false c.due 0 p in
          no-job (omega arith) (leb-false (length s) c.at q) (λ k _. omega (arith, leb-false c.due 1000 r))
