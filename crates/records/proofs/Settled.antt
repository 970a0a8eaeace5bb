-- Which records the bytes p read of a stream settle, and which they do not.
--
--   decides-yes, decides-no, decides_not == `Decides` by a test that is true, by one that is false, and by the negation
--                     of a test
--   map-wrong      == a wrong byte of a map settles it
--   map-wrong-cells == a cell above 1 among those that are there settles a map
--   map_whole      == a whole record settles a map
--   map-open       == a map is not settled where no byte that is there is wrong and some are missing: it may still be
--                     good
--   job-wrong, job-whole, job-open == a job is settled by a wrong byte and by a whole record, and not where no byte
--                     that is there is wrong and some are missing
--   settled-map, settled-end, settled-full, settled-job == `Settled p c` is `MapSettled` where the map is due, and
--                     `JobSettled` where a job is; past the map it fails at the end of the bytes; past 1,000 jobs it
--                     holds
use Prim.Native.Nat.{ℕ, zero, suc, ◌+◌, ◌-◌, ◌*◌, ◌≤◌, ◌<◌}
use mathlib.Core.Path.{◌≡◌, refl, sym, ap, ap₂, ◌∙◌}
use mathlib.Core.Logic.{⊎_elim}
use mathlib.Core.Bool.{Bool, true, false, ◌&&◌, not, true≢false}
use mathlib.Core.List.{List, ◌++◌}
use native.Mathlib.Omega.{arith}
use native.Mathlib.Nat.{mul-le-mul}
use borrow.Author.Tests.{le-leb, lt-leb, eq-eqb, ne_eqb}
use lib.Dec.{leb, eqb}
use Rattle.std.specs.Prelude.{Ok, Err}
use lib.ListN.{length, get_or, length-append, get_or-append}
use lib.Seq.{get_or-append-add}
use Rattle.basics.specs.Bounded.{pick, every}
use Rattle.basics.specs.Lists.{tabulate}
use Rattle.basics.proofs.Bools.{not-both, and_intro}
use Rattle.basics.proofs.Bounded.{every-all, every-at}
use Rattle.basics.proofs.Lists.{length-tabulate, get_d_tabulate}
use Rattle.basics.proofs.Order.{le-or-lt}
use Rattle.records.specs.Format.{wide_at, high_at, map_side, cell_byte, record_at, Step, gives_end, found}
use Rattle.records.specs.Settled.{MapSettled, JobSettled, Settled, Decides}
use Rattle.records.specs.declared.stream.Cursor.{Cursor}
use Rattle.records.specs.declared.stream.Record.{Record}
use Rattle.records.specs.declared.stream.BadRecord.{BadRecord}
use Rattle.records.proofs.Found.{
  side-le,
  found-same,
  GoodMap,
  map_found,
  map-bad,
  GoodJob,
  job-found,
  job-bad,
  Finding,
  found_map,
  no-map,
  at-end,
  found-job,
  no-job,
  map-due,
  input-ends,
  job-due,
  jobs-full,
  finding,
}
use Rattle.records.proofs.Agree.{agree-more, map-agree, job-agree}

-- ---- deciding

module _ {P : Type 0} where
  pub decides-yes : P → Decides true P
  decides-yes h = record { yes = λ e. h; no = λ e x. true≢false e }

  pub decides-no : (P → ⊥) → Decides false P
  decides-no h = record { yes = λ e. absurd (true≢false (sym e)); no = λ e. h }

  pub decides_not : (b : Bool) → (b ≡ false → P) → (b ≡ true → P → ⊥) → Decides (not b) P
  decides_not true f g = decides-no (g refl)
  decides_not false f g = decides-yes (f refl)

-- ---- bytes that are there, and bytes that may follow

same_byte : (p t : List ℕ) (i : ℕ) → i < length p → get_or (p ++ t) i 0 ≡ get_or p i 0
same_byte p t i l = get_or-append p t 0 i l

-- Where not all numbers below n pass a test, one of them fails it.
every-wrong : (n : ℕ) (f : ℕ → Bool) → every n f ≡ false → (k : ℕ) × (k < n) × (f k ≡ false)
unfolding every
every-wrong zero f e = absurd (true≢false e)
every-wrong (suc n) f e = cases (every n f) (f n) refl refl e (every-wrong n f)
  where
    cases : (x y : Bool) → every n f ≡ x → f n ≡ y → (x && y) ≡ false
        → (every n f ≡ false → (k : ℕ) × (k < n) × (f k ≡ false)) → (k : ℕ) × (k < suc n) × (f k ≡ false)
    cases true true p q z below = absurd (true≢false z)
    cases true false p q z below = (n, omega arith, q)
    cases false y p q z below = let w = below p in (w.0, omega (arith, w.1), w.2)

-- p, then bytes up to place n: F i at each place i from the length of p on.
module _ (p : List ℕ) (n : ℕ) (F : ℕ → ℕ) where
  unfoldable follow : List ℕ
  follow = tabulate (n - length p) (λ j. F (length p + j))

  follow-length : n ≤ length (p ++ follow)
  unfolding follow
  follow-length =
      omega (arith, length-append p follow, length-tabulate (n - length p) (λ j. F (length p + j)))

  -- Byte i of that passes a test, where it passes if it is in p, and F i passes.
  follow-byte : (test : ℕ → Bool) (i : ℕ) → i < n → (i < length p → test (get_or p i 0) ≡ true) → test (F i) ≡ true
      → test (get_or (p ++ follow) i 0) ≡ true
  unfolding follow
  follow-byte test i l there next = ⊎_elim
      (λ lt. ap test (same_byte p follow i lt) ∙ there lt)
      (λ ge.
      let e : length p + (i - length p) ≡ i = omega arith in
      let read : get_or (p ++ follow) i 0 ≡ F i =
      ap (λ m. get_or (p ++ follow) m 0) (sym e) ∙ get_or-append-add p follow (i - length p) 0
      ∙ get_d_tabulate (n - length p) (i - length p) (λ j. F (length p + j)) (omega arith) ∙ ap F e in
      ap test read ∙ next)
      (le-or-lt (suc i) (length p))

-- ---- a map

module _ (p : List ℕ) (a : ℕ) where
  map-never : ((t : List ℕ) → GoodMap (p ++ t) a → ⊥) → (GoodMap p a → ⊥) → MapSettled p a
  map-never more here t = sym (map-bad (p ++ t) a (more t)) ∙ map-bad p a here

  pub map-wrong : (test : ℕ → Bool) (i : ℕ) → i < length p → test (get_or p i 0) ≡ false
      → ((s : List ℕ) → GoodMap s a → test (get_or s i 0) ≡ true) → MapSettled p a
  map-wrong test i l e passes =
      map-never (λ t g. not-both (test (get_or (p ++ t) i 0)) (passes (p ++ t) g) (ap test (same_byte p t i l) ∙ e))
      (λ g. not-both (test (get_or p i 0)) (passes p g) e)

  pub map-wrong-cell : (k : ℕ) → a + 4 + k < length p → k < wide_at p a * high_at p a → cell_byte p (a + 4) k ≡ false
      → MapSettled p a
  map-wrong-cell k l few e =
      let count : (t : List ℕ) → wide_at (p ++ t) a * high_at (p ++ t) a ≡ wide_at p a * high_at p a =
      (λ t. ap₂ ◌*◌ (same_byte p t (a + 2) (omega arith)) (same_byte p t (a + 3) (omega arith))) in
      map-never
      (λ t g.
      not-both (cell_byte (p ++ t) (a + 4) k)
      (every-at (wide_at (p ++ t) a * high_at (p ++ t) a) (cell_byte (p ++ t) (a + 4)) g.cells k
      (omega (arith, count t)))
      (ap (λ (b : ℕ). leb b 1) (same_byte p t (a + 4 + k) l) ∙ e))
      (λ g.
      not-both (cell_byte p (a + 4) k) (every-at (wide_at p a * high_at p a) (cell_byte p (a + 4)) g.cells k few) e)

  pub map-wrong-cells : (n : ℕ) → a + 4 + n ≤ length p → n ≤ wide_at p a * high_at p a
      → every n (cell_byte p (a + 4)) ≡ false → MapSettled p a
  map-wrong-cells n l few e =
      let w = every-wrong n (cell_byte p (a + 4)) e in
      map-wrong-cell w.0 (omega (arith, w.1)) (omega (arith, w.1)) w.2

  pub map_whole : a + (4 + wide_at p a * high_at p a) ≤ length p → MapSettled p a
  map_whole whole t =
      let count : wide_at (p ++ t) a * high_at (p ++ t) a ≡ wide_at p a * high_at p a =
      ap₂ ◌*◌ (same_byte p t (a + 2) (omega arith)) (same_byte p t (a + 3) (omega arith)) in
      map-agree (agree-more p t) a (omega arith) (λ g. omega (arith, count)) (λ g. whole)

  -- The bytes that are there may begin a good map.
  pub record MapBegun : Type 0 where
    pub first : a < length p → eqb (get_or p a 0) 0x4D ≡ true
    pub second : a + 1 < length p → eqb (get_or p (a + 1) 0) 0x50 ≡ true
    pub wide : a + 2 < length p → map_side (get_or p (a + 2) 0) ≡ true
    pub high : a + 3 < length p → map_side (get_or p (a + 3) 0) ≡ true
    pub cells : (k : ℕ) → a + 4 + k < length p → leb (get_or p (a + 4 + k) 0) 1 ≡ true

  -- Bytes that complete a good map: the mark, sides of 1, and open cells.
  unfoldable map_byte : ℕ → ℕ
  map_byte i = pick (eqb i a) 0x4D (pick (eqb i (a + 1)) 0x50 (pick (leb i (a + 3)) 1 0))

  pub map-open : MapBegun → length p < a + (4 + wide_at p a * high_at p a) → MapSettled p a → ⊥
  unfolding map_byte
  map-open b short settled =
      let t : List ℕ = follow p (a + 965) map_byte in
      let s : List ℕ = p ++ t in
      let byte = follow-byte p (a + 965) map_byte in
      let wide : map_side (wide_at s a) ≡ true =
      byte map_side (a + 2) (omega arith) b.wide
      (rw (
        ne_eqb (a + 2) a (λ e. omega arith),
        ne_eqb (a + 2) (a + 1) (λ e. omega arith),
        le-leb (a + 2) (a + 3) (omega arith),
      )) in
      let high : map_side (high_at s a) ≡ true =
      byte map_side (a + 3) (omega arith) b.high
      (rw (
        ne_eqb (a + 3) a (λ e. omega arith),
        ne_eqb (a + 3) (a + 1) (λ e. omega arith),
        le-leb (a + 3) (a + 3) (omega arith),
      )) in
      let few : wide_at s a * high_at s a ≤ 961 =
      mul-le-mul {n₂ = 31} {m₂ = 31} (side-le (wide_at s a) wide) (side-le (high_at s a) high) in
      let good : GoodMap s a = record {
        mark = and_intro (eqb (get_or s a 0) 0x4D) (eqb (get_or s (a + 1) 0) 0x50)
            (byte (λ x. eqb x 0x4D) a (omega arith) b.first (rw (eq-eqb a a refl)))
            (byte (λ x. eqb x 0x50) (a + 1) (omega arith) b.second
            (rw (ne_eqb (a + 1) a (λ e. omega arith), eq-eqb (a + 1) (a + 1) refl)));
        wide = wide;
        high = high;
        whole = omega (arith, follow-length p (a + 965) map_byte);
        cells = every-all (wide_at s a * high_at s a) (cell_byte s (a + 4)) (λ k l.
            byte (λ x. leb x 1) (a + 4 + k) (omega arith) (b.cells k)
            (rw (
              ne_eqb (a + 4 + k) a (λ e. omega arith),
              ne_eqb (a + 4 + k) (a + 1) (λ e. omega arith),
              lt-leb (a + 4 + k) (a + 3) (omega arith),
            )));
      } in
      differ (map_found s a refl refl good ∙ settled t ∙ sym (map-bad p a (λ g. omega (arith, g.whole))))
    where
      differ : {r : Record × Cursor} {b : BadRecord} → Ok r ≡ Err b → ⊥
      differ e = let q : ◌≡◌ {A = ℕ} 0 1 = cc in absurd (omega arith)

-- ---- a job

module _ (p : List ℕ) (a k : ℕ) where
  pub job-wrong : (test : ℕ → Bool) (i : ℕ) → i < length p → test (get_or p i 0) ≡ false
      → ((s : List ℕ) → GoodJob s a → test (get_or s i 0) ≡ true) → JobSettled p a k
  job-wrong test i l e passes t =
      sym (job-bad (p ++ t) a k
      (λ g. not-both (test (get_or (p ++ t) i 0)) (passes (p ++ t) g) (ap test (same_byte p t i l) ∙ e)))
      ∙ job-bad p a k (λ g. not-both (test (get_or p i 0)) (passes p g) e)

  pub job-whole : a + 7 ≤ length p → JobSettled p a k
  job-whole whole t = job-agree (agree-more p t) a k whole

  -- Bytes that complete a good job: the mark.
  unfoldable job_byte : ℕ → ℕ
  job_byte i = pick (eqb i a) 0x4A 0x42

  pub job-open : (a < length p → eqb (get_or p a 0) 0x4A ≡ true) → (a + 1 < length p → eqb (get_or p (a + 1) 0) 0x42 ≡ true)
      → length p < a + 7 → JobSettled p a k → ⊥
  unfolding job_byte
  job-open first second short settled =
      let t : List ℕ = follow p (a + 7) job_byte in
      let s : List ℕ = p ++ t in
      let byte = follow-byte p (a + 7) job_byte in
      let good : GoodJob s a = record {
        mark = and_intro (eqb (get_or s a 0) 0x4A) (eqb (get_or s (a + 1) 0) 0x42)
            (byte (λ x. eqb x 0x4A) a (omega arith) first (rw (eq-eqb a a refl)))
            (byte (λ x. eqb x 0x42) (a + 1) (omega arith) second (rw (ne_eqb (a + 1) a (λ e. omega arith))));
        whole = follow-length p (a + 7) job_byte;
      } in
      differ (job-found s a k good ∙ settled t ∙ sym (job-bad p a k (λ g. omega (arith, g.whole))))
    where
      differ : {r : Record × Cursor} {b : BadRecord} → Ok r ≡ Err b → ⊥
      differ e = let q : ◌≡◌ {A = ℕ} 0 1 = cc in absurd (omega arith)

-- ---- a cursor

module _ (p : List ℕ) (c : Cursor) where
  pub settled-map : {b : Bool} → c.due ≡ 0 → Decides b (MapSettled p c.at) → Decides b (Settled p c)
  settled-map z d = record {
    yes = λ e t. sym (map-due (p ++ t) c z) ∙ ap found (d.yes e t) ∙ map-due p c z;
    no = λ e s. d.no e (λ t. found-same _ _ (map-due (p ++ t) c z ∙ s t ∙ sym (map-due p c z)));
  }

  ends-within : (s : List ℕ) → record_at s c ≡ gives_end → length s ≤ c.at
  ends-within s e = cases (record_at s c) (finding s c) e
    where
      cases : (r : Step) → Finding s c r → r ≡ gives_end → length s ≤ c.at
      cases _ (found_map z g) x = let q : ◌≡◌ {A = ℕ} 0 1 = cc in absurd (omega arith)
      cases _ (no-map z g) x = let q : ◌≡◌ {A = ℕ} 0 1 = cc in absurd (omega arith)
      cases _ (at-end b l) x = l
      cases _ (found-job b l g) x = let q : ◌≡◌ {A = ℕ} 0 1 = cc in absurd (omega arith)
      cases _ (no-job b l g) x = let q : ◌≡◌ {A = ℕ} 0 1 = cc in absurd (omega arith)

  module _ (job : c.due ≡ 0 → ⊥) where
    pub settled-end : length p ≤ c.at → Settled p c → ⊥
    settled-end l s =
        let t : List ℕ = follow p (c.at + 1) (λ i. 0) in
        omega (arith, ends-within (p ++ t) (s t ∙ sym (input-ends p c job l)), follow-length p (c.at + 1) (λ i. 0))

    module _ (there : c.at < length p) where
      there-too : (t : List ℕ) → c.at < length (p ++ t)
      there-too t = omega (arith, length-append p t)

      pub settled-full : 1000 < c.due → Settled p c
      settled-full l t = sym (jobs-full (p ++ t) c job (there-too t) l) ∙ jobs-full p c job there l

      pub settled-job : {b : Bool} → c.due ≤ 1000 → Decides b (JobSettled p c.at c.due) → Decides b (Settled p c)
      settled-job l d = record {
        yes = λ e t. sym (job-due (p ++ t) c job (there-too t) l) ∙ ap found (d.yes e t) ∙ job-due p c job there l;
        no = λ e s.
            d.no e (λ t.
            found-same _ _ (job-due (p ++ t) c job (there-too t) l ∙ s t ∙ sym (job-due p c job there l)));
      }
