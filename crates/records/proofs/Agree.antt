-- Two inputs with the same first n bytes give the same records within these bytes.
--
--   Agree n s t    == the first n bytes of s and of t are the same, and where one has fewer than n, so has the other
--   agree-take     == `Agree n s (take n s)`
--   agree-more     == `Agree (length p) (p ++ t) p`
--   agree_less     == `Agree m s t`, where `Agree n s t` and m ≤ n
--   map-agree      == map_at s p = map_at t p, where `Agree n s t`, p + 4 ≤ n, and a map that is good in s or t ends by
--                     place n
--   job-agree      == job_at s p k = job_at t p k, where `Agree n s t` and p + 7 ≤ n
use Prim.Native.Nat.{ℕ, ◌+◌, ◌*◌, ◌≤◌, ◌<◌}
use mathlib.Core.Path.{◌≡◌, sym, ap, ap₂, ◌∙◌}
use mathlib.Core.List.{List, ◌++◌}
use native.Mathlib.Omega.{arith}
use borrow.Author.Tests.{leb-true, le-leb}
use lib.Dec.{leb}
use lib.ListN.{length, get_or, take, length-take, length-append, get_or-append}
use lib.Seq.{get_or-take}
use Rattle.basics.specs.Bounded.{every}
use Rattle.basics.proofs.Bools.{iff-eq}
use Rattle.basics.proofs.Bounded.{every-cong}
use Rattle.records.specs.Format.{
  marked_at,
  wide_at,
  high_at,
  map_side,
  cell_byte,
  good_map,
  map_at,
  good_job,
  job_at,
}
use Rattle.records.proofs.Found.{GoodMap, good-map, map-good}

pub record Agree (n : ℕ) (s t : List ℕ) : Type 0 where
  pub byte : (i : ℕ) → i < n → get_or s i 0 ≡ get_or t i 0
  pub long : (m : ℕ) → m ≤ n → leb m (length s) ≡ leb m (length t)

agree-back : {n : ℕ} {s t : List ℕ} → Agree n s t → Agree n t s
agree-back a = record { byte = λ i l. sym (a.byte i l); long = λ m l. sym (a.long m l) }

pub agree-take : (n : ℕ) (s : List ℕ) → Agree n s (take n s)
agree-take n s = record {
  byte = λ i l. sym (get_or-take n s i 0 l);
  long = λ m l. iff-eq (leb m (length s)) (leb m (length (take n s)))
      (λ e. le-leb m (length (take n s)) (simp length-take (omega (arith, leb-true m (length s) e))))
      (λ e. le-leb m (length s) (omega (arith, simp length-take at (leb-true m (length (take n s)) e))));
}

pub agree_less : {m n : ℕ} {s t : List ℕ} → m ≤ n → Agree n s t → Agree m s t
agree_less l a = record { byte = λ i k. a.byte i (omega arith); long = λ k h. a.long k (omega arith) }

pub agree-more : (p t : List ℕ) → Agree (length p) (p ++ t) p
agree-more p t = record {
  byte = λ i l. get_or-append p t 0 i l;
  long = λ m l. le-leb m (length (p ++ t)) (omega (arith, length-append p t)) ∙ sym (le-leb m (length p) l);
}

module _ {n : ℕ} {s t : List ℕ} (a : Agree n s t) where
  -- ---- a map
  module _ (p : ℕ) (near : p + 4 ≤ n) where
    wide-same : wide_at s p ≡ wide_at t p
    wide-same = a.byte (p + 2) (omega arith)

    high_same : high_at s p ≡ high_at t p
    high_same = a.byte (p + 3) (omega arith)

    mark-same : (x y : ℕ) → marked_at s p x y ≡ marked_at t p x y
    mark-same x y = rw (a.byte p (omega arith), a.byte (p + 1) (omega arith))

    good-too : (GoodMap s p → p + (4 + wide_at s p * high_at s p) ≤ n) → GoodMap s p → GoodMap t p
    good-too room g =
        let count : wide_at s p * high_at s p ≡ wide_at t p * high_at t p = ap₂ ◌*◌ wide-same high_same in
        let within : p + (4 + wide_at s p * high_at s p) ≤ n = room g in
        record {
          mark = sym (mark-same 0x4D 0x50) ∙ g.mark;
          wide = ap map_side (sym wide-same) ∙ g.wide;
          high = ap map_side (sym high_same) ∙ g.high;
          whole =
              let size : ℕ = p + (4 + wide_at t p * high_at t p) in
              leb-true size (length t)
              (sym (a.long size (omega arith)) ∙ le-leb size (length s) (omega (arith, g.whole)));
          cells = ap (λ (k : ℕ). every k (cell_byte t (p + 4))) (sym count)
              ∙ sym (every-cong (wide_at s p * high_at s p) (cell_byte s (p + 4)) (cell_byte t (p + 4))
              (λ k l. ap (λ (b : ℕ). leb b 1) (a.byte (p + 4 + k) (omega arith))))
              ∙ g.cells;
        }

  -- ---- a job
  pub job-agree : (p k : ℕ) → p + 7 ≤ n → job_at s p k ≡ job_at t p k
  unfolding job_at good_job
  job-agree p k near = rw (
    a.byte p (omega arith),
    a.byte (p + 1) (omega arith),
    a.byte (p + 2) (omega arith),
    a.byte (p + 3) (omega arith),
    a.byte (p + 3 + 1) (omega arith),
    a.byte (p + 5) (omega arith),
    a.byte (p + 5 + 1) (omega arith),
    a.long (p + 7) near,
  )

pub map-agree : {n : ℕ} {s t : List ℕ} → Agree n s t → (p : ℕ) → p + 4 ≤ n
    → (GoodMap s p → p + (4 + wide_at s p * high_at s p) ≤ n) → (GoodMap t p → p + (4 + wide_at t p * high_at t p) ≤ n)
    → map_at s p ≡ map_at t p
unfolding map_at
map-agree {n} {s} {t} a p near room room' =
    let both = iff-eq (good_map s p) (good_map t p) (λ e. map-good t p (good-too a p near room (good-map s p e)))
    (λ e. map-good s p (good-too (agree-back a) p near room' (good-map t p e))) in
    rw (both, wide-same a p near, high_same a p near)
