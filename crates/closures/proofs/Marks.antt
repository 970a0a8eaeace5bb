-- The closures put on the base map, slot after slot.
--
--   closed_to t k         == what the closures of the slots below k cover
--   Marking t base k work == work is the base map, good for the table's floor, blocked also where the closures of the
--                            slots below k cover
use Prim.Native.Nat.{ℕ, ◌+◌, ◌≤◌, ◌<◌}
use mathlib.Core.Path.{◌≡◌, sym, ap, ◌∙◌}
use mathlib.Core.Bool.{Bool}
use mathlib.Core.List.{List}
use native.Mathlib.Omega.{arith}
use native.Mathlib.Numerals.{add-one}
use lib.ListN.{length}
use Rattle.basics.specs.Bounded.{any}
use Rattle.floor.specs.Floor.{Floor, floor_of, map_of, with_blocked}
use Rattle.floor.specs.Refusals.{floor_shape}
use Rattle.std.proofs.Common.{Ok, None, Option}
use Rattle.floor.proofs.Packed.{Bytes}
use Rattle.floor.proofs.Maps.{blocked-more, blocked-none, blocked-good, blocked-length}
use Rattle.closures.specs.Plain.{covered_by, closed_by, working_map}
use Rattle.closures.specs.Table.{held}
use Rattle.closures.specs.Known.{Marked}
use Rattle.closures.specs.declared.Rectangle.{Rectangle}
use Rattle.closures.specs.declared.Closures.{Closures}

-- A free slot blocks no cell.
pub unmarked : (s : Option Rectangle) (w h : ℕ) (l : List ℕ) → floor_shape w h l ≡ Ok tt → Bytes l → s ≡ None
    → Marked s w h l l
unmarked s w h l g small e = rw e (blocked-none w h l g small)

abbrev closed_to : Closures → ℕ → ℕ → ℕ → Bool
closed_to t k i j = any k (λ s. covered_by (held t s) i j)

abbrev plan_of : Closures → List ℕ → Floor
plan_of t base = floor_of t.width t.height base

pub record Marking (t : Closures) (base : List ℕ) (k : ℕ) (work : List ℕ) : Type 0 where
  pub base_good : floor_shape t.width t.height base ≡ Ok tt
  pub within : k ≤ 16
  pub at : work ≡ map_of (with_blocked (plan_of t base) (closed_to t k))

pub marking-good : {t : Closures} {base work : List ℕ} {k : ℕ} → Marking t base k work
    → floor_shape t.width t.height work ≡ Ok tt
marking-good {t} {base} {work} {k} h =
    rw h.at (blocked-good t.width t.height base h.base_good (closed_to t k))

pub marking-length : {t : Closures} {base work : List ℕ} {k : ℕ} → Marking t base k work → length work ≡ length base
marking-length {t} {base} {work} {k} h =
    ap length h.at ∙ blocked-length t.width t.height base h.base_good (closed_to t k)

pub marking-none : (t : Closures) (base work : List ℕ) → floor_shape t.width t.height base ≡ Ok tt → Bytes base
    → work ≡ base → Marking t base 0 work
unfolding any
marking-none t base work g small e =
    record { base_good = g; within = omega arith; at = e ∙ blocked-none t.width t.height base g small }

pub marking-more : {t : Closures} {base work : List ℕ} {k : ℕ} (left : List ℕ) → Marking t base k work → k < 16
    → Marked (held t k) t.width t.height work left → Marking t base (k + 1) left
unfolding any
marking-more {t} {base} {work} {k} left h l e = record {
  base_good = h.base_good;
  within = omega arith;
  at =
      e ∙ ap (λ s. map_of (with_blocked (plan_of t s) (covered_by (held t k)))) h.at
      ∙ blocked-more (plan_of t base) (closed_to t k) (covered_by (held t k))
      ∙ ap (λ n. map_of (with_blocked (plan_of t base) (closed_to t n))) (sym (add-one k));
}

pub marking-done : {t : Closures} {base work : List ℕ} {k : ℕ} → Marking t base k work → 16 ≤ k
    → work ≡ working_map t.width t.height base (held t)
unfolding closed_by
marking-done {t} {base} {work} {k} h l =
    let e : k ≡ 16 = omega (arith, h.within) in
    rw e at h.at
