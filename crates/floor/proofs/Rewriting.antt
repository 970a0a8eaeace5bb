-- A loop that writes a list, place after place.
--
--   Rewriting F old m n c s  == a loop over the first m places of the list old, to its end n = m, is at place c: s is
--                               old with F k at each place k < c
use Prim.Native.Nat.{ℕ, ◌+◌, ◌≤◌, ◌<◌}
use mathlib.Core.Path.{◌≡◌, refl, sym, ◌∙◌}
use mathlib.Core.Logic.{⊎_elim}
use mathlib.Core.List.{List}
use native.Mathlib.Omega.{arith}
use lib.ListN.{length, get_or, set, length-set}
use lib.Seq.{get_or-set_same, get_or-set_other}
use Rattle.basics.proofs.Order.{eq-or-ne}
use Rattle.basics.proofs.Lists.{tabulate-of}

pub record Rewriting (F : ℕ → ℕ) (old : List ℕ) (m n c : ℕ) (s : List ℕ) : Type 0 where
  pub end : n ≡ m
  pub fits : m ≤ length old
  pub within : c ≤ m
  pub len : length s ≡ length old
  pub done : (k : ℕ) → k < c → get_or s k 0 ≡ F k
  pub rest : (k : ℕ) → c ≤ k → get_or s k 0 ≡ get_or old k 0

pub rewriting-more : {F : ℕ → ℕ} {old s : List ℕ} {m n c : ℕ} (v : ℕ) → Rewriting F old m n c s → c < n → v ≡ F c
    → Rewriting F old m n (c + 1) (set s c v)
rewriting-more {F} {old} {s} {m} {n} {c} v h l e = record {
  end = h.end;
  fits = h.fits;
  within = omega (arith, h.end);
  len = simp length-set h.len;
  done = λ k i. ⊎_elim
      (λ (q : k ≡ c). rw q (get_or-set_same s c v 0 (omega (arith, h.end, h.fits, h.len)) ∙ e))
      (λ (q : k ≡ c → ⊥). get_or-set_other s c k v 0 q ∙ h.done k (before k i q))
      (eq-or-ne k c);
  rest = λ k i. get_or-set_other s c k v 0 (λ q. omega arith) ∙ h.rest k (omega arith);
}
  where
    before : (k : ℕ) → k < c + 1 → (k ≡ c → ⊥) → k < c
    before k i q = omega arith

-- The loop of a copy, where F k is place k of the base map.
pub copy-none : (base s : List ℕ) (n : ℕ) → n ≡ length s → Rewriting (λ k. get_or base k 0) s (length s) n 0 s
copy-none base s n e = record {
  end = e;
  fits = omega arith;
  within = omega arith;
  len = refl;
  done = λ k l. absurd (omega arith);
  rest = λ k l. refl;
}

pub copy_done : {base old s : List ℕ} {n c : ℕ} → length old ≡ length base
    → Rewriting (λ k. get_or base k 0) old (length old) n c s → n ≤ c → s ≡ base
copy_done {base} {old} {s} {n} {c} e h l =
    let F : ℕ → ℕ = λ k. get_or base k 0 in
    tabulate-of (length base) s F (h.len ∙ e) (λ k i. h.done k (omega (arith, h.end)))
    ∙ sym (tabulate-of (length base) base F refl (λ k i. refl))
