-- The table of `closures` that is made of the numbers, slot by slot.
--
--   from_fn-at    == what holds of each call of a closure that changes nothing holds of each place of the list that
--                    `array::from_fn` makes of the calls
--   table-stands  == sixteen slots that hold what the numbers hold make a table that stands for them
use Prim.Native.Nat.{ℕ, zero, suc, ◌+◌, ◌≤◌, ◌<◌}
use mathlib.Core.Path.{◌≡◌, refl, ◌∙◌}
use mathlib.Core.Logic.{⊎_elim}
use mathlib.Core.List.{List}
use native.Mathlib.Omega.{arith}
use lib.ListN.{length, get_or, get_or-eq_default}
use denote.Param.Members.{Mut, Called}
use Rattle.std.proofs.Common.{Option, None}
use Rattle.std.specs.Array.{IsFromFnResultFrom}
use Rattle.basics.proofs.Order.{le-or-lt, eq-or-ne}
use Rattle.closures.specs.declared.Rectangle.{Rectangle}
use Rattle.stored_closures.specs.Stored.{stored_in}
use Rattle.stored_closures.specs.Known.{Stands}
use Rattle.stored_closures.proofs.Numbers.{stored_past}

module _ {F B : Type 0} (g : Mut F (ℕ × Unit {0}) B) (P : ℕ → B → Type 0) (f : F)
    (each : (k : ℕ) (y : B) (q : F) → Called g f (k, tt) y q → (q ≡ f) × P k y) (ys : List B) where
  from_fn-from : (i n : ℕ) → IsFromFnResultFrom g f ys i n → (k : ℕ) → i ≤ k → k < i + n → (d : B) → P k (get_or ys k d)
  from_fn-from i zero c k a b d = absurd (omega arith)
  from_fn-from i (suc n) (q, y, at, call, rest) k a b d = ⊎_elim
      (λ (e : k ≡ i). rw (e, at.1 d) (each i y q call).1)
      (λ (m : k ≡ i → ⊥).
      from_fn-from (i + 1) n (rw (each i y q call).0 at rest) k (omega arith) (omega arith) d)
      (eq-or-ne k i)

  pub from_fn-at : (n : ℕ) → IsFromFnResultFrom g f ys 0 n → (k : ℕ) → k < n → (d : B) → P k (get_or ys k d)
  from_fn-at n c k b d = from_fn-from 0 n c k (omega arith) (omega arith) d

pub table-stands : (w h : ℕ) (l : List ℕ) (slots : List (Option Rectangle)) → length slots ≡ 16
    → ((k : ℕ) → k < 16 → (d : Option Rectangle) → get_or slots k d ≡ stored_in l k)
    → Stands w h l (record { width = w; height = h; slots = slots })
table-stands w h l slots n e = record { wide = refl; high = refl; same = λ i k. at k i }
  where
    at : (k : ℕ) → get_or slots k None ≡ stored_in l k
    at k = ⊎_elim
        (λ (p : 16 ≤ k). get_or-eq_default slots None {n = k} (omega (arith, n)) ∙ stored_past l k p)
        (λ (p : k < 16). e k p None)
        (le-or-lt 16 k)
