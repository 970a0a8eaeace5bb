-- The test of the cells of a map, as an iterator answers it.
--
--   cells-answered == every n (cell_byte s from), where the iterator over the n bytes of s from there on answers whether
--                     each is at most 1
use Prim.Native.Nat.{ℕ, ◌+◌, ◌-◌, ◌≤◌, ◌<◌}
use mathlib.Core.Path.{◌≡◌, sym, ap, ◌∙◌}
use mathlib.Core.Bool.{Bool, true, false}
use mathlib.Core.List.{List}
use native.Mathlib.Omega.{arith}
use borrow.Author.Tests.{le-leb, lt-leb}
use lib.Dec.{leb}
use lib.ListN.{length, get_or, take, drop, length-take, length-drop}
use lib.Seq.{get_or-take, get_or-drop}
use Rattle.std.specs.Bool.{MatchBool}
use Rattle.std.specs.List.{AllWithin, HoldsAt}
use Rattle.basics.specs.Bounded.{every}
use Rattle.basics.proofs.Bounded.{every-all, every-fails}
use Rattle.records.specs.Format.{cell_byte}

module _ (s : List ℕ) (from n : ℕ) (fits : from + n ≤ length s) where
  cells_in : List ℕ
  cells_in = take (from + n - from) (drop from s)

  cell-in : (k : ℕ) → k < n → get_or cells_in k 0 ≡ get_or s (from + k) 0
  unfolding cells_in
  cell-in k l = get_or-take (from + n - from) (drop from s) k 0 (omega arith) ∙ get_or-drop from s k 0

  cells_length : length cells_in ≡ n
  unfolding cells_in
  cells_length = simp (length-take, length-drop) (omega arith)

  pub cells-answered : (r : Bool)
      → MatchBool r (AllWithin (λ x. x ≤ 1) (take (from + n - from) (drop from s)) 0
      (length (take (from + n - from) (drop from s))))
      ((k : ℕ) × (k < length (take (from + n - from) (drop from s)))
      × HoldsAt (λ x. 1 < x) (take (from + n - from) (drop from s)) k)
      → r ≡ every n (cell_byte s from)
  unfolding cells_in
  cells-answered true h =
      sym (every-all n (cell_byte s from) (λ k l.
      ap (λ x. leb x 1) (sym (cell-in k l)) ∙ le-leb (get_or cells_in k 0) 1 (h k 0 (omega arith) (omega (arith, cells_length)))))
  cells-answered false h =
      let l : h.0 < n = omega (arith, h.1, cells_length) in
      sym (every-fails n h.0 (cell_byte s from) l
      (ap (λ x. leb x 1) (sym (cell-in h.0 l)) ∙ lt-leb (get_or cells_in h.0 0) 1 (h.2 0)))
