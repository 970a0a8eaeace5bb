-- The numbers after a store in a slot, and what each slot then holds.
--
--   numbers-here, numbers-else == the rectangle of the slot that was stored, and of any other slot
--   stored-with                == `stored_in` after a store is `stored_in` with that slot changed
--   stored_past                == past the sixteen slots nothing is held
--   stored-free, stored-held   == `stored_in` of a slot by the test of its columns
use Prim.Native.Nat.{ℕ, ◌+◌, ◌*◌, ◌≤◌, ◌<◌}
use mathlib.Core.Path.{◌≡◌, ap, ◌∙◌}
use mathlib.Core.Logic.{⊎_elim, ◌≢◌}
use mathlib.Core.List.{List}
use native.Mathlib.Omega.{arith}
use borrow.Author.Tests.{eq-eqb, ne_eqb, lt-ltb, le-ltb}
use lib.Dec.{ltb}
use lib.ListN.{length, get_or, set, length-set}
use lib.Seq.{get_or-set_same, get_or-set_other}
use Rattle.std.proofs.Common.{None, Some}
use Rattle.basics.specs.Bounded.{pick}
use Rattle.basics.proofs.Order.{eq-or-ne}
use Rattle.closures.specs.Plain.{changed}
use Rattle.closures.specs.declared.Rectangle.{Rectangle}
use Rattle.stored_closures.specs.Stored.{rectangle_at, rectangle_of, hold_of, stored_in, with_numbers}

pub numbers-length : (l : List ℕ) (k : ℕ) (r : Rectangle) → length (with_numbers l k r) ≡ length l
unfolding with_numbers
numbers-length l k r = simp length-set

module _ (l : List ℕ) (k : ℕ) (r : Rectangle) where
  -- The numbers after the first, the second and the third of the four stores.
  abbrev once : List ℕ
  once = set l (4 * k) r.column

  abbrev twice : List ℕ
  twice = set once (4 * k + 1) r.row

  abbrev thrice : List ℕ
  thrice = set twice (4 * k + 2) r.columns

  -- A place outside slot k keeps its number.
  elsewhere : (n : ℕ) → n ≢ 4 * k → n ≢ 4 * k + 1 → n ≢ 4 * k + 2 → n ≢ 4 * k + 3
      → get_or (with_numbers l k r) n 0 ≡ get_or l n 0
  unfolding with_numbers
  elsewhere n a b c d =
      get_or-set_other thrice (4 * k + 3) n r.rows 0 d ∙ get_or-set_other twice (4 * k + 2) n r.columns 0 c
      ∙ get_or-set_other once (4 * k + 1) n r.row 0 b ∙ get_or-set_other l (4 * k) n r.column 0 a

  numbers-else : (j : ℕ) → j ≢ k → rectangle_at (with_numbers l k r) j ≡ rectangle_at l j
  numbers-else j n =
      λ i. rectangle_of
      (elsewhere (4 * j) (λ e. n (omega arith)) (λ e. omega arith) (λ e. omega arith) (λ e. omega arith) i)
      (elsewhere (4 * j + 1) (λ e. omega arith) (λ e. n (omega arith)) (λ e. omega arith) (λ e. omega arith) i)
      (elsewhere (4 * j + 2) (λ e. omega arith) (λ e. omega arith) (λ e. n (omega arith)) (λ e. omega arith) i)
      (elsewhere (4 * j + 3) (λ e. omega arith) (λ e. omega arith) (λ e. omega arith) (λ e. n (omega arith)) i)

  module _ (fits : 4 * k + 3 < length l) where
    numbers-here : rectangle_at (with_numbers l k r) k ≡ r
    unfolding with_numbers
    numbers-here =
        λ i. rectangle_of (column i) (row i) (columns i) (rows i)
      where
        column : get_or (with_numbers l k r) (4 * k) 0 ≡ r.column
        column =
            get_or-set_other thrice (4 * k + 3) (4 * k) r.rows 0 (λ e. omega arith)
            ∙ get_or-set_other twice (4 * k + 2) (4 * k) r.columns 0 (λ e. omega arith)
            ∙ get_or-set_other once (4 * k + 1) (4 * k) r.row 0 (λ e. omega arith)
            ∙ get_or-set_same l (4 * k) r.column 0 (omega arith)

        row : get_or (with_numbers l k r) (4 * k + 1) 0 ≡ r.row
        row =
            get_or-set_other thrice (4 * k + 3) (4 * k + 1) r.rows 0 (λ e. omega arith)
            ∙ get_or-set_other twice (4 * k + 2) (4 * k + 1) r.columns 0 (λ e. omega arith)
            ∙ get_or-set_same once (4 * k + 1) r.row 0 (simp length-set (omega arith))

        columns : get_or (with_numbers l k r) (4 * k + 2) 0 ≡ r.columns
        columns =
            get_or-set_other thrice (4 * k + 3) (4 * k + 2) r.rows 0 (λ e. omega arith)
            ∙ get_or-set_same twice (4 * k + 2) r.columns 0 (simp length-set (omega arith))

        rows : get_or (with_numbers l k r) (4 * k + 3) 0 ≡ r.rows
        rows = get_or-set_same thrice (4 * k + 3) r.rows 0 (simp length-set fits)

    pub stored-with : k < 16 → stored_in (with_numbers l k r) ≡ changed (stored_in l) k (hold_of r)
    unfolding stored_in
    stored-with b = λ i j. at j i
      where
        at : (j : ℕ) → stored_in (with_numbers l k r) j ≡ changed (stored_in l) k (hold_of r) j
        at j =
            ⊎_elim
            (λ (e : j ≡ k). rw (eq-eqb j k e, e, lt-ltb k 16 b) (ap hold_of numbers-here))
            (λ (n : j ≡ k → ⊥). rw (ne_eqb j k n) (ap (λ x. pick (ltb j 16) (hold_of x) None) (numbers-else j n)))
            (eq-or-ne j k)

module _ (l : List ℕ) (k : ℕ) where
  pub stored_past : 16 ≤ k → None ≡ stored_in l k
  unfolding stored_in
  stored_past p = rw (le-ltb k 16 p)

  module _ (p : k < 16) where
    pub stored-free : get_or l (4 * k + 2) 0 ≡ 0 → None ≡ stored_in l k
    unfolding stored_in
    stored-free e = rw (lt-ltb k 16 p, eq-eqb (get_or l (4 * k + 2) 0) 0 e)

    pub stored-held : get_or l (4 * k + 2) 0 ≢ 0 → Some (rectangle_at l k) ≡ stored_in l k
    unfolding stored_in
    stored-held n = rw (lt-ltb k 16 p, ne_eqb (get_or l (4 * k + 2) 0) 0 n)
