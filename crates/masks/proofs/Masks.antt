-- The masks of the moves that leave the vertices of a row, and of all vertices, stored one after the other.
--
--   leaves-dir      == a direction leaves a vertex where nothing is in the way and the vertex is no pinch
--   mask-number     == the mask of the vertex (x, y) is the mask at its number
--   set-more        == what holds of the first n places of a list, with one place more set
--   row-none, -more == `LeavingRow` of no vertices, and of one vertex more
--   row-end         == past the last vertex of a row is the first of the next
--   leaving-none, -fewer == `LeavingTo` before vertex 0, and of fewer vertices
--   row-stored      == `LeavingTo` before a row and `LeavingRow` of its masks give `LeavingTo` before the next row
use Prim.Native.Nat.{ℕ, suc, ◌+◌, ◌-◌, ◌*◌, ◌≤◌, ◌<◌}
use mathlib.Core.Path.{◌≡◌, refl, sym, ap, ap₂, ◌∙◌}
use mathlib.Core.Logic.{⊎_elim}
use mathlib.Core.Bool.{Bool, true, false, ◌&&◌, not}
use mathlib.Core.List.{List}
use mathlib.Core.Option.{Option, none, some}
use native.Mathlib.Omega.{arith}
use native.Mathlib.Numerals.{add-one}
use borrow.Rule.Slice.PartMut.{put_mid}
use lib.ListN.{length, set, take, get_or, length-set}
use Rattle.std.proofs.Common.{rules}
use Rattle.std.proofs.lemmas.List.{places}
use lib.Seq.{length-take-le, get_or-set_same, get_or-set_other}
use Rattle.basics.proofs.Order.{le-or-lt}
use Rattle.floor.specs.Floor.{Floor, vertices, number, column, row}
use Rattle.floor.proofs.Numbers.{number_lt, column-number, row_number}
use Rattle.sight.specs.Sight.{segment, unblocked, pinch}
use Rattle.moves.specs.declared.Directions.{Directions}
use Rattle.moves.specs.Moves.{dir_move}
use Rattle.moves.specs.Steps.{then_at, far_end_at, end_if}
use Rattle.moves.specs.Table.{is_some}
use Rattle.moves.specs.Leaving.{leaves}
use Rattle.masks.specs.Masks.{dir_if, MaskAt, Leaving, LeavingRow, LeavingTo}

module _ (f : Floor) (x y : ℕ) (on : x ≤ f.wide) where
  pub leaves-dir : (k : ℕ) → dir_if leaves f x y k ≡ (dir_if unblocked f x y k && not (pinch f x y))
  unfolding end_if then_at leaves segment is_some
  leaves-dir k = cases (far_end_at f.wide f.high (dir_move k) x y)
    where
      W : ℕ
      W = f.wide

      held : (a b : Bool) (u : ℕ) → is_some (elim (a && not b) [ true ↦ some u | false ↦ none ])
          ≡ (is_some (elim a [ true ↦ some u | false ↦ none ]) && not b)
      held a b u = grind arith

      cases : (o : Option ℕ)
          → is_some (then_at o (λ u. elim (leaves f (segment W (number W x y) u)) [ true ↦ some u | false ↦ none ]))
          ≡ (is_some (then_at o (λ u. elim (unblocked f (segment W (number W x y) u)) [ true ↦ some u | false ↦ none ]))
          && not (pinch f x y))
      cases none = refl
      cases (some u) =
          held (unblocked f (segment W (number W x y) u)) (pinch f (column W (number W x y)) (row W (number W x y))) u
          ∙ ap₂ (λ i j. is_some (elim (unblocked f (segment W (number W x y) u)) [ true ↦ some u | false ↦ none ])
          && not (pinch f i j)) (column-number W x y on) (row_number W x y on)

  pub mask-number : {r : Directions} {n : ℕ} → Leaving f r x y n → MaskAt leaves f r (number f.wide x y) n
  mask-number L = rw (column-number f.wide x y on, row_number f.wide x y on) L.dirs

-- ---- a direction

pub row-none : {f : Floor} {r : Directions} {y : ℕ} {l : List ℕ} → length l ≡ 128 → LeavingRow f r y 0 l
row-none e = record { len = e; at = λ x h. absurd (omega arith) }

-- What holds of the first n places of a list, with one place more set.
pub set-more : (l : List ℕ) {n m : ℕ} (P : ℕ → ℕ → Type 0) → ((x : ℕ) → x < n → P x (get_or l x 0)) → n < length l
    → P n m
    → (x : ℕ) → x < suc n → P x (get_or (set l n m) x 0)
set-more l {n} {m} P all i is x h =
    ⊎_elim (λ (lt : suc x ≤ n). rw (get_or-set_other l n x m 0 (λ e. omega arith)) (all x lt))
    (λ (ge : n < suc x). let e : x ≡ n = omega arith in rw (e, get_or-set_same l n m 0 i) is) (le-or-lt (suc x) n)

pub row_more : {f : Floor} {r : Directions} {y n m : ℕ} {l : List ℕ} → LeavingRow f r y n l → n < 128
    → Leaving f r n y m
    → LeavingRow f r y (suc n) (set l n m)
row_more {f} {r} {y} {n} {m} {l} R i is = record {
  len = length-set l n m ∙ R.len;
  at = set-more l (λ x n. Leaving f r x y n) R.at (omega (arith, R.len)) is;
}

-- ---- all vertices

pub row-end : (w y : ℕ) → number w (w + 1) y ≡ number w 0 (y + 1)
row-end w y = sym (ap (λ z. z * suc w + 0) (add-one y) ∙ omega arith)

pub leaving-none : {f : Floor} {r : Directions} {l : List ℕ} → length l ≡ vertices f.wide f.high
    → LeavingTo f r 0 l
leaving-none e = record { len = e; at = λ v h. absurd (omega arith) }

-- The masks of a row, written over the places of its vertices.
pub row-stored : {f : Floor} {r : Directions} {l k : List ℕ} {p n y : ℕ} → f.wide ≤ 127 → p ≡ number f.wide 0 y
    → n ≡ suc f.wide → y ≤ f.high → LeavingTo f r p l → LeavingRow f r y (suc f.wide) k
    → LeavingTo f r (number f.wide 0 (y + 1)) (put_mid p n l (take n k))
row-stored {f} {r} {l} {k} {p} {n} {y} narrow e w in-y M R =
    let fits : p + n ≤ length l = omega (arith, e, w, M.len, number_lt f.wide f.high f.wide y (omega arith) in-y) in
    let many : length (take n k) ≡ n = length-take-le n k (omega (arith, w, R.len)) in
    let all : length (put_mid p n l (take n k)) ≡ length l = search (rules, places) in
    record {
      len = all ∙ M.len;
      at = λ u h. ⊎_elim
          (λ (lt : suc u ≤ p).
          let is : get_or (put_mid p n l (take n k)) u 0 ≡ get_or l u 0 = search (rules, places) in
          rw is (M.at u lt))
          (λ (ge : p < suc u).
          let x : ℕ = u - p in
          let on : x < n = omega (arith, e, w) in
          let is : get_or (put_mid p n l (take n k)) u 0 ≡ get_or k x 0 = search (rules, places) in
          let s : u ≡ number f.wide x y = omega (arith, e) in
          let c : column f.wide u ≡ x = ap (column f.wide) s ∙ column-number f.wide x y (omega arith) in
          let q : row f.wide u ≡ y = ap (row f.wide) s ∙ row_number f.wide x y (omega arith) in
          rw (is, c, q) (R.at x (omega arith)))
          (le-or-lt (suc u) p);
    }

pub leaving-fewer : {f : Floor} {r : Directions} {n m : ℕ} {l : List ℕ} → LeavingTo f r n l → m ≤ n → LeavingTo f r m l
leaving-fewer M h = record { len = M.len; at = λ v i. M.at v (omega arith) }
