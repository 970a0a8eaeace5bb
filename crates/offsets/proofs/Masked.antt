-- A step by a mask: where the mask has the bit of a direction, v moved by the offset of that direction is the far end
-- of its move. The mask holds the moves that pass a test S.
--
--   move-offset     == neither part of the offset of a move is above 258
--   composed        == the offset that the code puts together from the parts of dx and dy is that of the move
--   masked-end      == `masked_end` is `end_if S` of the move, where the mask holds the test S
--   masked-movable  == `Movable` of a direction of the mask: no number is negative or too large
--   shifts-..       == `masked_end` and `Movable` by the list of shifts; the list made direction by direction
use Prim.Native.Nat.{ℕ, suc, ◌+◌, ◌-◌, ◌*◌, ◌≤◌, ◌<◌}
use mathlib.Core.Path.{◌≡◌, refl, sym, ap, subst, ◌∙◌}
use mathlib.Core.Logic.{⊎_elim}
use mathlib.Core.Bool.{Bool, true, false}
use mathlib.Core.Option.{Option, none, some}
use mathlib.Core.List.{List}
use native.Mathlib.Omega.{arith}
use native.Mathlib.Nat.{mul-le-mul}
use native.Mathlib.Numerals.{add-one}
use lib.ListN.{length, set, get_or, length-set}
use lib.Seq.{get_or-set_same, get_or-set_other}
use Rattle.basics.proofs.Order.{le-or-lt}
use Rattle.basics.specs.Bounded.{pick}
use Rattle.floor.specs.Floor.{Floor, vertices, number, column, row}
use Rattle.floor.proofs.Numbers.{vertices-le, column-le, number_of}
use Rattle.sight.specs.Sight.{Segment}
use Rattle.moves.specs.declared.Move.{Move}
use Rattle.moves.specs.declared.Offset.{Offset}
use Rattle.moves.specs.declared.Directions.{Directions}
use Rattle.moves.specs.Moves.{dir_count, dir_move, dir_at, move_at}
use Rattle.moves.specs.Steps.{end_if}
use Rattle.moves.specs.Table.{is_some, Within, Short, lawful_dirs, parts_of}
use Rattle.basics.specs.Bits.{bit}
use Rattle.masks.specs.Masks.{MaskAt}
use Rattle.offsets.specs.Offsets.{offset_of, masked_end, Movable}
use Rattle.offsets.specs.Offsets.{shift_base, Shifts, shifted_by}
use Rattle.moves.proofs.Signs.{up_le, down_le}
use Rattle.moves.proofs.Table.{LawfulMove, lawful-move, same-dir}
use Rattle.moves.proofs.Steps.{Goes, end_goes}

-- The far end of a move, by its offset.
pub goes-offset : (S : Floor → Segment → Bool) (f : Floor) (m : Move) (x y w : ℕ) → Goes S f m x y w
    → w + (offset_of f.wide m).down ≡ number f.wide x y + (offset_of f.wide m).up
goes-offset S f m x y w g =
    let n = suc f.wide in
    omega (arith, g.vertex, g.columns.moved, ap (λ z. z * n) g.rows.moved)

small : {w a b : ℕ} → w ≤ 127 → a ≤ 2 → b ≤ 2 → b * suc w + a ≤ 258
small {w} {a} {b} l p q = omega (arith, mul-le-mul {n₁ = b} {m₁ = suc w} {n₂ = 2} {m₂ = 128} q (omega arith))

up_small : (w : ℕ) (m : Move) → w ≤ 127 → Short m → (offset_of w m).up ≤ 258
up_small w m l s = small l (omega (arith, up_le m.dx, s.columns)) (omega (arith, up_le m.dy, s.rows))

down-small : (w : ℕ) (m : Move) → w ≤ 127 → Short m → (offset_of w m).down ≤ 258
down-small w m l s = small l (omega (arith, down_le m.dx, s.columns)) (omega (arith, down_le m.dy, s.rows))

-- Neither part of the offset is above 258.
pub record MoveOffset (w : ℕ) (m : Move) (o : Offset) : Type 0 where
  pub is : o ≡ offset_of w m
  pub ups : o.up ≤ 258
  pub downs : o.down ≤ 258

pub move-offset : {w : ℕ} {m : Move} {o : Offset} → o ≡ offset_of w m → w ≤ 127 → Short m → MoveOffset w m o
move-offset {w} {m} e l s = record { is = e; ups = rw e (up_small w m l s); downs = rw e (down-small w m l s) }

-- The offset that the code puts together from the parts x of the columns and y of the rows.
pub record Composed (w : ℕ) (m : Move) (x y : Offset) : Type 0 where
  pub ups : y.up * (w + 1) + x.up ≤ 258
  pub downs : y.down * (w + 1) + x.down ≤ 258
  pub is : record { up = y.up * (w + 1) + x.up; down = y.down * (w + 1) + x.down } ≡ offset_of w m

pub composed : (w : ℕ) (m : Move) (x y : Offset) → x ≡ parts_of m.dx → y ≡ parts_of m.dy → w ≤ 127 → Short m
    → Composed w m x y
composed w m x y p q l s = rw (p, q) (record {
  ups = rw add-one (up_small w m l s);
  downs = rw add-one (down-small w m l s);
  is = rw add-one;
})

module _ (S : Floor → Segment → Bool) (f : Floor) (r : Directions) (lawful : lawful_dirs r ≡ true) (v n : ℕ)
    (mask : MaskAt S f r v n) (j : ℕ) (l : j < r.count) where
  abbrev k : ℕ
  k = dir_at r j

  abbrev m : Move
  m = move_at r j

  abbrev o : Offset
  o = offset_of f.wide m

  law : LawfulMove r j
  law = lawful-move r j lawful l

  -- The far end, where S holds of the segment to it.
  abbrev end : Option ℕ
  end = end_if S f m (column f.wide v) (row f.wide v)

  -- The bit is set exactly where the far end is there.
  has : (w : ℕ) → end ≡ some w → bit n k ≡ true
  unfolding is_some
  has w e = mask.at j l ∙ ap is_some e

  unset : end ≡ none → bit n k ≡ false
  unfolding is_some
  unset e = mask.at j l ∙ ap is_some e

  moved : (w : ℕ) → end ≡ some w → w + o.down ≡ v + o.up
  moved w e =
      let g = end_goes S f m (column f.wide v) (row f.wide v) w (column-le f.wide v) e in
      rw (number_of f.wide v) at (goes-offset S f m (column f.wide v) (row f.wide v) w g)

  pub masked-end : masked_end n v k o ≡ end
  masked-end = cases (end) refl
    where
      cases : (t : Option ℕ) → end ≡ t → masked_end n v k o ≡ t
      cases none e = rw (unset e)
      cases (some w) e = let z : v + o.up - o.down ≡ w = omega (arith, moved w e) in rw (has w e, z)

  pub masked-movable : f.wide ≤ 127 → f.high ≤ 127 → v < vertices f.wide f.high → Movable n v k o
  masked-movable p q i = record {
    dir = omega (arith, law.in_the_table);
    sum = omega (arith, vertices-le p q, up_small f.wide m p law.is_short);
    enough = λ e. enough (end) refl e;
  }
    where
      enough : (t : Option ℕ) → end ≡ t → bit n k ≡ true → o.down ≤ v + o.up
      enough none e b = let z : true ≡ false = sym b ∙ unset e in let y : ◌≡◌ {A = ℕ} 0 1 = cc in absurd (omega arith)
      enough (some w) e b = omega (arith, moved w e)

-- ---- the directions by their shifts

module _ {w : ℕ} {r : Directions} {l : List ℕ} (S : Shifts w r l) (j : ℕ) (h : j < r.count) where
  abbrev kept : ℕ
  kept = dir_at r j

  -- `masked_end` by the shift of a direction is `masked_end` by the offset of its move.
  pub shifts-masked : (n v : ℕ) → masked_end n v kept (shifted_by l kept) ≡ masked_end n v kept (offset_of w (move_at r j))
  shifts-masked n v =
      let e : v + get_or l kept 0 - shift_base ≡ v + (offset_of w (move_at r j)).up - (offset_of w (move_at r j)).down =
      omega (arith, S.at j h) in
      ap (λ u. pick (bit n kept) (some u) none) e

  pub shifts-movable : lawful_dirs r ≡ true → (n v : ℕ) → w ≤ 127 → v < 16384
      → Movable n v kept (offset_of w (move_at r j)) → Movable n v kept (shifted_by l kept)
  shifts-movable lawful n v p i m =
      let s = (lawful-move r j lawful h).is_short in
      let u = up_small w (move_at r j) p s in
      let d = down-small w (move_at r j) p s in
      record {
        dir = m.dir;
        sum = omega (arith, S.at j h);
        enough = λ b. omega (arith, S.at j h, m.enough b);
      }

-- The shifts of the directions of the moves before n.
pub record ShiftsTo (w : ℕ) (r : Directions) (n : ℕ) (l : List ℕ) : Type 0 where
  pub len : length l ≡ dir_count
  pub at : (m : ℕ) → m < n
      → get_or l (dir_at r m) 0 + (offset_of w (move_at r m)).down ≡ shift_base + (offset_of w (move_at r m)).up

pub shifts_none : {w : ℕ} {r : Directions} {l : List ℕ} → length l ≡ dir_count → ShiftsTo w r 0 l
shifts_none e = record { len = e; at = λ m h. absurd (omega arith) }

pub shifts-more : {w n k : ℕ} {r : Directions} {l : List ℕ} (x : ℕ) → lawful_dirs r ≡ true → ShiftsTo w r n l
    → n < r.count
    → k ≡ dir_at r n → x + (offset_of w (move_at r n)).down ≡ shift_base + (offset_of w (move_at r n)).up
    → ShiftsTo w r (n + 1) (set l k x)
shifts-more {w} {n} {k} {r} {l} x lawful S h e is = rw e (record {
  len = length-set l (dir_at r n) x ∙ S.len;
  at = λ m g. ⊎_elim
      (λ (lt : suc m ≤ n).
      rw (get_or-set_other l (dir_at r n) (dir_at r m) x 0
      (λ same. let z = same-dir r lawful m n (omega arith) h same in omega arith)) (S.at m lt))
      (λ (ge : n < suc m).
      let z : m ≡ n = omega arith in
      rw (z, get_or-set_same l (dir_at r n) x 0 (omega (arith, S.len, (lawful-move r n lawful h).in_the_table))) is)
      (le-or-lt (suc m) n);
})

pub shifts-all : {w : ℕ} {r : Directions} {l : List ℕ} → ShiftsTo w r r.count l → Shifts w r l
shifts-all S = record { len = S.len; at = S.at }

-- The shifts of a table hold for any directions of the table.
pub shifts-within : {w : ℕ} {r t : Directions} {l : List ℕ} → Within r t → Shifts w t l → Shifts w r l
shifts-within {w} {r} {t} {l} I S = record {
  len = S.len;
  at = λ m h.
      let k = I.at m h in
      subst (λ k. get_or l k 0 + (offset_of w (dir_move k)).down ≡ shift_base + (offset_of w (dir_move k)).up) (sym k.2)
      (S.at k.0 k.1);
}
