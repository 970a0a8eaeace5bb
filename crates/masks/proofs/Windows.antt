-- The four cells at a vertex say which moves pass between or across them: the mask of a window, made by the tests of
-- sight on a floor of 2 by 2 cells, holds wherever that window is on a floor. Outside the floor cells are blocked.
--
--   window-bits, window-cells == the bits of the number of a window are its four cells
--   start-centre        == centre d (start_of d) = 1: a move by d from its start has its cells at the middle of a floor
--                          of 2 by 2
--   open-window         == whether a move is open in a floor of 2 by 2 cells, by the bits of the number of its window
--   pinch-window        == whether the middle of a floor of 2 by 2 cells is a pinch, by the bits of the number of its
--                          window
--   dir-shifted, dir-where == the code's bit of a direction is 2^k
--   Gathered r T n mask == the mask has the directions of those of the first n moves of r that pass the test T, and no
--                          other bit
--   gathered_none, -more, -all == `Gathered` of no move, and of one move more; of all moves it is the mask of a window
--   open_by b m         == move m is open where the four cells beside it are the bits of b
--   move_needs, gathered-open == what the code's test of one move takes, and the mask with its answer
--   dir-apart           == no direction of a neighbourhood has the bit of a pinch
--   pinch-alone         == the mask with the bit of a pinch alone is that of a window that is a pinch
--   window-within       == the mask of a window for a table is its mask for any directions of that table
--   windows-none, -more == `WindowsTo` of no window, and of one window more
--   Cells r f x y n     == n is the mask of the window at (x, y) of the floor f
--   window-read         == the mask at the number of the window at (x, y) is the mask of that window
--   read_none, -more    == `WindowRow` of no vertices, and of one vertex more
--   listed-sixteen, listed-unit == a neighbourhood of sixteen has the table of sixteen, and no move of another goes two
--                      columns or rows
--   unit-leaving        == where no move goes two columns or rows, the mask of the window at (x, y) is that of the
--                          moves that leave (x, y)
--   joined-leaving      == the masks of five windows, joined, are that of the sixteen moves that leave (x, y)
--   past-right          == on the right of the floor all cells are blocked
--   line-leaving        == the masks of three lines of windows, joined, are those of the sixteen moves that leave a
--                          vertex
use Prim.Native.Nat.{ℕ, zero, suc, ◌+◌, ◌-◌, ◌*◌, ◌%◌, ◌^◌, ◌≤◌, ◌<◌}
use mathlib.Core.Path.{◌≡◌, refl, sym, ap, ap₂, ◌∙◌, subst}
use mathlib.Core.Bool.{Bool, true, false, ◌&&◌, ◌||◌, not, and-true, and-false}
use mathlib.Core.List.{List}
use native.Mathlib.Omega.{arith}
use borrow.Author.Tests.{eq-eqb, eqb-true, leb-true, not-true}
use lib.Bits.{bit_or, bit_and}
use mir.Val.{bool_byte}
use lib.Dec.{leb, eqb}
use lib.IntN.{ℤ, pos, negsuc, nat_abs}
use lib.ListN.{length, set, length-set, get_or}
use Rattle.basics.specs.Bounded.{pick, every, any, bounded-opened}
use Rattle.basics.specs.Bits.{bit}
use Rattle.basics.proofs.Bits.{bit-zero, bit-or, bit-and, pick-bit}
use Rattle.basics.proofs.Bools.{iff-eq, and_intro, and_left, and_right, not-both}
use Rattle.basics.proofs.Bounded.{every-at, any-cases, any-one}
use Rattle.floor.specs.Floor.{Floor, cell_number, floor_of, blocked}
use Rattle.floor.specs.Window.{WindowMap}
use Rattle.floor.proofs.Cells.{blocked-inside, blocked-right}
use Rattle.sight.specs.Sight.{unblocked, pinch}
use Rattle.moves.specs.declared.Move.{Move}
use Rattle.moves.specs.declared.Directions.{Directions}
use Rattle.moves.specs.Moves.{dir_count, dir_move, dir_at, move_at}
use Rattle.moves.specs.Steps.{up, down, end_if}
use Rattle.moves.specs.Leaving.{leaves}
use Rattle.moves.specs.Cells.{beside, window_blocked, centre}
use Rattle.moves.specs.Table.{is_some, Listed, sixteen_dirs, Within, Short, narrow}
use Rattle.moves.proofs.Signs.{back, handed, handed-back}
use Rattle.moves.proofs.Table.{lawful-move, move-short, listed-lawful, same-dir, each-listed, sixteen-listed}
use Rattle.moves.proofs.Cells.{cells-tell}
use Rattle.masks.specs.Masks.{dir_if, pinch_bit, pinch_mask, Leaving, LeavingRow}
use Rattle.masks.specs.Windows.{window_at, pinch_of, open_in, start_of, Window, WindowsTo, WindowRow, WindowLines}
use Rattle.masks.specs.Windows.{unit_dirs, all_bits, unit_mask, left_mask, right_mask, upper_mask, lower_mask}
use Rattle.masks.specs.Windows.{joined_mask}
use Rattle.masks.proofs.Masks.{leaves-dir, set-more}

-- ---- the four cells

-- The bits of n are the four cells.
pub record Bits (a b c d : Bool) (n : ℕ) : Type 0 where
  pub first : bit n 0 ≡ a
  pub second : bit n 1 ≡ b
  pub third : bit n 2 ≡ c
  pub fourth : bit n 3 ≡ d

window-bits : (a b c d : Bool) → Bits a b c d ((pick a 1 0 + pick c 4 0) + 2 * (pick b 1 0 + pick d 4 0))
window-bits a b c d = record { first = grind arith; second = grind arith; third = grind arith; fourth = grind arith }

window-cells : (f : Floor) (x y : ℕ)
    → Bits (blocked f x y) (blocked f (suc x) y) (blocked f x (suc y)) (blocked f (suc x) (suc y)) (window_at f x y)
window-cells f x y = window-bits (blocked f x y) (blocked f (suc x) y) (blocked f x (suc y)) (blocked f (suc x) (suc y))

pub pair_small : (a b : Bool) → pick a 1 0 + pick b 4 0 ≤ 5
pair_small a b = grind arith

pub window-small : (f : Floor) (x y : ℕ) → window_at f x y < 16
window-small f x y =
    omega (
      arith,
      pair_small (blocked f x y) (blocked f x (suc y)),
      pair_small (blocked f (suc x) y) (blocked f (suc x) (suc y)),
    )

-- The cells of the floor of 2 by 2 that the code makes of the number b.
module _ {b : ℕ} {l : List ℕ} (M : WindowMap b l) where
  abbrev g : Floor
  g = floor_of 2 2 l

  cell : (i j k : ℕ) → i < 2 → j < 2 → cell_number 2 i j ≡ k → blocked g (suc i) (suc j) ≡ bit b k
  cell i j k p q r =
      let a : suc i - 1 ≡ i = omega arith in
      let d : suc j - 1 ≡ j = omega arith in
      blocked-inside g (suc i) (suc j) (omega arith) (omega arith) (omega arith) (omega arith)
      ∙ ap₂ g.cell a d ∙ M.cell i j p q ∙ ap (bit b) r

  of-window : (F : Bool → Bool → Bool → Bool → Bool)
      → F (blocked g 1 1) (blocked g 2 1) (blocked g 1 2) (blocked g 2 2) ≡ F (bit b 0) (bit b 1) (bit b 2) (bit b 3)
  of-window F =
      rw (
        cell 0 0 0 (omega arith) (omega arith) refl,
        cell 1 0 1 (omega arith) (omega arith) refl,
        cell 0 1 2 (omega arith) (omega arith) refl,
        cell 1 1 3 (omega arith) (omega arith) refl,
      )

  pub pinch-window : pinch g 1 1 ≡ pinch_of (bit b 0) (bit b 1) (bit b 2) (bit b 3)
  unfolding pinch
  pinch-window = of-window pinch_of

  pub open-window : (m : Move) (x y : ℕ) → Short m → narrow m ≡ true → x ≤ 2 → y ≤ 2 → centre m.dx x ≡ 1
      → centre m.dy y ≡ 1 → pinch_of (bit b 0) (bit b 1) (bit b 2) (bit b 3) ≡ false
      → is_some (end_if unblocked g m x y) ≡ open_in m (bit b 0) (bit b 1) (bit b 2) (bit b 3)
  open-window m x y s n p q c d free =
      let told : is_some (end_if unblocked g m x y)
      ≡ not (window_blocked m.dx m.dy (blocked g 1 1) (blocked g 2 1) (blocked g 1 2) (blocked g 2 2)) =
      rw (c, d) at (cells-tell g m x y p q s n) in
      let shut = window_blocked m.dx m.dy (bit b 0) (bit b 1) (bit b 2) (bit b 3) in
      told ∙ of-window (λ ul ur ll lr. not (window_blocked m.dx m.dy ul ur ll lr))
      ∙ sym (ap (λ t. not shut && not t) free ∙ and-true (not shut))

pub start-centre : (d : ℤ) → nat_abs d ≤ 2 → centre d (start_of d) ≡ 1
unfolding centre up down
start-centre (pos zero) h = refl
start-centre (pos (suc zero)) h = refl
start-centre (pos (suc (suc zero))) h = refl
start-centre (pos (suc (suc (suc n)))) h = absurd (omega arith)
start-centre (negsuc zero) h = refl
start-centre (negsuc (suc zero)) h = refl
start-centre (negsuc (suc (suc n))) h = absurd (omega arith)

-- ---- the mask of one window

-- A bit of a direction is below 2^32.
pub dir-shifted : (k : ℕ) → k < dir_count → 1 * 2 ^ k % 4294967296 ≡ 2 ^ k
unfolding bounded-opened
dir-shifted k l = eqb-true _ _ (every-at dir_count (λ k. eqb (1 * 2 ^ k % 4294967296) (2 ^ k)) refl k l)

-- The bit of direction k where a test holds, as the code makes it.
pub dir-where : (b : Bool) (k : ℕ) → k < dir_count → bool_byte b * 2 ^ k % 4294967296 ≡ pick b (2 ^ k) 0
dir-where true k l = dir-shifted k l
dir-where false k l = omega arith

-- A mask has direction k where it is the direction of one of the first n moves of r, and that move passes the test.
pub record Gathered (r : Directions) (T : ℕ → Bool) (n mask : ℕ) : Type 0 where
  pub at : (k : ℕ) → bit mask k ≡ any n (λ m. T m && eqb (dir_at r m) k)

pub gathered_none : {r : Directions} {T : ℕ → Bool} → Gathered r T 0 0
unfolding any
gathered_none = record { at = bit-zero }

pub gathered-more : {r : Directions} {T : ℕ → Bool} {n mask t : ℕ} → Gathered r T n mask
    → t ≡ pick (T n) (2 ^ dir_at r n) 0
    → Gathered r T (suc n) (bit_or mask t)
unfolding any
gathered-more {r} {T} {n} {mask} G e = record {
  at = λ k. rw e (bit-or mask (pick (T n) (2 ^ dir_at r n) 0) k ∙ ap₂ ◌||◌ (G.at k) (pick-bit (T n) (dir_at r n) k));
}

-- A move is open where the four cells beside it are the bits of b.
abbrev pub open_by : ℕ → Move → Bool
open_by b m = open_in m (bit b 0) (bit b 1) (bit b 2) (bit b 3)

-- Move m of a neighbourhood, read as t, which the code hands to its test by the offsets.
module _ {r : Directions} (listed : Listed r) (m : ℕ) (l : m < r.count) {t : Move} (is : t ≡ move_at r m) where
  short : Short t
  short = move-short r m (listed-lawful listed) l is

  pub move_needs : Short (handed t) × (narrow (handed t) ≡ true)
  move_needs =
      rw (back t.dx short.columns, back t.dy short.rows) (
        record { columns = short.columns; rows = short.rows },
        rw is (lawful-move r m (listed-lawful listed) l).is_narrow,
      )

  pub gathered-open : (b : ℕ) {mask k a : ℕ} → Gathered r (λ m. open_by b (move_at r m)) m mask → k ≡ dir_at r m
      → a ≡ pick (open_by b (handed t)) (2 ^ k) 0
      → Gathered r (λ m. open_by b (move_at r m)) (suc m) (bit_or mask a)
  gathered-open b {k = k} G dir told =
      gathered-more G
      (told ∙ ap (λ (m : Move). pick (open_by b m) (2 ^ k) 0) (handed-back short)
      ∙ ap₂ (λ (m : Move) (n : ℕ). pick (open_by b m) (2 ^ n) 0) is dir)

-- No direction of a neighbourhood has the bit of a pinch.
pub dir-apart : {r : Directions} → Listed r → (m : ℕ) → m < r.count → dir_at r m ≡ pinch_bit → ⊥
unfolding bounded-opened
dir-apart {r} h m l e =
    not-both _ (eq-eqb (dir_at r m) pinch_bit e)
    (not-true _
    (every-at r.count (λ m. not (eqb (dir_at r m) pinch_bit))
    (each-listed (λ r. every r.count (λ m. not (eqb (dir_at r m) pinch_bit)) ≡ true) refl refl refl h) m l))

module _ {r : Directions} (listed : Listed r) where
  gathered-dir : {T : ℕ → Bool} {mask : ℕ} → Gathered r T r.count mask → (m : ℕ) → m < r.count
      → bit mask (dir_at r m) ≡ T m
  gathered-dir {T} {mask} G m l =
      let test : ℕ → Bool = λ n. T n && eqb (dir_at r n) (dir_at r m) in
      G.at (dir_at r m)
      ∙ iff-eq (any r.count test) (T m)
      (λ t.
      let c = any-cases r.count test t in
      let e = eqb-true (dir_at r c.0) (dir_at r m) (and_right (T c.0) (eqb (dir_at r c.0) (dir_at r m)) c.2) in
      ap T (sym (same-dir r (listed-lawful listed) c.0 m c.1 l e)) ∙ and_left (T c.0)
      (eqb (dir_at r c.0) (dir_at r m)) c.2)
      (λ t. any-one r.count m test l (and_intro _ _ t (eq-eqb (dir_at r m) (dir_at r m) refl)))

  -- No bit but those of the directions is set.
  gathered-past : {T : ℕ → Bool} {mask : ℕ} → Gathered r T r.count mask → bit mask pinch_bit ≡ false
  gathered-past {T} {mask} G = G.at pinch_bit ∙ cases (any r.count (λ m. T m && eqb (dir_at r m) pinch_bit)) refl
    where
      cases : (t : Bool) → any r.count (λ m. T m && eqb (dir_at r m) pinch_bit) ≡ t → t ≡ false
      cases false e = refl
      cases true e =
          let c = any-cases r.count (λ m. T m && eqb (dir_at r m) pinch_bit) e in
          let is = eqb-true (dir_at r c.0) pinch_bit (and_right (T c.0) (eqb (dir_at r c.0) pinch_bit) c.2) in
          absurd (dir-apart listed c.0 c.1 is)

  pub gathered-all : {b mask : ℕ} → pinch_of (bit b 0) (bit b 1) (bit b 2) (bit b 3) ≡ false
      → Gathered r (λ m. open_by b (move_at r m)) r.count mask → Window r b mask
  gathered-all free G = record { dirs = λ m l. gathered-dir G m l; mark = gathered-past G ∙ sym free }

  -- No direction's bit is set in the mask of a pinch.
  pinch-dir : (m : ℕ) → m < r.count → bit pinch_mask (dir_at r m) ≡ false
  unfolding bounded-opened
  pinch-dir m l =
      not-true _
      (every-at r.count (λ m. not (bit pinch_mask (dir_at r m)))
      (each-listed (λ r. every r.count (λ m. not (bit pinch_mask (dir_at r m))) ≡ true) refl refl refl listed) m l)

  pub pinch-alone : {b : ℕ} → pinch_of (bit b 0) (bit b 1) (bit b 2) (bit b 3) ≡ true → Window r b pinch_mask
  pinch-alone {b} is = record {
    dirs = λ m l.
        pinch-dir m l
        ∙ sym (rw is (and-false (not
        (window_blocked (move_at r m).dx (move_at r m).dy (bit b 0) (bit b 1) (bit b 2) (bit b 3)))));
    mark = sym is;
  }

-- The mask of a table holds for any directions of the table.
pub window-within : {r t : Directions} {b n : ℕ} → Within r t → Window t b n → Window r b n
window-within {r} {t} {b} {n} I W = record {
  dirs = λ m l.
      let k = I.at m l in
      subst (λ k. bit n k ≡ open_in (dir_move k) (bit b 0) (bit b 1) (bit b 2) (bit b 3)) (sym k.2)
      (W.dirs k.0 k.1);
  mark = W.mark;
}

-- ---- the sixteen

pub windows-none : {r : Directions} {l : List ℕ} → length l ≡ 16 → WindowsTo r 0 l
windows-none e = record { len = e; at = λ b h. absurd (omega arith) }

pub windows-more : {r : Directions} {k n : ℕ} {l : List ℕ} → WindowsTo r k l → k < 16 → Window r k n
    → WindowsTo r (suc k) (set l k n)
windows-more {r} {k} {n} {l} W i M = record {
  len = length-set l k n ∙ W.len;
  at = set-more l (Window r) W.at (omega (arith, W.len)) M;
}

-- n is the mask of the window at (x, y).
pub record Cells (r : Directions) (f : Floor) (x y n : ℕ) : Type 0 where
  pub dirs : (m : ℕ) → m < r.count
      → bit n (dir_at r m)
      ≡ open_in (move_at r m) (blocked f x y) (blocked f (suc x) y) (blocked f x (suc y)) (blocked f (suc x) (suc y))
  pub mark : bit n pinch_bit ≡ pinch f x y

pub window-read : {r : Directions} {l : List ℕ} {b : ℕ} → WindowsTo r 16 l → (f : Floor) (x y : ℕ) → b ≡ window_at f x y
    → Cells r f x y (get_or l b 0)
unfolding pinch
window-read {r} {l} {b} W f x y e =
    let w = W.at b (omega (arith, e, window-small f x y)) in
    let B : Bits (blocked f x y) (blocked f (suc x) y) (blocked f x (suc y)) (blocked f (suc x) (suc y)) b =
    rw e (window-cells f x y) in
    record {
      dirs = λ m l. w.dirs m l ∙ rw (B.first, B.second, B.third, B.fourth);
      mark = w.mark ∙ rw (B.first, B.second, B.third, B.fourth);
    }

pub read_none : {f : Floor} {y : ℕ} {t l : List ℕ} → length l ≡ 128 → WindowRow f y t 0 l
read_none e = record { len = e; at = λ x h. absurd (omega arith) }

pub read_more : {f : Floor} {y n b : ℕ} {t l : List ℕ} → WindowRow f y t n l → n < 128 → b ≡ window_at f n y
    → WindowRow f y t (suc n) (set l n (get_or t b 0))
read_more {f} {y} {n} {b} {t} {l} R i e = record {
  len = length-set l n (get_or t b 0) ∙ R.len;
  at = set-more l (λ x m. m ≡ get_or t (window_at f x y) 0) R.at (omega (arith, R.len)) (ap (λ k. get_or t k 0) e);
}

pub listed-sixteen : {r : Directions} → Listed r → r.count ≡ 16 → r ≡ sixteen_dirs
listed-sixteen h =
    each-listed (λ r. r.count ≡ 16 → r ≡ sixteen_dirs) (λ e. absurd (omega arith)) (λ e. absurd (omega arith))
    (λ e. refl) h

pub listed-unit : {r : Directions} → Listed r → (r.count ≡ 16 → ⊥) → unit_dirs r ≡ true
unfolding bounded-opened
listed-unit h =
    each-listed (λ r. (r.count ≡ 16 → ⊥) → unit_dirs r ≡ true) (λ n. refl) (λ n. refl) (λ n. absurd (n refl)) h

-- ---- the mask of a vertex

centre-unit : (d : ℤ) (a : ℕ) → nat_abs d ≤ 1 → centre d a ≡ a
unfolding centre
centre-unit (pos zero) a h = refl
centre-unit (pos (suc zero)) a h = refl
centre-unit (pos (suc (suc n))) a h = absurd (omega arith)
centre-unit (negsuc zero) a h = refl
centre-unit (negsuc (suc n)) a h = absurd (omega arith)

module _ {r : Directions} (listed : Listed r) (f : Floor) (x y : ℕ) (on : x ≤ f.wide) (in-y : y ≤ f.high) where
  abbrev closed : ℕ → ℕ → ℕ → Bool
  closed m X Y =
      window_blocked (move_at r m).dx (move_at r m).dy (blocked f X Y) (blocked f (suc X) Y) (blocked f X (suc Y))
      (blocked f (suc X) (suc Y))

  -- A move leaves (x, y) where its cells, those at (X, Y), are not in the way and (x, y) is no pinch.
  leaves-told : (m X Y : ℕ) → m < r.count → centre (move_at r m).dx x ≡ X → centre (move_at r m).dy y ≡ Y
      → dir_if leaves f x y (dir_at r m) ≡ (not (closed m X Y) && not (pinch f x y))
  leaves-told m X Y l p q =
      let t = lawful-move r m (listed-lawful listed) l in
      leaves-dir f x y on (dir_at r m)
      ∙ ap (λ b. b && not (pinch f x y))
      (cells-tell f (move_at r m) x y on in-y t.is_short t.is_narrow
      ∙ ap₂ (λ i j. not (closed m i j)) p q)

  pub unit-leaving : {n : ℕ} → unit_dirs r ≡ true → Cells r f x y n → Leaving f r x y n
  unfolding pinch
  unit-leaving u C = record {
    dirs = record {
      at = λ m l.
          let t = every-at r.count (λ m. leb (nat_abs (move_at r m).dx) 1 && leb (nat_abs (move_at r m).dy) 1) u m l in
          let dx = leb-true _ 1 (and_left (leb (nat_abs (move_at r m).dx) 1) (leb (nat_abs (move_at r m).dy) 1) t) in
          let dy = leb-true _ 1 (and_right (leb (nat_abs (move_at r m).dx) 1) (leb (nat_abs (move_at r m).dy) 1) t) in
          C.dirs m l ∙ sym (leaves-told m x y l (centre-unit (move_at r m).dx x dx)
          (centre-unit (move_at r m).dy y dy));
    };
    mark = C.mark;
  }

-- Where no move goes two columns or rows, the masks of a row of windows are those of the moves that leave its vertices.
pub unit-rows : {r : Directions} {f : Floor} {y : ℕ} {t l : List ℕ} → Listed r → unit_dirs r ≡ true → y ≤ f.high
    → WindowsTo r 16 t → WindowRow f y t (suc f.wide) l → LeavingRow f r y (suc f.wide) l
unit-rows {r} {f} {y} {t} {l} listed u in-y W R = record {
  len = R.len;
  at = λ x h. rw (R.at x h) (unit-leaving listed f x y (omega arith) in-y u (window-read W f x y refl));
}

-- ---- five windows

-- Of a pinch's four cells, one of each two that lie side by side is blocked.
upper-shut : (ul ur ll lr : Bool) → (not (ul || ur) && not (pinch_of ul ur ll lr)) ≡ not (ul || ur)
upper-shut ul ur ll lr = grind arith

lower-shut : (ul ur ll lr : Bool) → (not (ll || lr) && not (pinch_of ul ur ll lr)) ≡ not (ll || lr)
lower-shut ul ur ll lr = grind arith

left-shut : (ul ur ll lr : Bool) → (not (ul || ll) && not (pinch_of ul ur ll lr)) ≡ not (ul || ll)
left-shut ul ur ll lr = grind arith

right-shut : (ul ur ll lr : Bool) → (not (ur || lr) && not (pinch_of ul ur ll lr)) ≡ not (ur || lr)
right-shut ul ur ll lr = grind arith

module _ (here left right upper lower : ℕ) where
  abbrev far-mask : ℕ
  far-mask =
      bit_or (bit_or (bit_or (bit_and left left_mask) (bit_and right right_mask)) (bit_and upper upper_mask))
      (bit_and lower lower_mask)

  abbrev joined-with : ℕ → ℕ
  joined-with s = bit_or (bit_and here unit_mask) (bit_and far-mask s)

  -- A bit of the four far masks joined, and of all five, by the bits of the constants.
  abbrev four : ℕ → Bool → Bool → Bool → Bool → Bool
  four k b c d e = (((bit left k && b) || (bit right k && c)) || (bit upper k && d)) || (bit lower k && e)

  abbrev five : ℕ → Bool → Bool → Bool → Bool → Bool → Bool → Bool
  five k a b c d e s = (bit here k && a) || (four k b c d e && s)

  joined-bit : (s k : ℕ) → bit (joined-with s) k
      ≡ five k (bit unit_mask k) (bit left_mask k) (bit right_mask k) (bit upper_mask k) (bit lower_mask k) (bit s k)
  joined-bit s k = simp (bit-or, bit-and)

  module _ (k : ℕ) where
    -- A bit that one of the constants alone has is that of the window of that constant.
    of-here : five k true false false false false true ≡ bit here k
    of-here = grind arith

    of_left : five k false true false false false true ≡ bit left k
    of_left = grind arith

    of_right : five k false false true false false true ≡ bit right k
    of_right = grind arith

    of-upper : five k false false false true false true ≡ bit upper k
    of-upper = grind arith

    of-lower : five k false false false false true true ≡ bit lower k
    of-lower = grind arith

    -- Where the four far masks are left out, a bit is that of the window at the vertex.
    none-far : bit (joined-with 0) k ≡ (bit here k && bit unit_mask k)
    none-far = simp (bit-or, bit-and, bit-zero) (grind arith)

module _ (listed : Listed sixteen_dirs) (f : Floor) (x y : ℕ) (on : x ≤ f.wide) (in-y : y ≤ f.high)
    {here left right upper lower : ℕ} (H : Cells sixteen_dirs f x y here) (L : Cells sixteen_dirs f (x - 1) y left)
    (R : Cells sixteen_dirs f (suc x) y right) (U : Cells sixteen_dirs f x (y - 1) upper)
    (D : Cells sixteen_dirs f x (suc y) lower) where
  abbrev J : ℕ
  J = joined-with here left right upper lower all_bits

  module _ (free : pinch f x y ≡ false) where
    abbrev Says : ℕ → Type 0
    Says m = bit J (dir_at sixteen_dirs m) ≡ dir_if leaves f x y (dir_at sixteen_dirs m)

    abbrev told : (m X Y : ℕ) → m < 16 → centre (move_at sixteen_dirs m).dx x ≡ X
        → centre (move_at sixteen_dirs m).dy y ≡ Y
        → dir_if leaves f x y (dir_at sixteen_dirs m) ≡ (not (closed listed f x y on in-y m X Y) && not (pinch f x y))
    told = leaves-told listed f x y on in-y

    unit : (m : ℕ) → m < 16 → bit J (dir_at sixteen_dirs m) ≡ bit here (dir_at sixteen_dirs m)
        → centre (move_at sixteen_dirs m).dx x ≡ x → centre (move_at sixteen_dirs m).dy y ≡ y → Says m
    unfolding pinch
    unit m l e p q = e ∙ H.dirs m l ∙ sym (told m x y l p q)

    -- A move by two columns or rows, whose cells are those at (X, Y).
    far : (m X Y n : ℕ) → m < 16 → Cells sixteen_dirs f X Y n → bit J (dir_at sixteen_dirs m) ≡ bit n (dir_at sixteen_dirs m)
        → centre (move_at sixteen_dirs m).dx x ≡ X → centre (move_at sixteen_dirs m).dy y ≡ Y
        → ((ul ur ll lr : Bool) → open_in (move_at sixteen_dirs m) ul ur ll lr
        ≡ not (window_blocked (move_at sixteen_dirs m).dx (move_at sixteen_dirs m).dy ul ur ll lr)) → Says m
    far m X Y n l C e p q shut =
        e ∙ C.dirs m l ∙ shut (blocked f X Y) (blocked f (suc X) Y) (blocked f X (suc Y)) (blocked f (suc X) (suc Y))
        ∙ sym (told m X Y l p q ∙ rw free (and-true (not (closed listed f x y on in-y m X Y))))

    abbrev b : (k : ℕ) → bit J k
        ≡ five here left right upper lower k (bit unit_mask k) (bit left_mask k) (bit right_mask k)
        (bit upper_mask k) (bit lower_mask k) (bit all_bits k)
    b = joined-bit here left right upper lower all_bits

    says-10 : (m : ℕ) → 10 + m < 16 → Says (10 + m)
    unfolding centre beside
    says-10 zero l = unit 10 l (b 26 ∙ of-here here left right upper lower 26) refl refl
    says-10 (suc zero) l =
        far 11 x (y - 1) upper l U (b 27 ∙ of-upper here left right upper lower 27) refl refl left-shut
    says-10 (suc (suc zero)) l = unit 12 l (b 28 ∙ of-here here left right upper lower 28) refl refl
    says-10 (suc (suc (suc zero))) l =
        far 13 x (y - 1) upper l U (b 29 ∙ of-upper here left right upper lower 29) refl refl right-shut
    says-10 (suc (suc (suc (suc zero)))) l = unit 14 l (b 30 ∙ of-here here left right upper lower 30) refl refl
    says-10 (suc (suc (suc (suc (suc zero))))) l =
        far 15 (suc x) y right l R (b 31 ∙ of_right here left right upper lower 31) refl refl upper-shut
    says-10 (suc (suc (suc (suc (suc (suc m)))))) l = absurd (omega arith)

    says-5 : (m : ℕ) → 5 + m < 16 → Says (5 + m)
    unfolding centre beside
    says-5 zero l = far 5 x (suc y) lower l D (b 21 ∙ of-lower here left right upper lower 21) refl refl left-shut
    says-5 (suc zero) l = unit 6 l (b 22 ∙ of-here here left right upper lower 22) refl refl
    says-5 (suc (suc zero)) l =
        far 7 (x - 1) y left l L (b 23 ∙ of_left here left right upper lower 23) refl refl lower-shut
    says-5 (suc (suc (suc zero))) l = unit 8 l (b 24 ∙ of-here here left right upper lower 24) refl refl
    says-5 (suc (suc (suc (suc zero)))) l =
        far 9 (x - 1) y left l L (b 25 ∙ of_left here left right upper lower 25) refl refl upper-shut
    says-5 (suc (suc (suc (suc (suc m))))) l =
        let e : 10 + m ≡ 5 + suc (suc (suc (suc (suc m)))) = omega arith in
        subst Says e (says-10 m (omega arith))

    says : (m : ℕ) → m < 16 → Says m
    unfolding centre beside
    says zero l = unit 0 l (b 16 ∙ of-here here left right upper lower 16) refl refl
    says (suc zero) l = far 1 (suc x) y right l R (b 17 ∙ of_right here left right upper lower 17) refl refl lower-shut
    says (suc (suc zero)) l = unit 2 l (b 18 ∙ of-here here left right upper lower 18) refl refl
    says (suc (suc (suc zero))) l =
        far 3 x (suc y) lower l D (b 19 ∙ of-lower here left right upper lower 19) refl refl right-shut
    says (suc (suc (suc (suc zero)))) l = unit 4 l (b 20 ∙ of-here here left right upper lower 20) refl refl
    says (suc (suc (suc (suc (suc m))))) l =
        let e : 5 + m ≡ suc (suc (suc (suc (suc m)))) = omega arith in
        subst Says e (says-5 m (omega arith))

  -- The window of a pinch has no direction.
  dir-shut : (m : ℕ) → m < 16 → pinch f x y ≡ true → bit here (dir_at sixteen_dirs m) ≡ false
  unfolding pinch
  dir-shut m l is =
      H.dirs m l
      ∙ rw is (and-false (not
      (window_blocked (move_at sixteen_dirs m).dx (move_at sixteen_dirs m).dy (blocked f x y) (blocked f (suc x) y)
      (blocked f x (suc y)) (blocked f (suc x) (suc y)))))

  pub joined-leaving : Leaving f sixteen_dirs x y (joined_mask here left right upper lower)
  joined-leaving = cases (bit here pinch_bit) refl
    where
      cases : (p : Bool) → bit here pinch_bit ≡ p
          → Leaving f sixteen_dirs x y (joined-with here left right upper lower (pick p 0 all_bits))
      cases true e =
          let is : pinch f x y ≡ true = sym H.mark ∙ e in
          record {
            dirs = record {
              at = λ m l.
                  none-far here left right upper lower (dir_at sixteen_dirs m)
                  ∙ ap (λ t. t && bit unit_mask (dir_at sixteen_dirs m)) (dir-shut m l is)
                  ∙ sym (leaves-dir f x y on (dir_at sixteen_dirs m)
                  ∙ rw is (and-false (dir_if unblocked f x y (dir_at sixteen_dirs m))));
            };
            mark = none-far here left right upper lower pinch_bit ∙ and-true (bit here pinch_bit) ∙ H.mark;
          }
      cases false e =
          let free : pinch f x y ≡ false = sym H.mark ∙ e in
          record {
            dirs = record { at = λ m l. says free m l };
            mark =
                joined-bit here left right upper lower all_bits pinch_bit
                ∙ of-here here left right upper lower pinch_bit ∙ H.mark;
          }

-- ---- the windows of three lines

-- On the right of the floor all cells are blocked.
pub past-right : (f : Floor) (y : ℕ) → 15 ≡ window_at f (suc f.wide) y
past-right f y =
    rw (
      blocked-right f (suc f.wide) y (omega arith),
      blocked-right f (suc f.wide) (suc y) (omega arith),
      blocked-right f (suc (suc f.wide)) y (omega arith),
      blocked-right f (suc (suc f.wide)) (suc y) (omega arith),
    )

module _ {f : Floor} {y : ℕ} {t above here below : List ℕ} (W : WindowsTo sixteen_dirs 16 t)
    (L : WindowLines f y t above here below) (in-y : y ≤ f.high) where
  pub line-leaving : (x : ℕ) {left right : ℕ} → x ≤ f.wide → left ≡ get_or t (window_at f (x - 1) y) 0
      → right ≡ get_or t (window_at f (suc x) y) 0
      → Leaving f sixteen_dirs x y (joined_mask (get_or here x 0) left right (get_or above x 0) (get_or below x 0))
  line-leaving x on l r =
      joined-leaving sixteen-listed f x y on in-y
      (subst (Cells sixteen_dirs f x y) (sym (L.middle.at x (omega arith))) (window-read W f x y refl))
      (subst (Cells sixteen_dirs f (x - 1) y) (sym l) (window-read W f (x - 1) y refl))
      (subst (Cells sixteen_dirs f (suc x) y) (sym r) (window-read W f (suc x) y refl))
      (subst (Cells sixteen_dirs f x (y - 1)) (sym (L.upper.at x (omega arith))) (window-read W f x (y - 1) refl))
      (subst (Cells sixteen_dirs f x (suc y)) (sym (L.lower.at x (omega arith))) (window-read W f x (suc y) refl))
