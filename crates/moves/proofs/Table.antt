-- The laws of the move table, each proved once by a test that antt computes over the directions of a neighbourhood.
--
--   neighbourhood-8, -4, -16 == the moves of neighbourhoods 8, 4 and 16: the table of eight, its cardinal directions in
--                           the same order, and the sixteen
--   each-listed          == what holds of the directions of 4, of 8 and of 16 holds of every `Listed r`
--   LawfulMove r m       == the parts of `lawful_dirs r` for move m
--   dir_listed           == a direction of a lawful table is one of the 32
--   move-short           == a move that is read of a lawful table is short
--   same-dir             == two moves of the same direction are the same move
--   dirs-lawful          == directions that pass the test are a lawful table
--   listed-lawful        == the directions of a neighbourhood pass the test
--   listed-few           == a neighbourhood has at most sixteen moves
--   eight-listed, sixteen-listed == the tables of eight and of sixteen are neighbourhoods
--   table-listed, table-within == `table_of r` is a neighbourhood, and has the directions of the neighbourhood r
--   table-sixteen, table-eight == which table `table_of r` is, by the number of moves
--   dearest, listed-cost == no move of a neighbourhood costs more than 577, or with sixteen 2,236
--   offset-eq            == offsets a and b that lead from the same line to the same line are equal
use Prim.Native.Nat.{ℕ, zero, suc, ◌+◌, ◌≤◌, ◌<◌}
use mathlib.Core.Path.{◌≡◌, refl, sym, ap, ap₂, subst}
use mathlib.Core.Logic.{⊎_elim}
use mathlib.Core.Bool.{Bool, true, false, ◌&&◌, ◌||◌, not}
use mathlib.Core.List.{List, [], ◌∷◌, ◌++◌}
use native.Mathlib.Omega.{arith}
use native.Mathlib.Nat.{mod-lt}
use borrow.Author.Tests.{eqb-true, eq-eqb, ne_eqb, leb-true, ltb-true, not-true}
use lib.Dec.{eqb, leb}
use lib.IntN.{ℤ, pos, negsuc, nat_abs}
use lib.ListN.{length, get_or}
use Rattle.std.proofs.Common.{Some, None}
use Rattle.basics.specs.Bounded.{pick, every, any, bounded-opened}
use Rattle.basics.proofs.Order.{le-or-lt}
use Rattle.basics.proofs.Bools.{and_left, and_right, not-both}
use Rattle.basics.proofs.Bounded.{every-at, any-cases}
use Rattle.moves.specs.declared.Move.{Move}
use Rattle.moves.specs.declared.Directions.{Directions}
use Rattle.moves.specs.Moves.{moves, sixteen, dir_count, dir_move, directions_of, dir_at, move_at, neighbourhood_of}
use Rattle.moves.specs.Steps.{up, down}
use Rattle.moves.specs.AnyTable.{Turned, LawfulTable}
use Rattle.moves.specs.Table.{Listed, eight_dirs, sixteen_dirs, table_of, Within}
use Rattle.moves.specs.Table.{Short, opposite_of, turned, same_offset, narrow, lawful_tests, lawful_dir, lawful_dirs}

-- ---- which moves a neighbourhood has

-- The first n moves of the directions r.
unfoldable pub first_moves : Directions → ℕ → List Move
first_moves r zero = []
first_moves r (suc n) = first_moves r n ++ (move_at r n ∷ [])

unfoldable pub moves_of : Directions → List Move
moves_of r = first_moves r r.count

-- A move along a grid line.
unfoldable pub cardinal : Move → Bool
cardinal m = eqb (nat_abs m.dx) 0 || eqb (nat_abs m.dy) 0

-- The moves of a list that pass a test.
unfoldable pub kept : (Move → Bool) → List Move → List Move
kept p [] = []
kept p (m ∷ l) = pick (p m) (m ∷ kept p l) (kept p l)

known_is : (q r : Directions) → Some q ≡ Some r → r ≡ q
known_is q r e = cc

pub neighbourhood-8 : (r : Directions) → neighbourhood_of 8 ≡ Some r → moves_of r ≡ moves
unfolding neighbourhood_of moves_of first_moves
neighbourhood-8 r e = ap moves_of (known_is (directions_of 0 2 8) r e)

pub neighbourhood-4 : (r : Directions) → neighbourhood_of 4 ≡ Some r → moves_of r ≡ kept cardinal moves
unfolding neighbourhood_of moves_of first_moves kept cardinal
neighbourhood-4 r e = ap moves_of (known_is (directions_of 0 4 4) r e)

pub neighbourhood-16 : (r : Directions) → neighbourhood_of 16 ≡ Some r → moves_of r ≡ sixteen
unfolding neighbourhood_of moves_of first_moves
neighbourhood-16 r e = ap moves_of (known_is (directions_of 16 1 16) r e)

pub each-listed : (P : Directions → Type 0) → P (directions_of 0 4 4) → P (directions_of 0 2 8) → P (directions_of 16 1 16)
    → {r : Directions} → Listed r → P r
unfolding neighbourhood_of
each-listed P four eight more {r} h =
    cases (eqb h.number 16) (eqb h.number 8) (eqb h.number 4) h.known
  where
    cases : (a b c : Bool)
        → pick a (Some (directions_of 16 1 16))
        (pick b (Some (directions_of 0 2 8)) (pick c (Some (directions_of 0 4 4)) None))
        ≡ Some r
        → P r
    cases true b c e = subst P (sym (known_is (directions_of 16 1 16) r e)) more
    cases false true c e = subst P (sym (known_is (directions_of 0 2 8) r e)) eight
    cases false false true e = subst P (sym (known_is (directions_of 0 4 4) r e)) four
    cases false false false e = cc

-- ---- the test, and what it gives

cardinal-lawful : lawful_dirs (directions_of 0 4 4) ≡ true
unfolding lawful_dirs bounded-opened turned same_offset up down
cardinal-lawful = refl

eight-lawful : lawful_dirs (directions_of 0 2 8) ≡ true
unfolding lawful_dirs bounded-opened turned same_offset up down
eight-lawful = refl

sixteen-lawful : lawful_dirs (directions_of 16 1 16) ≡ true
unfolding lawful_dirs bounded-opened turned same_offset up down
sixteen-lawful = refl

pub listed-lawful : {r : Directions} → Listed r → lawful_dirs r ≡ true
listed-lawful h = each-listed (λ r. lawful_dirs r ≡ true) cardinal-lawful eight-lawful sixteen-lawful h

pub listed-few : {r : Directions} → Listed r → r.count ≤ 16
listed-few h = each-listed (λ r. r.count ≤ 16) (omega arith) (omega arith) (omega arith) h

-- ---- the tables

pub eight-listed : Listed eight_dirs
unfolding neighbourhood_of
eight-listed = record { number = 8; known = refl }

pub sixteen-listed : Listed sixteen_dirs
unfolding neighbourhood_of
sixteen-listed = record { number = 16; known = refl }

pub table-sixteen : (r : Directions) → r.count ≡ 16 → table_of r ≡ sixteen_dirs
table-sixteen r e = rw (eq-eqb r.count 16 e)

pub table-eight : (r : Directions) → (r.count ≡ 16 → ⊥) → table_of r ≡ eight_dirs
table-eight r n = rw (ne_eqb r.count 16 n)

pub table-listed : (r : Directions) → Listed (table_of r)
table-listed r = cases (eqb r.count 16)
  where
    cases : (b : Bool) → Listed (pick b sixteen_dirs eight_dirs)
    cases true = sixteen-listed
    cases false = eight-listed

-- The direction of move m of r is in its table.
abbrev in_table : Directions → ℕ → Bool
in_table r m = any (table_of r).count (λ k. eqb (dir_at r m) (dir_at (table_of r) k))

pub table-within : {r : Directions} → Listed r → Within r (table_of r)
unfolding bounded-opened
table-within {r} h = record {
  at = λ m l.
      let all = each-listed (λ r. every r.count (in_table r) ≡ true) refl refl refl h in
      let c = any-cases (table_of r).count (λ k. eqb (dir_at r m) (dir_at (table_of r) k))
      (every-at r.count (in_table r) all m l) in
      (c.0, c.1, eqb-true _ _ c.2);
}

-- ---- what a move costs

-- 2,236 where there are sixteen, else 577.
abbrev pub dearest : Directions → ℕ
dearest r = pick (eqb r.count 16) 2236 577

pub listed-cost : {r : Directions} → Listed r → (m : ℕ) → m < r.count → (move_at r m).cost ≤ dearest r
unfolding bounded-opened
listed-cost {r} h m l =
    leb-true _ (dearest r)
    (every-at r.count (λ m. leb (move_at r m).cost (dearest r))
    (each-listed (λ r. every r.count (λ m. leb (move_at r m).cost (dearest r)) ≡ true) refl refl refl h) m l)

turned-true : (a b : ℤ) → turned a b ≡ true → Turned a b
unfolding turned
turned-true a b e = record {
  up_down = eqb-true (up a) (down b) (and_left (eqb (up a) (down b)) (eqb (down a) (up b)) e);
  down_up = eqb-true (down a) (up b) (and_right (eqb (up a) (down b)) (eqb (down a) (up b)) e);
}

same-offset-refl : (a b : ℤ) → a ≡ b → same_offset a b ≡ true
unfolding same_offset
same-offset-refl a b e = ap₂ ◌&&◌ (eq-eqb (up a) (up b) (ap up e)) (eq-eqb (down a) (down b) (ap down e))

pub offset-eq : (a b : ℤ) → up a + down b ≡ up b + down a → a ≡ b
unfolding up down
offset-eq (pos m) (pos n) e = ap pos (omega arith)
offset-eq (pos m) (negsuc n) e = absurd (omega arith)
offset-eq (negsuc m) (pos n) e = absurd (omega arith)
offset-eq (negsuc m) (negsuc n) e = ap negsuc (omega arith)

pub record LawfulMove (r : Directions) (m : ℕ) : Type 0 where
  pub in_the_table : dir_at r m < dir_count
  pub cost_low : 1 ≤ (move_at r m).cost
  pub cost_high : (move_at r m).cost ≤ 4095
  pub is_short : Short (move_at r m)
  pub opposite_listed : opposite_of r m < r.count
  pub opposite_cost : (move_at r (opposite_of r m)).cost ≡ (move_at r m).cost
  pub opposite_dx : Turned (move_at r (opposite_of r m)).dx (move_at r m).dx
  pub opposite_dy : Turned (move_at r (opposite_of r m)).dy (move_at r m).dy
  pub is_narrow : narrow (move_at r m) ≡ true
  pub fresh : (n : ℕ) → n < m → (move_at r n).dx ≡ (move_at r m).dx → (move_at r n).dy ≡ (move_at r m).dy → ⊥

-- Move n of the directions leads elsewhere than move m.
abbrev elsewhere : Directions → ℕ → ℕ → Bool
elsewhere r m n = not (same_offset (move_at r n).dx (move_at r m).dx && same_offset (move_at r n).dy (move_at r m).dy)

pub lawful-move : (r : Directions) (m : ℕ) → lawful_dirs r ≡ true → m < r.count → LawfulMove r m
unfolding lawful_dirs
lawful-move r m e l =
    let row = every-at r.count (lawful_dir r) e m l in
    let test = every-at (length (lawful_tests r m)) (λ k. get_or (lawful_tests r m) k true) row in
    record {
      in_the_table = ltb-true _ _ (test 0 (omega arith));
      cost_low = leb-true _ _ (test 1 (omega arith));
      cost_high = leb-true _ _ (test 2 (omega arith));
      is_short = record { columns = leb-true _ _ (test 3 (omega arith)); rows = leb-true _ _ (test 4 (omega arith)) };
      opposite_listed = mod-lt _ (omega arith);
      opposite_cost = eqb-true _ _ (test 5 (omega arith));
      opposite_dx = turned-true _ _ (test 6 (omega arith));
      opposite_dy = turned-true _ _ (test 7 (omega arith));
      is_narrow = test 9 (omega arith);
      fresh = λ n k p q.
          not-both _ (ap₂ ◌&&◌ (same-offset-refl _ _ p) (same-offset-refl _ _ q))
          (not-true _ (every-at m (elsewhere r m) (test 8 (omega arith)) n k));
    }

-- A direction of a lawful table, as the code works it out.
pub dir_listed : (r : Directions) (m : ℕ) → lawful_dirs r ≡ true → m < r.count → dir_at r m < dir_count
dir_listed r m e l = (lawful-move r m e l).in_the_table

pub move-short : (r : Directions) (m : ℕ) {t : Move} → lawful_dirs r ≡ true → m < r.count → t ≡ move_at r m → Short t
move-short r m e l is = rw is (lawful-move r m e l).is_short

module _ (r : Directions) (e : lawful_dirs r ≡ true) where
  law : (m : ℕ) → m < r.count → LawfulMove r m
  law m l = lawful-move r m e l

  -- Moves with the same offsets are the same.
  same_move : (m n : ℕ) → m < r.count → n < r.count → (move_at r m).dx ≡ (move_at r n).dx
      → (move_at r m).dy ≡ (move_at r n).dy → m ≡ n
  same_move m n l k p q =
      ⊎_elim (λ (lt : suc m ≤ n). absurd ((law n k).fresh m lt p q))
      (λ (ge : n < suc m).
      ⊎_elim (λ (lt : suc n ≤ m). absurd ((law m l).fresh n lt (sym p) (sym q))) (λ (le : m < suc n). omega arith)
      (le-or-lt (suc n) m))
      (le-or-lt (suc m) n)

  pub dirs-lawful : LawfulTable r.count (move_at r)
  dirs-lawful = record {
    low = λ m l. (law m l).cost_low;
    high = λ m l. (law m l).cost_high;
    distinct = same_move;
    opposite = opposite_of r;
    opposite_listed = λ m l. (law m l).opposite_listed;
    opposite_cost = λ m l. (law m l).opposite_cost;
    opposite_dx = λ m l. (law m l).opposite_dx;
    opposite_dy = λ m l. (law m l).opposite_dy;
  }

  -- Two moves of the same direction are the same move.
  pub same-dir : (m n : ℕ) → m < r.count → n < r.count → dir_at r m ≡ dir_at r n → m ≡ n
  same-dir m n l k p = same_move m n l k (ap (λ z. (dir_move z).dx) p) (ap (λ z. (dir_move z).dy) p)
