-- The loop over the cells: how the two counts and the numbers listed change with each cell. x says whether the cell is
-- blocked on the first floor, y whether on the second.
--
--   noted-none      == before the first cell nothing is noted
--   noted-room      == closed + opened is at most the number of cells noted, so there is a place for the next number
--   noted-same      == noting a cell that is the same on both floors
--   noted-closed    == noting a cell that closed
--   noted-opened    == noting a cell that opened
--   noted-tally     == once all cells are noted, the counts are those of the report
--   noted-listed    == once all cells are noted, the numbers listed are those of the report
use Prim.Native.Nat.{ℕ, ◌+◌, ◌-◌, ◌*◌, ◌≤◌, ◌<◌}
use mathlib.Core.Path.{◌≡◌, refl, sym, ap, ap₂, ◌∙◌, fun_ext}
use mathlib.Core.Bool.{Bool, true, false, ◌&&◌, ◌||◌, not, beq}
use mathlib.Core.List.{List, [], ◌∷◌, ◌++◌, append-nil}
use native.Mathlib.Omega.{arith}
use lib.ListN.{length, set, length-replicate, length-set}
use Rattle.basics.specs.Bounded.{pick, sum, count}
use Rattle.basics.specs.Lists.{padded, zeros, chosen}
use Rattle.basics.proofs.Counting.{count-le, count_next, count-or, chosen-next, length-chosen}
use Rattle.basics.proofs.Lists.{padded-more}
use Rattle.floor.specs.Floor.{bit_at}
use Rattle.floor.proofs.Maps.{cell-numbered}
use Rattle.changes.specs.Changes.{GivenFloor, floor_in, closes, opens, differing, tally, tally_of}
use Rattle.changes.specs.Known.{closes_bit, opens_bit, differs_bit, MapsOf, Noted}
use Rattle.changes.specs.declared.Tally.{Tally}
use Rattle.changes.proofs.Cell.{apart, beq_same, same-neither, other-closes, other-opens}

-- ---- the tests by the bits

record Became (map map' : List ℕ) (c : ℕ) (x y : Bool) : Type 0 where
  closes : closes_bit map map' c ≡ (not x && y)
  opens : opens_bit map map' c ≡ (x && not y)

became : {map map' : List ℕ} {c : ℕ} {x y : Bool} → x ≡ bit_at map c → y ≡ bit_at map' c → Became map map' c x y
unfolding closes_bit opens_bit
became e e' = record { closes = rw (e, e'); opens = rw (e, e') }

-- ---- one cell more

pub noted-none : {map map' : List ℕ} {n : ℕ} → MapsOf map map' n → Noted map map' n 0 (tally 0 0) (zeros n)
unfolding padded chosen sum
noted-none {n = n} m =
    let e : n - 0 ≡ n = omega arith in
    record {
      maps = m;
      len = length-replicate n 0;
      within = omega arith;
      closed = refl;
      opened = refl;
      listed = ap zeros (sym e);
    }

module _ {map map' : List ℕ} {n k : ℕ} {t : Tally} {l : List ℕ} (N : Noted map map' n k t l) where
  abbrev numbers : List ℕ
  numbers = chosen k (differs_bit map map')

  never_both : (c : ℕ) → (closes_bit map map' c && opens_bit map map' c) ≡ false
  unfolding closes_bit opens_bit
  never_both c = apart (bit_at map c) (bit_at map' c)

  numbers-length : length numbers ≡ t.closed + t.opened
  numbers-length =
      length-chosen k (differs_bit map map')
      ∙ count-or k (closes_bit map map') (opens_bit map map') (λ c i. never_both c)
      ∙ sym (ap₂ ◌+◌ N.closed N.opened)

  pub noted-room : t.closed + t.opened ≤ k
  noted-room =
      omega (arith, numbers-length, length-chosen k (differs_bit map map'), count-le k (differs_bit map map'))

  module _ (inside : k < n) {x y : Bool} (first : x ≡ bit_at map k) (second : y ≡ bit_at map' k) where
    -- Noting cell k, where c says whether it closes and o whether it opens.
    noted_more : {c o : Bool} {t' : Tally} {l' : List ℕ} → (not x && y) ≡ c → (x && not y) ≡ o
        → t'.closed ≡ t.closed + pick c 1 0 → t'.opened ≡ t.opened + pick o 1 0
        → length l' ≡ n → l' ≡ padded n (numbers ++ pick (c || o) (k ∷ []) []) → Noted map map' n (k + 1) t' l'
    noted_more e e' closed opened len listed =
        let b : Became map map' k x y = became first second in
        let closes = b.closes ∙ e in
        let opens = b.opens ∙ e' in
        record {
          maps = N.maps;
          len = len;
          within = omega arith;
          closed = closed ∙ sym (rw (count_next k (closes_bit map map'), closes, N.closed));
          opened = opened ∙ sym (rw (count_next k (opens_bit map map'), opens, N.opened));
          listed = listed ∙ sym (rw (chosen-next k (differs_bit map map'), ap₂ ◌||◌ closes opens));
        }

    pub noted-same : beq x y ≡ true → Noted map map' n (k + 1) t l
    noted-same e =
        let b = same-neither x y (beq_same x y e) in
        noted_more b.0 b.1 (omega arith) (omega arith) N.len
        (N.listed ∙ ap (padded n) (sym (append-nil numbers)))

    stored : set l (t.closed + t.opened) k ≡ padded n (numbers ++ k ∷ [])
    stored =
        ap₂ (λ s (m : ℕ). set s m k) N.listed (sym numbers-length)
        ∙ padded-more n k numbers (omega (arith, numbers-length, noted-room))

    stored-length : length (set l (t.closed + t.opened) k) ≡ n
    stored-length = simp length-set N.len

    pub noted-closed : beq x y ≡ false → y ≡ true
        → Noted map map' n (k + 1) (tally (t.closed + 1) t.opened) (set l (t.closed + t.opened) k)
    noted-closed e i =
        let b = other-closes x y e i in noted_more b.0 b.1 refl (omega arith) stored-length stored

    pub noted-opened : beq x y ≡ false → y ≡ false
        → Noted map map' n (k + 1) (tally t.closed (t.opened + 1)) (set l (t.closed + t.opened) k)
    noted-opened e i =
        let b = other-opens x y e i in noted_more b.0 b.1 (omega arith) refl stored-length stored

-- ---- all cells

module _ (p q : GivenFloor) where
  closes-is : closes_bit p.map q.map ≡ closes (floor_in p) (floor_in q)
  unfolding closes_bit
  closes-is =
      fun_ext (λ c. ap₂ (λ x y. not x && y) (cell-numbered p.wide p.high p.map c)
      (cell-numbered q.wide q.high q.map c))

  opens-is : opens_bit p.map q.map ≡ opens (floor_in p) (floor_in q)
  unfolding opens_bit
  opens-is =
      fun_ext (λ c. ap₂ (λ x y. x && not y) (cell-numbered p.wide p.high p.map c)
      (cell-numbered q.wide q.high q.map c))

  module _ {n : ℕ} {t : Tally} {l : List ℕ} (size : n ≡ p.wide * p.high) (N : Noted p.map q.map n n t l) where
    pub noted-tally : t ≡ tally_of (floor_in p) (floor_in q)
    unfolding tally_of
    noted-tally =
        ap₂ tally (N.closed ∙ ap₂ (λ (m : ℕ) r. count m r) size closes-is)
        (N.opened ∙ ap₂ (λ (m : ℕ) r. count m r) size opens-is)

    pub noted-listed : l ≡ padded n (differing (floor_in p) (floor_in q))
    unfolding differing
    noted-listed =
        N.listed
        ∙ ap₂ (λ r (m : ℕ). padded n (chosen m r)) (ap₂ (λ r s (c : ℕ). r c || s c) closes-is opens-is) size
