-- The masks of the moves that leave each vertex become those of the open moves: at each pinch in turn, the bits of the
-- moves that lead to it are cleared.
--
--   move-off, move-cleared    == `ClearsMove` of a move that leads off the floor, and of one that leads to a vertex
--   clears-none, clears-more  == `ClearsTo` of no moves, and of one move more
--   turned-twice, turned-xor  == opposite_of r (opposite_of r m) = m; the direction opposite to k is k xor 8
--   far-back                  == where a move leads from v to u, the opposite move leads from u to v
--   leads-all                 == the moves that lead from v to u, turned, are those that lead from u to v
--   cleared-none              == masks of the moves that leave each vertex are `Cleared` before vertex 0
--   cleared-skip, cleared-hit == `Cleared` past a vertex that is no pinch, with the same masks; and past one that is,
--                                once the moves to it are cleared
--   past_skip, past-hit       == `Cleared` one vertex past (x, y), where its mask marks no pinch, and where it marks
--                                one
--   cleared-all               == masks that are `Cleared` past the last vertex are those of the open moves
use Prim.Native.Nat.{ℕ, suc, ◌+◌, ◌≤◌, ◌<◌}
use mathlib.Core.Path.{◌≡◌, refl, sym, ap, ap₂, subst, ◌∙◌}
use mathlib.Core.Logic.{⊎_elim}
use mathlib.Core.Bool.{Bool, true, false, ◌&&◌, ◌||◌, not, and-true, and-false, true≢false}
use mathlib.Core.List.{List}
use mathlib.Core.Option.{Option, none, some}
use native.Mathlib.Omega.{arith}
use Rattle.std.proofs.lemmas.Bool.Decides.{nat_tests}
use borrow.Author.Tests.{lt-ltb, le-ltb, eq-eqb, ne_eqb, eqb-true}
use lib.Bits.{bit_xor}
use lib.Dec.{ltb, eqb}
use lib.ListN.{length, set, length-set, get_or}
use lib.Seq.{get_or-set_same, get_or-set_other}
use Rattle.basics.specs.Bounded.{every, any, bounded-opened}
use Rattle.basics.specs.Bits.{bit}
use Rattle.basics.proofs.Bools.{iff-eq, and_intro, and_left, and_right}
use Rattle.basics.proofs.Bounded.{every-at, any-cases, any-one}
use Rattle.basics.proofs.Options.{none-some}
use Rattle.basics.proofs.Order.{eq-or-ne}
use Rattle.floor.specs.Floor.{Floor, vertices, number, column, row}
use Rattle.floor.proofs.Numbers.{number_lt, number_of, column-le, column-number, row_number}
use Rattle.sight.specs.Sight.{Segment, segment, pinch, sees}
use Rattle.moves.specs.declared.Move.{Move}
use Rattle.moves.specs.declared.Directions.{Directions}
use Rattle.moves.specs.Moves.{dir_move, dir_at, move_at}
use Rattle.moves.specs.Steps.{shifted, then_at, far_end_at, end_if}
use Rattle.moves.proofs.Steps.{shifted-is}
use Rattle.moves.specs.Leaving.{leaves}
use Rattle.moves.specs.Table.{is_some, Listed, Within, opposite_of}
use Rattle.moves.proofs.Table.{LawfulMove, lawful-move, listed-lawful, each-listed}
use Rattle.moves.proofs.Steps.{goes_end}
use Rattle.moves.proofs.Opposites.{goes, goes_back}
use Rattle.moves.proofs.Leaving.{seen-far}
use Rattle.masks.specs.Masks.{dir_if, OpenMasks, pinch_bit, LeavingTo, cleared_to, Cleared}
use Rattle.masks.proofs.Windows.{dir-apart}
use Rattle.masks.specs.Masks.{WithoutBit, dir_end_at, leads_to, turned_dir, leads_back, ClearsMove, ClearsTo}

-- ---- where a direction leads

-- Where a direction leads is a vertex of the floor.
pub end-inside : (w h x y k u : ℕ) → dir_end_at w h x y k ≡ some u → u < vertices w h
unfolding far_end_at then_at
end-inside w h x y k u e = cases (shifted w x m.dx) (shifted h y m.dy) refl refl e
  where
    m : Move
    m = dir_move k

    cases : (a b : Option ℕ) → shifted w x m.dx ≡ a → shifted h y m.dy ≡ b
        → then_at a (λ i. then_at b (λ j. some (number w i j))) ≡ some u → u < vertices w h
    cases none b p q e = none-some e
    cases (some i) none p q e = none-some e
    cases (some i) (some j) p q e =
        let same : number w i j ≡ u = cc in
        rw (← same) (number_lt w h i j (shifted-is w x i m.dx p).inside (shifted-is h y j m.dy q).inside)

-- ---- one move, and all

module _ {w h x y m : ℕ} {r : Directions} {l : List ℕ} where
  pub move-off : dir_end_at w h x y (dir_at r m) ≡ none → ClearsMove w h r x y m l l
  unfolding leads_to
  move-off e = record { len = refl; at = λ u j i. sym (rw e (and-true (bit (get_or l u 0) j))) }

  pub move-cleared : {u n : ℕ} → dir_end_at w h x y (dir_at r m) ≡ some u → u < length l
      → WithoutBit (turned_dir r m) (get_or l u 0) n → ClearsMove w h r x y m l (set l u n)
  unfolding leads_to
  move-cleared {u} {n} e i W = record {
    len = length-set l u n;
    at = λ v j lv. ⊎_elim
        (λ (s : u ≡ v). rw (e, ← s, get_or-set_same l u n 0 i, eq-eqb u u refl) (W.at j))
        (λ (ne : u ≡ v → ⊥).
        rw (e, get_or-set_other l u v n 0 (λ q. ne (sym q)), ne_eqb u v ne)
        (sym (and-true (bit (get_or l v 0) j)))) (eq-or-ne u v);
  }

pub clears-none : {w h x y : ℕ} {r : Directions} {l : List ℕ} → ClearsTo w h r x y 0 l l
unfolding any
clears-none {l = l} = record { len = refl; at = λ u j i. sym (and-true (bit (get_or l u 0) j)) }

pub clears-more : {w h x y n : ℕ} {r : Directions} {l k t : List ℕ} → ClearsTo w h r x y n l k
    → ClearsMove w h r x y n k t
    → ClearsTo w h r x y (suc n) l t
unfolding any
clears-more {w} {h} {x} {y} {n} {r} {l} {k} {t} A B = record {
  len = B.len ∙ A.len;
  at = λ u j i.
      B.at u j (omega (arith, A.len)) ∙ ap (λ b. b && not (leads_back w h r x y u j n)) (A.at u j i)
      ∙ both (bit (get_or l u 0) j) (any n (leads_back w h r x y u j)) (leads_back w h r x y u j n);
}
  where
    both : (a b c : Bool) → ((a && not b) && not c) ≡ (a && not (b || c))
    both a b c = grind arith

-- ---- back again

-- The test that every segment passes.
abbrev anyway : Floor → Segment → Bool
anyway f s = true

end-anyway : (f : Floor) (m : Move) (x y : ℕ) → end_if anyway f m x y ≡ far_end_at f.wide f.high m x y
unfolding end_if then_at
end-anyway f m x y = cases (far_end_at f.wide f.high m x y)
  where
    cases : (o : Option ℕ) → then_at o (λ u. some u) ≡ o
    cases none = refl
    cases (some u) = refl

-- The opposite of the opposite is the move itself.
pub turned-twice : {r : Directions} → Listed r → (m : ℕ) → m < r.count → opposite_of r (opposite_of r m) ≡ m
unfolding bounded-opened
turned-twice {r} h m l =
    eqb-true _ _
    (every-at r.count (λ m. eqb (opposite_of r (opposite_of r m)) m)
    (each-listed (λ r. every r.count (λ m. eqb (opposite_of r (opposite_of r m)) m) ≡ true) refl refl refl h) m l)

-- The opposite of a direction is eight directions on or back.
pub turned-xor : {r : Directions} → Listed r → (m : ℕ) → m < r.count → bit_xor (dir_at r m) 8 ≡ turned_dir r m
unfolding bounded-opened
turned-xor {r} h m l =
    eqb-true _ _
    (every-at r.count (λ m. eqb (bit_xor (dir_at r m) 8) (turned_dir r m))
    (each-listed (λ r. every r.count (λ m. eqb (bit_xor (dir_at r m) 8) (turned_dir r m)) ≡ true) refl refl refl h) m l)

module _ (f : Floor) (r : Directions) (listed : Listed r) where
  abbrev W : ℕ
  W = f.wide

  abbrev H : ℕ
  H = f.high

  abbrev X : ℕ → ℕ
  X = column W

  abbrev Y : ℕ → ℕ
  Y = row W

  law : (m : ℕ) → m < r.count → LawfulMove r m
  law m l = lawful-move r m (listed-lawful listed) l

  abbrev end : ℕ → ℕ → Option ℕ
  end v k = dir_end_at W H (X v) (Y v) k

  far-back : (u v m : ℕ) → u < vertices W H → m < r.count → end u (dir_at r m) ≡ some v → end v (turned_dir r m) ≡ some u
  far-back u v m i l e =
      let g = goes anyway f (move_at r m) u v (end-anyway f (move_at r m) (X u) (Y u) ∙ e) in
      let back = move_at r (opposite_of r m) in
      sym (end-anyway f back (X v) (Y v))
      ∙ goes_end anyway f back (X v) (Y v) u (column-le W v)
      (goes_back anyway f (λ s. refl) (move_at r m) back u v i (law m l).opposite_dx (law m l).opposite_dy g)

  leads-is : (o : Option ℕ) (v : ℕ) → leads_to o v ≡ true → o ≡ some v
  unfolding leads_to
  leads-is none v e = absurd (true≢false (sym e))
  leads-is (some u) v e = ap some (eqb-true u v e)

  is-leads : (o : Option ℕ) (v : ℕ) → o ≡ some v → leads_to o v ≡ true
  unfolding leads_to
  is-leads o v e = rw e (eq-eqb v v refl)

  leads-all : (u v m : ℕ) → u < vertices W H → v < vertices W H → m < r.count
      → any r.count (leads_back W H r (X v) (Y v) u (dir_at r m)) ≡ leads_to (end u (dir_at r m)) v
  leads-all u v m i j l = iff-eq _ _
      (λ t.
      let c = any-cases r.count (leads_back W H r (X v) (Y v) u (dir_at r m)) t in
      let there = and_left (leads_to (end v (dir_at r c.0)) u) (eqb (turned_dir r c.0) (dir_at r m)) c.2 in
      let turned : turned_dir r c.0 ≡ dir_at r m =
      eqb-true _ _ (and_right (leads_to (end v (dir_at r c.0)) u) (eqb (turned_dir r c.0) (dir_at r m)) c.2) in
      is-leads (end u (dir_at r m)) v
      (rw turned at (far-back v u c.0 j c.1 (leads-is (end v (dir_at r c.0)) u there))))
      (λ t.
      any-one r.count (opposite_of r m) (leads_back W H r (X v) (Y v) u (dir_at r m)) (law m l).opposite_listed
      (and_intro _ _ (is-leads (end v (turned_dir r m)) u (far-back u v m i l (leads-is (end u (dir_at r m)) v t)))
      (eq-eqb _ _ (ap (dir_at r) (turned-twice listed m l)))))

  -- The bit of a pinch is not cleared.
  leads-none : (u v : ℕ) → any r.count (leads_back W H r (X v) (Y v) u pinch_bit) ≡ false
  leads-none u v = cases (any r.count (leads_back W H r (X v) (Y v) u pinch_bit)) refl
    where
      cases : (t : Bool) → any r.count (leads_back W H r (X v) (Y v) u pinch_bit) ≡ t → t ≡ false
      cases false e = refl
      cases true e =
          let c = any-cases r.count (leads_back W H r (X v) (Y v) u pinch_bit) e in
          let turned : turned_dir r c.0 ≡ pinch_bit =
          eqb-true _ _ (and_right (leads_to (end v (dir_at r c.0)) u) (eqb (turned_dir r c.0) pinch_bit) c.2) in
          absurd (dir-apart listed (opposite_of r c.0) (law c.0 c.1).opposite_listed turned)

  -- ---- past one vertex after the other

  abbrev holds : Bool → ℕ → Bool
  holds b w = is_some (elim b [ true ↦ some w | false ↦ none ])

  holds-is : (b : Bool) (w : ℕ) → holds b w ≡ b
  unfolding is_some
  holds-is true w = refl
  holds-is false w = refl

  -- A direction from vertex v, by its far end.
  dir-at : (S : Floor → Segment → Bool) (v k : ℕ) (o : Option ℕ) → end v k ≡ o
      → dir_if S f (X v) (Y v) k ≡ is_some (then_at o (λ w. elim (S f (segment W v w)) [ true ↦ some w | false ↦ none ]))
  unfolding end_if
  dir-at S v k o e = rw (e, number_of W v)

  dir-to : (S : Floor → Segment → Bool) (v k w : ℕ) → end v k ≡ some w → dir_if S f (X v) (Y v) k ≡ S f (segment W v w)
  unfolding then_at
  dir-to S v k w e = dir-at S v k (some w) e ∙ holds-is (S f (segment W v w)) w

  dir-nowhere : (S : Floor → Segment → Bool) (v k : ℕ) → end v k ≡ none → dir_if S f (X v) (Y v) k ≡ false
  unfolding then_at is_some
  dir-nowhere S v k e = dir-at S v k none e

  cleared-to : (t v w : ℕ)
      → cleared_to t f (segment W v w) ≡ (leaves f (segment W v w) && not (pinch f (X w) (Y w) && ltb w t))
  unfolding cleared_to segment
  cleared-to t v w = rw (number_of W w)

  -- Before vertex 0 no bit is cleared.
  pub cleared-none : {l : List ℕ} → LeavingTo f r (vertices W H) l → Cleared f r 0 l
  cleared-none {l} L = record {
    len = L.len;
    at = λ v i. record {
      at = λ m h. (L.at v i).dirs.at m h ∙ none_yet v (dir_at r m) (end v (dir_at r m)) refl;
    };
    mark = λ v i. (L.at v i).mark;
  }
    where
      none_yet : (v k : ℕ) (o : Option ℕ) → end v k ≡ o
          → dir_if leaves f (X v) (Y v) k ≡ dir_if (cleared_to 0) f (X v) (Y v) k
      none_yet v k none e = dir-nowhere leaves v k e ∙ sym (dir-nowhere (cleared_to 0) v k e)
      none_yet v k (some w) e =
          dir-to leaves v k w e
          ∙ sym (dir-to (cleared_to 0) v k w e ∙ cleared-to 0 v w
          ∙ rw (le-ltb w 0 (omega arith), and-false (pinch f (X w) (Y w))) (and-true (leaves f (segment W v w))))

  -- From before vertex v to past it: where v is a pinch, the moves to it are cleared.
  module _ (v : ℕ) where
    past : (b : Bool) (w : ℕ) → (pinch f (X v) (Y v) ≡ true)
        → ((b && not (pinch f (X w) (Y w) && ltb w v)) && not (eqb w v))
        ≡ (b && not (pinch f (X w) (Y w) && ltb w (suc v)))
    past b w p = ⊎_elim (λ (e : w ≡ v). rw (e, p) (grind (arith, nat_tests))) (λ (n : w ≡ v → ⊥). grind (arith, nat_tests))
        (eq-or-ne w v)

    dir-past : (u k : ℕ) → pinch f (X v) (Y v) ≡ true → (o : Option ℕ) → end u k ≡ o
        → (dir_if (cleared_to v) f (X u) (Y u) k && not (leads_to o v)) ≡ dir_if (cleared_to (suc v)) f (X u) (Y u) k
    unfolding leads_to
    dir-past u k p none e =
        ap (λ b. b && true) (dir-nowhere (cleared_to v) u k e) ∙ sym (dir-nowhere (cleared_to (suc v)) u k e)
    dir-past u k p (some w) e =
        ap (λ b. b && not (eqb w v)) (dir-to (cleared_to v) u k w e ∙ cleared-to v u w)
        ∙ past (leaves f (segment W u w)) w p ∙ sym (dir-to (cleared_to (suc v)) u k w e ∙ cleared-to (suc v) u w)

    pub cleared-hit : {q : Directions} {l l' : List ℕ} → Within q r → v < vertices W H → pinch f (X v) (Y v) ≡ true
        → Cleared f q v l → ClearsTo W H r (X v) (Y v) r.count l l' → Cleared f q (suc v) l'
    cleared-hit {q} {l} {l'} I j p C R = record {
      len = R.len ∙ C.len;
      at = λ u i. record {
        at = λ m h.
            let k = dir_at q m in
            let n = I.at m h in
            let all : any r.count (leads_back W H r (X v) (Y v) u k) ≡ leads_to (end u k) v =
            subst (λ k. any r.count (leads_back W H r (X v) (Y v) u k) ≡ leads_to (end u k) v) (sym n.2)
            (leads-all u v n.0 i j n.1) in
            R.at u k (omega (arith, C.len)) ∙ ap₂ (λ a b. a && not b) ((C.at u i).at m h) all
            ∙ dir-past u k p (end u k) refl;
      };
      mark = λ u i.
          R.at u pinch_bit (omega (arith, C.len))
          ∙ ap₂ (λ a b. a && not b) (C.mark u i) (leads-none u v)
          ∙ and-true (pinch f (X u) (Y u));
    }

    dir-same : (u k : ℕ) → pinch f (X v) (Y v) ≡ false → (o : Option ℕ) → end u k ≡ o
        → dir_if (cleared_to v) f (X u) (Y u) k ≡ dir_if (cleared_to (suc v)) f (X u) (Y u) k
    dir-same u k p none e = dir-nowhere (cleared_to v) u k e ∙ sym (dir-nowhere (cleared_to (suc v)) u k e)
    dir-same u k p (some w) e =
        dir-to (cleared_to v) u k w e ∙ cleared-to v u w
        ∙ ap (λ b. leaves f (segment W u w) && not b) (same w)
        ∙ sym (dir-to (cleared_to (suc v)) u k w e ∙ cleared-to (suc v) u w)
      where
        same : (w : ℕ) → (pinch f (X w) (Y w) && ltb w v) ≡ (pinch f (X w) (Y w) && ltb w (suc v))
        same w = ⊎_elim (λ (s : w ≡ v). rw (s, p)) (λ (n : w ≡ v → ⊥). grind (arith, nat_tests)) (eq-or-ne w v)

    pub cleared-skip : {q : Directions} {l : List ℕ} → pinch f (X v) (Y v) ≡ false → Cleared f q v l
        → Cleared f q (suc v) l
    cleared-skip {q} p C = record {
      len = C.len;
      at = λ u i. record { at = λ m h. (C.at u i).at m h ∙ dir-same u (dir_at q m) p (end u (dir_at q m)) refl };
      mark = C.mark;
    }

  -- From before the vertex (x, y) to past it, by the bit of its mask that marks a pinch.
  module _ (x y : ℕ) (on : x ≤ W) (in-y : y ≤ H) {q : Directions} (I : Within q r) {l : List ℕ}
      (C : Cleared f q (number W x y) l) where
    abbrev v : ℕ
    v = number W x y

    inside : v < vertices W H
    inside = number_lt W H x y on in-y

    is-pinch : bit (get_or l v 0) pinch_bit ≡ pinch f (X v) (Y v)
    is-pinch = C.mark v inside

    next : suc v ≡ number W (x + 1) y
    next = omega arith

    pub past_skip : bit (get_or l v 0) pinch_bit ≡ false → Cleared f q (number W (x + 1) y) l
    past_skip e = rw next at (cleared-skip v (sym is-pinch ∙ e) C)

    pub past-hit : {l' : List ℕ} → bit (get_or l v 0) pinch_bit ≡ true → ClearsTo W H r x y r.count l l'
        → Cleared f q (number W (x + 1) y) l'
    past-hit {l'} e R =
        rw next
        at (cleared-hit v {l' = l'} I inside (sym is-pinch ∙ e) C (rw (column-number W x y on, row_number W x y on) R))

  pub cleared-all : {t : ℕ} {l : List ℕ} → vertices W H ≤ t → Cleared f r t l → OpenMasks f r l
  cleared-all {t} {l} all C = record {
    len = C.len;
    at = λ v i. record { at = λ m h. (C.at v i).at m h ∙ open-dir v m i h (end v (dir_at r m)) refl };
  }
    where
      open-dir : (v m : ℕ) → v < vertices W H → m < r.count → (o : Option ℕ) → end v (dir_at r m) ≡ o
          → dir_if (cleared_to t) f (X v) (Y v) (dir_at r m) ≡ dir_if sees f (X v) (Y v) (dir_at r m)
      open-dir v m i h none e = dir-nowhere (cleared_to t) v (dir_at r m) e ∙ sym (dir-nowhere sees v (dir_at r m) e)
      open-dir v m i h (some w) e =
          let k = dir_at r m in
          let g = goes anyway f (dir_move k) v w (end-anyway f (dir_move k) (X v) (Y v) ∙ e) in
          let below = end-inside W H (X v) (Y v) k w e in
          dir-to (cleared_to t) v k w e ∙ cleared-to t v w
          ∙ rw (lt-ltb w t (omega arith), and-true (pinch f (X w) (Y w)))
          (sym (dir-to sees v k w e ∙ seen-far f (dir_move k) (law m h).is_short (law m h).is_narrow v i anyway w g))
