-- The far end of a move: one coordinate, both, the vertex, and the far end of a move that passes a test.
--
--   shifted_at, shifted-is              == `shifted n a d` is some b exactly where b = a + d is from 0 to n
--   shifted-span                        == where `shifted n a d` is some b, the span from a to b is nat_abs d
--   off-column, off_row                 == a move leads off the floor where either coordinate does
--   reaches-on                          == the spot that a move reaches is on the floor
--   far-spot                            == the column and the row of the vertex that a move leads to
--   offsets-end                         == where a move leads is told by its offsets alone
--   step-none, step-some                == a step off the floor, and one to a vertex, by the far end
--   Goes S f m x y w                    == move m leads from (x, y) to vertex w of the floor, and S holds of the
--                                          segment between them
--   end_goes, goes_end                  == `end_if S f m x y` is some w exactly where `Goes S f m x y w`
--   end-if, end-past                    == `end_if` is the far end where S holds of the segment; it is none where the
--                                          move leaves the floor
--   end-off, end-there                  == whether `end_if` is there, for a move that leads off the floor, and for one
--                                          that leads to a vertex of it
use Prim.Native.Nat.{ℕ, ◌+◌, ◌-◌, ◌≤◌}
use mathlib.Core.Path.{◌≡◌, refl, sym, ap, ◌∙◌}
use mathlib.Core.Bool.{Bool, true, false, ◌&&◌}
use mathlib.Core.Option.{Option, none, some}
use native.Mathlib.Omega.{arith}
use borrow.Author.Tests.{le-leb, leb-true}
use lib.Dec.{leb}
use lib.IntN.{ℤ, pos, negsuc, nat_abs}
use Rattle.std.proofs.Common.{Some, None}
use Rattle.basics.proofs.Options.{none-some, some_same}
use Rattle.floor.specs.declared.Vertex.{Vertex}
use Rattle.floor.specs.Floor.{Floor, number, column, row}
use Rattle.floor.proofs.Numbers.{column-number, row_number}
use Rattle.sight.specs.Sight.{Segment, segment, segment_of}
use Rattle.sight.specs.Obstacle.{span}
use Rattle.sight.proofs.Travel.{span-up, span-down}
use Rattle.moves.specs.declared.Move.{Move}
use Rattle.moves.specs.Moves.{move_of}
use Rattle.moves.specs.Steps.{up, down, shifted, then_at, far_end_at, end_if, step_of}
use Rattle.moves.specs.Table.{is_some, OnFloor, Reaches, place_of}

-- ---- one coordinate

pub shifted_at : (n a b : ℕ) (d : ℤ) → b + down d ≡ a + up d → b ≤ n → shifted n a d ≡ some b
unfolding shifted
shifted_at n a b d e h =
    let q : a + up d - down d ≡ b = omega arith in
    rw (le-leb (down d) (a + up d) (omega arith), le-leb (a + up d) (n + down d) (omega arith), q, shifted)

pub record Shifted (n a b : ℕ) (d : ℤ) : Type 0 where
  pub moved : b + down d ≡ a + up d
  pub inside : b ≤ n

pub shifted-is : (n a b : ℕ) (d : ℤ) → shifted n a d ≡ some b → Shifted n a b d
unfolding shifted
shifted-is n a b d e = cases (leb (down d) (a + up d)) (leb (a + up d) (n + down d)) refl refl e
  where
    cases : (p q : Bool) → leb (down d) (a + up d) ≡ p → leb (a + up d) (n + down d) ≡ q
        → ◌≡◌ {A = Option ℕ} (elim (p && q) [ true ↦ some (a + up d - down d) | false ↦ none ]) (some b)
        → Shifted n a b d
    cases true true p q h =
        let s : a + up d - down d ≡ b = some_same h in
        let low = leb-true (down d) (a + up d) p in
        let high = leb-true (a + up d) (n + down d) q in
        record { moved = omega arith; inside = omega arith }
    cases true false p q h = none-some h
    cases false q p r h = none-some h

-- The span between a and its far line is the length of the offset.
pub shifted-span : (n a b : ℕ) (d : ℤ) → shifted n a d ≡ some b → nat_abs d ≡ span a b
unfolding up down
shifted-span n a b (pos k) e =
    let s = shifted-is n a b (pos k) e in
    omega (arith, span-up a b (omega arith))
shifted-span n a b (negsuc k) e =
    let s = shifted-is n a b (negsuc k) e in
    omega (arith, span-down a b (omega arith))

-- One coordinate as the code answers it.
pub place-there : (o : Option ℕ) (i : ℕ) → place_of o ≡ Some i → o ≡ some i
unfolding place_of
place-there none i e = cc
place-there (some k) i e = let z : k ≡ i = cc in ap some z

pub place_inside : (n a b : ℕ) (d : ℤ) → Some b ≡ place_of (shifted n a d) → b ≤ n
place_inside n a b d e = (shifted-is n a b d (place-there (shifted n a d) b (sym e))).inside

-- ---- the vertex

module _ (w h x y : ℕ) (m : Move) where
  pub off-column : shifted w x m.dx ≡ none → far_end_at w h m x y ≡ none
  unfolding far_end_at then_at
  off-column e = rw e

  pub off_row : shifted h y m.dy ≡ none → far_end_at w h m x y ≡ none
  unfolding far_end_at then_at
  off_row e = cases (shifted w x m.dx)
    where
      cases : (a : Option ℕ) → then_at a (λ i. then_at (shifted h y m.dy) (λ j. some (number w i j))) ≡ none
      cases none = refl
      cases (some i) = rw e

pub reaches-on : {w h x y i j : ℕ} {m : Move} → OnFloor w h x y → Reaches w h m x y i j → OnFloor w h i j
reaches-on {w} {h} {x} {y} {i} {j} {m} o r = record {
  wide = o.wide;
  high = o.high;
  column = (shifted-is w x i m.dx r.columns).inside;
  row = (shifted-is h y j m.dy r.rows).inside;
}

pub reaches-far : {w h x y i j : ℕ} {m : Move} → Reaches w h m x y i j → far_end_at w h m x y ≡ some (number w i j)
unfolding far_end_at then_at
reaches-far {w} {h} {x} {y} {i} {j} {m} r = rw (r.columns, r.rows)

pub far-spot : (w h x y v : ℕ) (m : Move) → far_end_at w h m x y ≡ some v
    → Reaches w h m x y (column w v) (row w v)
far-spot w h x y v m e = spot (shifted w x m.dx) (shifted h y m.dy) refl refl
  where
    spot : (a b : Option ℕ) → shifted w x m.dx ≡ a → shifted h y m.dy ≡ b
        → Reaches w h m x y (column w v) (row w v)
    spot none b p q = none-some (sym (off-column w h x y m p) ∙ e)
    spot (some i) none p q = none-some (sym (off_row w h x y m q) ∙ e)
    spot (some i) (some j) p q =
        let n : number w i j ≡ v = some_same (sym (reaches-far (record { columns = p; rows = q })) ∙ e) in
        let on = (shifted-is w x i m.dx p).inside in
        record {
          columns = p ∙ ap some (sym (column-number w i j on) ∙ ap (column w) n);
          rows = q ∙ ap some (sym (row_number w i j on) ∙ ap (row w) n);
        }

pub offsets-end : (w h x y : ℕ) (m : Move) → far_end_at w h (move_of m.dx m.dy 0) x y ≡ far_end_at w h m x y
unfolding far_end_at
offsets-end w h x y m = refl

pub step-none : (o : Option ℕ) → step_of o ≡ None → o ≡ none
unfolding step_of
step-none none e = refl
step-none (some w) e = cc

pub step-some : (o : Option ℕ) (v : Vertex) → step_of o ≡ Some v → o ≡ some v.0
unfolding step_of
step-some none v e = cc
step-some (some u) v e = let q : ◌≡◌ {A = Vertex} (record { 0 = u }) v = cc in ap (λ (x : Vertex). some x.0) q

-- ---- where a test S holds of the segment: `sees` for an open move

abbrev pub when_held : Bool → ℕ → Option ℕ
when_held b w = elim b [ true ↦ some w | false ↦ none ]

module _ (S : Floor → Segment → Bool) (f : Floor) (m : Move) (x y : ℕ) where
  pub end-past : far_end_at f.wide f.high m x y ≡ none → end_if S f m x y ≡ none
  unfolding end_if then_at
  end-past e = rw e

  module _ (i j : ℕ) (on : x ≤ f.wide) (r : Reaches f.wide f.high m x y i j) where
    -- The segment by its two vertex numbers is the one by their columns and rows.
    segment-is : segment f.wide (number f.wide x y) (number f.wide i j) ≡ segment_of x y i j
    unfolding segment
    segment-is =
        let h = (shifted-is f.wide x i m.dx r.columns).inside in
        rw (
          column-number f.wide x y on,
          row_number f.wide x y on,
          column-number f.wide i j h,
          row_number f.wide i j h,
        )

    pub end-if : end_if S f m x y ≡ when_held (S f (segment_of x y i j)) (number f.wide i j)
    unfolding end_if then_at
    end-if =
        ap (λ o. then_at o (λ w. when_held (S f (segment f.wide (number f.wide x y) w)) w)) (reaches-far r)
        ∙ ap (λ s. when_held (S f s) (number f.wide i j)) segment-is

-- What the code answers for a move.
module _ (S : Floor → Segment → Bool) (f : Floor) (m : Move) (x y : ℕ) where
  -- Where the code finds the move to lead off the floor, `end_if` is not there. The proofs go without it; docs name it.
  pub end-off : step_of (far_end_at f.wide f.high m x y) ≡ None → false ≡ is_some (end_if S f m x y)
  unfolding end_if then_at is_some
  end-off e = rw (step-none (far_end_at f.wide f.high m x y) e)

  module _ (i j : ℕ) (on : x ≤ f.wide) (r : Reaches f.wide f.high m x y i j) where
    pub end-there : S f (segment_of x y i j) ≡ is_some (end_if S f m x y)
    unfolding is_some
    end-there =
        held-some (S f (segment_of x y i j)) (number f.wide i j) ∙ ap is_some (sym (end-if S f m x y i j on r))
      where
        held-some : (b : Bool) (w : ℕ) → b ≡ is_some (when_held b w)
        held-some true w = refl
        held-some false w = refl

pub record Goes (S : Floor → Segment → Bool) (f : Floor) (m : Move) (x y w : ℕ) : Type 0 where
  pub i : ℕ
  pub j : ℕ
  pub columns : Shifted f.wide x i m.dx
  pub rows : Shifted f.high y j m.dy
  pub vertex : w ≡ number f.wide i j
  pub held : S f (segment_of x y i j) ≡ true

module _ (S : Floor → Segment → Bool) (f : Floor) (m : Move) (x y w : ℕ) (on : x ≤ f.wide) where
  pub goes_end : Goes S f m x y w → end_if S f m x y ≡ some w
  goes_end g =
      let r : Reaches f.wide f.high m x y g.i g.j = record {
        columns = shifted_at f.wide x g.i m.dx g.columns.moved g.columns.inside;
        rows = shifted_at f.high y g.j m.dy g.rows.moved g.rows.inside;
      } in
      end-if S f m x y g.i g.j on r ∙ ap (λ b. when_held b (number f.wide g.i g.j)) g.held
      ∙ ap some (sym g.vertex)

  pub end_goes : end_if S f m x y ≡ some w → Goes S f m x y w
  end_goes e = spot (shifted f.wide x m.dx) (shifted f.high y m.dy) refl refl
    where
      held : (i j : ℕ) → shifted f.wide x m.dx ≡ some i → shifted f.high y m.dy ≡ some j
          → (b : Bool) → S f (segment_of x y i j) ≡ b → when_held b (number f.wide i j) ≡ some w → Goes S f m x y w
      held i j p q true s h = record {
        i = i;
        j = j;
        columns = shifted-is f.wide x i m.dx p;
        rows = shifted-is f.high y j m.dy q;
        vertex = sym (some_same h);
        held = s;
      }
      held i j p q false s h = none-some h

      spot : (a b : Option ℕ) → shifted f.wide x m.dx ≡ a → shifted f.high y m.dy ≡ b → Goes S f m x y w
      spot none b p q = none-some (sym (end-past S f m x y (off-column f.wide f.high x y m p)) ∙ e)
      spot (some i) none p q = none-some (sym (end-past S f m x y (off_row f.wide f.high x y m q)) ∙ e)
      spot (some i) (some j) p q =
          held i j p q (S f (segment_of x y i j)) refl
          (sym (end-if S f m x y i j on (record { columns = p; rows = q })) ∙ e)
