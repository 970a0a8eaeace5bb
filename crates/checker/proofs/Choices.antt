-- The test of the next vertices as the code runs it: vertex by vertex and row by row.
--
--   next_off, next-goal, next-to  == `right_next` is the code's test off the way, at b, and elsewhere on the way
--   next-row-blank                == in a row with no vertex on the way, `next_row_test` asks for zeros
--   nexts-rows                    == nexts_test g b s is next_row_test g b s w y for every row y
--   next-choosing                 == the numbers of the vertex in column x have the form that choosing needs
--   next-leads                    == a move leads on from the vertex in column x, where it is on the way before b
--   next-column                   == the code's test of the vertex in column x is `next_column_test`
use Prim.Native.Nat.{ℕ, suc, ◌+◌, ◌-◌, ◌*◌, ◌≤◌, ◌<◌}
use mathlib.Core.Path.{◌≡◌, sym, ◌∙◌}
use mathlib.Core.Bool.{Bool, true, false}
use mathlib.Core.Logic.{◌↔◌}
use mathlib.Core.List.{List}
use mathlib.Core.Option.{some}
use native.Mathlib.Omega.{arith}
use borrow.Author.Tests.{eq-eqb, ne_eqb, eqb-true}
use lib.Dec.{eqb}
use lib.ListN.{length}
use Rattle.basics.specs.Bounded.{every}
use Rattle.basics.proofs.Bools.{iff-eq}
use Rattle.basics.proofs.Bounded.{every-all, every-at, every-rows}
use Rattle.floor.specs.Floor.{floor_of, vertices, number}
use Rattle.floor.proofs.Numbers.{number_lt}
use Rattle.moves.specs.declared.Directions.{Directions}
use Rattle.moves.specs.Table.{OnFloor}
use Rattle.masks.specs.Masks.{Leaving}
use Rattle.offsets.specs.Offsets.{Shifts}
use Rattle.paths.specs.Graph.{Graph}
use Rattle.paths.specs.Route.{on_shortest}
use Rattle.paths.specs.Sheet.{Sheet}
use Rattle.paths.specs.Local.{is-there, entry, local_on, local_next, right_next}
use Rattle.grid.specs.Grid.{floor_graph}
use Rattle.grid.specs.Leaving.{leaving_graph}
use Rattle.neighbours.specs.Reading.{mask_graph}
use Rattle.neighbours.specs.Choice.{Choosing, OffWay, next_of, LeadsBy}
use Rattle.neighbours.proofs.Agree.{Agrees}
use Rattle.checker.specs.Tests.{nexts_test, next_column_test, next_row_test, Zeros, Choosable}
use Rattle.checker.proofs.CheckInput.{input-agrees}
use Rattle.checker.proofs.Passes.{column-readable, column-mask}
use Rattle.checker.proofs.Leaving.{leads-leaving, right-leaving}

-- ---- one vertex

module _ (dirs : Directions) (shifts : List ℕ) (mask b : ℕ) (s : Sheet) (v x : ℕ) (is : x ≡ entry s.next v) where
  abbrev graph : Graph
  graph = mask_graph (length s.d) dirs shifts mask

  module _ {o : Bool} (on : o ≡ on_shortest (entry s.d) (entry s.e) b v) where
    pub next_off : o ≡ false → eqb x 0 ≡ right_next graph b s v
    unfolding right_next local_on
    next_off t = rw (sym on ∙ t, is)

    module _ (t : o ≡ true) where
      way : on_shortest (entry s.d) (entry s.e) b v ≡ true
      way = sym on ∙ t

      pub next-goal : v ≡ b → eqb x b ≡ right_next graph b s v
      unfolding right_next local_on
      next-goal q = rw (way, eq-eqb v b q, is)

      pub next-to : (v ≡ b → ⊥) → (w : ℕ) → next_of dirs shifts mask s.d s.e s.f s.b b v ≡ some w
          → eqb x w ≡ right_next graph b s v
      unfolding right_next local_on local_next is-there
      next-to ne w there = rw (way, ne_eqb v b ne, there, is)

-- ---- row by row

pub next-row-blank : (g : Graph) (b : ℕ) (s : Sheet) (w y : ℕ) {i j : ℕ} → i ≡ y * suc w → j ≡ i + suc w
    → OffWay s.d s.e b i j → (k : Bool) → (k ≡ true) ↔ Zeros s.next i j → k ≡ next_row_test g b s w y
unfolding right_next local_on
next-row-blank g b s w y {i} {j} p q off k zeros = iff-eq k (next_row_test g b s w y)
    (λ t. every-all (suc w) (next_column_test g b s w y) (λ x l.
    blank x l ∙ eq-eqb (entry s.next (number w x y)) 0 ((zeros.0 t).at (number w x y) (from x) (within x l))))
    (λ t. zeros.1 (record {
      at = λ v ge lt.
          let e : v ≡ number w (v - i) y = omega arith in
          rw e (eqb-true (entry s.next (number w (v - i) y)) 0
          (sym (blank (v - i) (omega arith))
          ∙ every-at (suc w) (next_column_test g b s w y) t (v - i) (omega arith)));
    }))
  where
    from : (x : ℕ) → i ≤ number w x y
    from x = omega arith

    within : (x : ℕ) → x < suc w → number w x y < j
    within x l = omega arith

    blank : (x : ℕ) → x < suc w → next_column_test g b s w y x ≡ eqb (entry s.next (number w x y)) 0
    blank x l = rw (off.at (number w x y) (from x) (within x l))

pub nexts-rows : (w h : ℕ) (l : List ℕ) (r : Directions) (b : ℕ) (s : Sheet)
    → let g = floor_graph (floor_of w h l) r in every (suc h) (next_row_test g b s w) ≡ nexts_test g b s
unfolding nexts_test
nexts-rows w h l r b s = sym (every-rows (suc h) (suc w) (right_next (floor_graph (floor_of w h l) r) b s))

module _ {w h : ℕ} {l : List ℕ} {r : Directions} {b : ℕ} {s : Sheet} (p : Choosable w h l r b s) {m : List ℕ}
    (S : Shifts w r m) {x y mask v : ℕ} (o : OnFloor w h x y) (k : Leaving (floor_of w h l) r x y mask)
    (numbered : v ≡ number w x y) where
  abbrev g : Graph
  g = floor_graph (floor_of w h l) r

  pub next-choosing : Choosing r m mask s.d s.e b v
  next-choosing = record {
    readable = column-readable p.input S o k numbered;
    goal_in = omega (arith, p.input.job.goal_in, p.input.shape.d);
    e_len = p.input.shape.e ∙ sym p.input.shape.d;
  }

  inside : number w x y < vertices w h
  inside = number_lt w h x y o.column o.row

  agrees : Agrees (mask_graph (length s.d) r m mask) (leaving_graph (floor_of w h l) r) (number w x y)
  agrees = input-agrees p.input S inside (column-mask p.input S o k numbered)

  pub next-leads : LeadsBy r m mask s.d s.e s.f s.b b v
  next-leads =
      rw numbered (leads-leaving p.input.job s p.pinches p.reached inside agrees (p.leads (number w x y) inside))

  pub next-column : {t : Bool} → t ≡ right_next (mask_graph (length s.d) r m mask) b s v
      → t ≡ next_column_test g b s w y x
  next-column is = rw numbered at is ∙ right-leaving p.input.job s p.pinches p.reached inside agrees
