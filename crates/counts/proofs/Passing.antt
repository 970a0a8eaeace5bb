-- One turn of a counting pass: the vertex gets its count, since the cheaper vertices on the way have theirs.
--
--   count-one             == `count_of` at the start is 1
--   count-sum             == `count_of` at every other vertex is the sum that the code finds
--   Tallied g s x i P f   == the vertices of the first i turns have their counts from s, and off the way stands 0
--   counted_none          == `Tallied` at turn 0
--   count-right           == where `Tallied` holds at turn i, `count_of` gives the count of the vertex of that turn
--   counted-more          == `Tallied` at turn i + 1, once the count of the vertex of turn i is stored
--   count-over            == where a count is 2^64 or more, so is the total
--   counted-all           == after the last turn f holds the counts
--   Turning ..            == `Tallied` at turn i, for every graph and goal of which the pass is `Passable`
--   turn-start, turn_more == `Turning` at the start, and at the next turn
--   turn-over             == `Summed` where the count of a turn does not fit
--   turn_end              == `Summed` after the last turn
--   turn-len              == the slice keeps its length
use Prim.Native.Nat.{ℕ, suc, ◌+◌, ◌^◌, ◌≤◌, ◌<◌}
use mathlib.Core.Path.{◌≡◌, refl, sym, ap, ◌∙◌, subst}
use mathlib.Core.Logic.{⊎_elim}
use mathlib.Core.Bool.{Bool, true, false, true≢false}
use mathlib.Core.List.{List}
use native.Mathlib.Omega.{arith}
use lib.ListN.{length, set, length-set, length-replicate}
use lib.Seq.{get_or-set_same, get_or-set_other}
use Rattle.std.specs.Prelude.{Option, Some, None}
use Rattle.basics.specs.Lists.{tabulate, zeros}
use Rattle.basics.proofs.Order.{le-or-lt, eq-or-ne}
use Rattle.basics.proofs.Bools.{true-or-false}
use Rattle.basics.proofs.Bounded.{pick_yes}
use Rattle.basics.proofs.Lists.{tabulate-of, get_or-zeros}
use Rattle.paths.specs.Graph.{Graph}
use Rattle.paths.specs.Distance.{distance, path_count}
use Rattle.paths.specs.Route.{on_way, count_from}
use Rattle.paths.specs.Local.{inflow, count_at, entry}
use Rattle.paths.proofs.Counts.{path_count-self}
use Rattle.paths.proofs.Way.{count_from-way, count_from-off, count_from-fits}
use Rattle.paths.proofs.CountTest.{way-closed, count_at-start, count_at-other, count_next}
use Rattle.moves.specs.declared.Directions.{Directions}
use Rattle.neighbours.specs.Reading.{mask_graph, sum_of}
use Rattle.neighbours.proofs.Agree.{count_at-agrees}
use Rattle.neighbours.proofs.Sums.{sum_of-fits, sum_of-is, sum_of-passes}
use Rattle.workspace.specs.Regions.{mask_at}
use Rattle.counts.specs.Passes.{turn_of, count_of, Passable, Summed}
use Rattle.counts.proofs.Sequence.{costs_len, costs-at, agrees, turn-before}

-- ---- the count of one vertex

abbrev all : ℕ → Bool
all v = true

module _ (dirs : Directions) (shifts : List ℕ) (mask s : ℕ) (d f : List ℕ) (u : ℕ) where
  abbrev maskGraph-here : Graph
  maskGraph-here = mask_graph (length d) dirs shifts mask

  pub count-one : u ≡ s → Some 1 ≡ sum_of (count_of dirs shifts mask s d f u)
  count-one q =
      let at : count_of dirs shifts mask s d f u ≡ 1
      = ap (count_of dirs shifts mask s d f) q ∙ count_at-start maskGraph-here s all (entry d) (entry f) refl in
      rw at (sum_of-fits 1 (omega arith))

  pub count-sum : (u ≡ s → ⊥) → (r : Option ℕ) → r ≡ sum_of (inflow maskGraph-here (entry d) (entry f) u)
      → r ≡ sum_of (count_of dirs shifts mask s d f u)
  count-sum ne r q = q ∙ ap sum_of (sym (count_at-other maskGraph-here s all (entry d) (entry f) u refl ne))

-- At a vertex on the way `count_at` does not depend on which other vertices are.
count-all : (g : Graph) (s : ℕ) (on : ℕ → Bool) (D F : ℕ → ℕ) (u : ℕ) → on u ≡ true
    → count_at g s all D F u ≡ count_at g s on D F u
unfolding count_at
count-all g s on D F u o = sym (pick_yes (on u) _ 0 o)

-- ---- the counts so far

pub record Tallied (g : Graph) (s x i : ℕ) (P : ℕ → ℕ) (f : List ℕ) : Type 0 where
  pub len : length f ≡ g.size
  pub done : (j : ℕ) → j < i → entry f (P j) ≡ count_from g s x (P j)
  pub off : (u : ℕ) → u < g.size → on_way g s x u ≡ false → entry f u ≡ 0

pub counted_none : (g : Graph) (s x : ℕ) (P : ℕ → ℕ) (f : List ℕ) → f ≡ zeros g.size → Tallied g s x 0 P f
counted_none g s x P f e = record {
  len = ap length e ∙ length-replicate g.size 0;
  done = λ j l. absurd (omega arith);
  off = λ u i o. ap (λ l. entry l u) e ∙ get_or-zeros g.size u;
}

module _ {g : Graph} {dirs : Directions} {shifts : List ℕ} {s x n : ℕ} {rev : Bool} {d work : List ℕ}
    (K : Passable g dirs shifts s x n rev d work) where
  abbrev P : ℕ → ℕ
  P = turn_of work n rev

  abbrev on : ℕ → Bool
  on = on_way g s x

  module _ {i : ℕ} {f : List ℕ} (l : i < n) (C : Tallied g s x i P f) where
    abbrev u : ℕ
    u = P i

    in-u : u < g.size
    in-u = K.way.inside i l

    on-u : on u ≡ true
    on-u = K.way.on i l

    -- The vertices on the way that are cheaper have their counts.
    before : (w : ℕ) → w < g.size → on w ≡ true → distance g s w < distance g s u → entry f w ≡ path_count g s w
    before w k o lt =
        let r = turn-before K.way i w l k o lt in
        subst (λ z. entry f z ≡ count_from g s x z) r.2 (C.done r.0 r.1) ∙ count_from-way g s x w o

    count-on : count_at g s on (entry d) (entry f) u ≡ path_count g s u
    count-on =
        let closed = way-closed g K.lawful s x K.reached in
        ⊎_elim
        (λ q. subst (λ z. count_at g s on (entry d) (entry f) z ≡ path_count g s z) (sym q)
        (count_at-start g s on (entry d) (entry f) closed.start ∙ sym (path_count-self g K.lawful s)))
        (λ ne. count_at-other g s on (entry d) (entry f) u on-u ne
        ∙ count_next g K.lawful s K.start_in on closed (entry d) (costs-at g s K.costs) (entry f) u in-u on-u
        ne before)
        (eq-or-ne u s)

    pub count-right : count_of dirs shifts (mask_at (length d) work u) s d f u ≡ count_from g s x u
    count-right =
        rw (costs_len g s K.costs) (count_at-agrees (agrees K u in-u) (entry d) s all (entry f)
        ∙ count-all g s on (entry d) (entry f) u on-u ∙ count-on ∙ sym (count_from-way g s x u on-u))

    below : (j : ℕ) → j < i + 1 → (u ≡ P j → ⊥) → j < i
    below j k ne = ⊎_elim (λ h. h) (λ h. absurd (ne (ap P (omega arith)))) (le-or-lt (suc j) i)

    pub counted-more : (y : ℕ) → y ≡ count_from g s x u → Tallied g s x (i + 1) P (set f u y)
    counted-more y q = record {
      len = length-set f u y ∙ C.len;
      done = λ j k. ⊎_elim
          (λ p. subst (λ z. entry (set f u y) z ≡ count_from g s x z) p (at-u ∙ q))
          (λ ne. get_or-set_other f u (P j) y 0 (λ p. ne (sym p)) ∙ C.done j (below j k ne)) (eq-or-ne u (P j));
      off = λ v k o. ⊎_elim (λ p. subst (λ z. entry (set f u y) z ≡ 0) p (at-u ∙ q ∙ rw p (count_from-off g s x v o)))
          (λ ne. get_or-set_other f u v y 0 (λ p. ne (sym p)) ∙ C.off v k o) (eq-or-ne u v);
    }
      where
        at-u : entry (set f u y) u ≡ y
        at-u = get_or-set_same f u y 0 (omega (arith, C.len, in-u))

    pub count-over : 2 ^ 64 ≤ count_from g s x u → 2 ^ 64 ≤ path_count g s x
    count-over h = omega (arith, count_from-fits g K.lawful s x u)

  pub counted-all : {f : List ℕ} → Tallied g s x n P f → f ≡ tabulate g.size (count_from g s x)
  counted-all {f} C = tabulate-of g.size f (count_from g s x) C.len (λ v k. ⊎_elim
      (λ o. let r = K.way.found v k o in subst (λ z. entry f z ≡ count_from g s x z) r.2 (C.done r.0 r.1))
      (λ o. C.off v k o ∙ sym (count_from-off g s x v o)) (true-or-false (on_way g s x v)))

-- ---- the loop of a pass

pub record Turning (dirs : Directions) (shifts : List ℕ) (s n : ℕ) (rev : Bool) (d work : List ℕ) (i : ℕ)
    (f : List ℕ) : Type 0 where
  pub within : i ≤ n
  pub len : length f ≡ length d
  pub counted : (g : Graph) (x : ℕ) → Passable g dirs shifts s x n rev d work → Tallied g s x i (turn_of work n rev) f

module _ {dirs : Directions} {shifts : List ℕ} {s n : ℕ} {rev : Bool} {d work : List ℕ} where
  pub turn-start : {f : List ℕ} → f ≡ zeros (length d) → Turning dirs shifts s n rev d work 0 f
  turn-start {f} q = record {
    within = omega arith;
    len = ap length q ∙ length-replicate (length d) 0;
    counted = λ g x K. counted_none g s x (turn_of work n rev) f (rw (sym (costs_len g s K.costs)) q);
  }

  pub turn-len : {i : ℕ} {f f₀ : List ℕ} → Turning dirs shifts s n rev d work i f → f₀ ≡ zeros (length d)
      → length f ≡ length f₀
  turn-len h q = h.len ∙ sym (ap length q ∙ length-replicate (length d) 0)

  module _ {i : ℕ} {f : List ℕ} (h : Turning dirs shifts s n rev d work i f) (l : i < n) (u : ℕ)
      (at : u ≡ turn_of work n rev i) (r : Option ℕ)
      (sum : r ≡ sum_of (count_of dirs shifts (mask_at (length d) work u) s d f u)) where
    -- `count_of` gives the count of the vertex.
    worked : (g : Graph) (x : ℕ) (K : Passable g dirs shifts s x n rev d work)
        → count_of dirs shifts (mask_at (length d) work u) s d f u ≡ count_from g s x (turn_of work n rev i)
    worked g x K =
        subst (λ v. count_of dirs shifts (mask_at (length d) work v) s d f v ≡ count_from g s x (turn_of work n rev i))
        (sym at)
        (count-right K l (h.counted g x K))

    pub turn_more : (y : ℕ) → r ≡ Some y → Turning dirs shifts s n rev d work (i + 1) (set f u y)
    turn_more y q = record {
      within = omega arith;
      len = length-set f u y ∙ h.len;
      counted = λ g x K.
          subst (λ v. Tallied g s x (i + 1) (turn_of work n rev) (set f v y)) (sym at)
          (counted-more K l (h.counted g x K) y (sym (sum_of-is _ y (sym sum ∙ q)) ∙ worked g x K));
    }

    pub turn-over : r ≡ None → (g : Graph) (x : ℕ) → Passable g dirs shifts s x n rev d work → Summed g s x f false
    turn-over q g x K = record {
      counted = λ z. absurd (true≢false (sym z));
      over = λ z. count-over K l (h.counted g x K) (omega (arith, sum_of-passes _ (sym sum ∙ q), worked g x K));
    }

  pub turn_end : {i : ℕ} {f : List ℕ} → Turning dirs shifts s n rev d work i f → n ≤ i → (g : Graph) (x : ℕ)
      → Passable g dirs shifts s x n rev d work → Summed g s x f true
  turn_end {i} {f} h l g x K =
      let q : i ≡ n = omega (arith, h.within) in
      record {
        counted = λ z. counted-all K (subst (λ j. Tallied g s x j (turn_of work n rev) f) q (h.counted g x K));
        over = λ z. absurd (true≢false z);
      }
