-- The next vertices, from true costs and counts and the masks.
--
--   TrueLists g dirs shifts a b d e f back work == the lists have the true costs and counts of a job on graph g that
--                          has a route and whose total fits, and the masks
--   true-choosable         == where `TrueLists`, `Choosable`
--   true-numbers           == where `TrueLists`, `number_at` of every vertex is `next_number`
--   number-off, -goal, -to == `number_of` of a vertex off the way, of b, and of a vertex on the way before b
--   numbered-none, -more, -off, -all == `NumberedTo` at the start, one vertex further, past vertices off the way, and
--                          at the end
use Prim.Native.Nat.{ℕ, suc, ◌+◌, ◌*◌, ◌^◌, ◌≤◌, ◌<◌}
use mathlib.Core.Path.{◌≡◌, sym, ap, ap₂, ◌∙◌, subst}
use mathlib.Core.Bool.{Bool, true, false}
use mathlib.Core.Logic.{⊎_elim}
use mathlib.Core.List.{List, []}
use mathlib.Core.Option.{some}
use native.Mathlib.Omega.{arith}
use borrow.Author.Tests.{eq-eqb, ne_eqb}
use lib.ListN.{length, set, length-set, length-replicate}
use lib.Seq.{get_or-set_same, get_or-set_other}
use Rattle.basics.specs.Lists.{tabulate, zeros}
use Rattle.basics.proofs.Order.{le-or-lt}
use Rattle.basics.proofs.Lists.{length-tabulate, get_d_tabulate, get_or-zeros, tabulate-of, tabulate-cong}
use Rattle.paths.specs.Graph.{Graph, Lawful}
use Rattle.paths.specs.Distance.{unreachable, distance, path_count}
use Rattle.paths.specs.Route.{on_shortest, on_way, count_from, count_to, traversals, next_vertex, next_number}
use Rattle.paths.specs.Sheet.{sheet_of}
use Rattle.paths.specs.Local.{entry, local_on}
use Rattle.paths.proofs.Way.{shortest-same, traversals_fit}
use Rattle.paths.proofs.Choice.{next-same, next-cases}
use Rattle.paths.proofs.Sheets.{TrueNumbers}
use Rattle.paths.proofs.SheetTest.{sheet-leads}
use Rattle.moves.specs.declared.Directions.{Directions}
use Rattle.neighbours.specs.Reading.{mask_graph}
use Rattle.neighbours.specs.Choice.{traversal_of, next_of, Choosing, OffWay, LeadsBy}
use Rattle.neighbours.proofs.Agree.{next_vertex-agrees, leads-agrees}
use Rattle.workspace.specs.Regions.{mask_at, Masked}
use Rattle.planner.specs.Parts.{number_of, number_at, Choosable, NumberedTo}

-- ---- true costs and counts

pub record TrueLists (g : Graph) (dirs : Directions) (shifts : List ℕ) (a b : ℕ)
    (d e f back work : List ℕ) : Type 0 where
  pub few : g.size ≤ 16384
  pub lawful : Lawful g
  pub start_in : a < g.size
  pub goal_in : b < g.size
  pub reached : distance g a b < unreachable
  pub total : path_count g a b < 2 ^ 64
  pub d_true : d ≡ tabulate g.size (distance g a)
  pub e_true : e ≡ tabulate g.size (λ v. distance g v b)
  pub f_true : f ≡ tabulate g.size (count_from g a b)
  pub back_true : back ≡ tabulate g.size (count_to g a b)
  pub masked : Masked g dirs shifts work
  pub work_len : length work ≡ 4 * g.size

module _ {g : Graph} {dirs : Directions} {shifts : List ℕ} {a b : ℕ} {d e f back work : List ℕ}
    (T : TrueLists g dirs shifts a b d e f back work) where
  len : {l : List ℕ} (F : ℕ → ℕ) → l ≡ tabulate g.size F → length l ≡ g.size
  len F q = ap length q ∙ length-tabulate g.size F

  at : {l : List ℕ} (F : ℕ → ℕ) → l ≡ tabulate g.size F → (u : ℕ) → u < g.size → entry l u ≡ F u
  at F q u i = ap (λ l. entry l u) q ∙ get_d_tabulate g.size u F i

  d_len : length d ≡ g.size
  d_len = len _ T.d_true

  traversal-at : (u : ℕ) → u < g.size → traversal_of f back u ≡ traversals g a b u
  unfolding traversals
  traversal-at u i = ap₂ ◌*◌ (at _ T.f_true u i) (at _ T.back_true u i)

  way_at : (u : ℕ) → u < g.size → on_shortest (entry d) (entry e) b u ≡ on_way g a b u
  unfolding on_way
  way_at u i =
      shortest-same (entry d) (distance g a) (entry e) (λ w. distance g w b) b u (at _ T.d_true u i)
      (at _ T.e_true u i) (at _ T.d_true b T.goal_in)

  numbers : TrueNumbers g a b (sheet_of d e f back [] [] 0)
  numbers = record {
    reached = T.reached;
    costs_from = at _ T.d_true;
    costs_to = at _ T.e_true;
    counts_from = at _ T.f_true;
    counts_to = at _ T.back_true;
  }

  -- A move leads on, by the equations of flow.
  leads-at : (v : ℕ) → v < g.size → LeadsBy dirs shifts (mask_at (length d) work v) d e f back b v
  unfolding local_on
  leads-at v i =
      rw d_len (leads-agrees (T.masked.shows v i).agrees (entry d)
      (sheet-leads g T.lawful a b T.start_in T.goal_in (sheet_of d e f back [] [] 0) numbers v i))

  pub true-choosable : Choosable dirs shifts b d e f back work
  true-choosable = record {
    few = omega (arith, d_len, T.few);
    work_len = omega (arith, d_len, T.work_len);
    choosing = λ v i. record {
      readable = rw d_len (T.masked.shows v (omega (arith, d_len))).readable;
      goal_in = omega (arith, d_len, T.goal_in);
      e_len = len _ T.e_true ∙ sym d_len;
    };
    counted = record {
      f_len = len _ T.f_true ∙ sym d_len;
      b_len = len _ T.back_true ∙ sym d_len;
      fit = λ v i. omega (
        arith,
        traversal-at v (omega (arith, d_len)),
        traversals_fit g T.lawful a b v,
        T.total,
      );
    };
    leads = λ v i. leads-at v (omega (arith, d_len));
  }

  module _ (v : ℕ) (i : v < g.size) where
    next-central : next_of dirs shifts (mask_at (length d) work v) d e f back b v
        ≡ next_vertex g (on_way g a b) (distance g a) (traversals g a b) v
    next-central =
        rw d_len
        (next_vertex-agrees (T.masked.shows v i).agrees (entry d) (on_shortest (entry d) (entry e) b)
        (traversal_of f back))
        ∙ next-same g T.lawful (on_shortest (entry d) (entry e) b) (on_way g a b) (entry d) (distance g a)
        (traversal_of f back) (traversals g a b) way_at (at _ T.d_true) traversal-at v i

    number-true : number_at dirs shifts b d e f back work v ≡ next_number g a b v
    unfolding next_number
    number-true = rw (way_at v i, next-central)

  pub true-numbers : {l : List ℕ} → l ≡ tabulate (length d) (number_at dirs shifts b d e f back work)
      → l ≡ tabulate g.size (next_number g a b)
  true-numbers q =
      q ∙ ap (λ n. tabulate n (number_at dirs shifts b d e f back work)) d_len
      ∙ tabulate-cong g.size (number_at dirs shifts b d e f back work) (next_number g a b) number-true

-- ---- one vertex

module _ {dirs : Directions} {shifts : List ℕ} {mask b : ℕ} {d e : List ℕ} (f back : List ℕ) {v : ℕ}
    (C : Choosing dirs shifts mask d e b v) {o : Bool} (on : o ≡ on_shortest (entry d) (entry e) b v) where
  pub number-off : o ≡ false → (0 ≡ number_of dirs shifts mask b d e f back v) × (0 < length d)
  number-off t = (rw (sym on ∙ t), omega (arith, C.readable.vertex))

  module _ (t : o ≡ true) where
    way : on_shortest (entry d) (entry e) b v ≡ true
    way = sym on ∙ t

    pub number-goal : v ≡ b → (b ≡ number_of dirs shifts mask b d e f back v) × (b < length d)
    number-goal q = (rw (way, eq-eqb v b q), C.goal_in)

    pub number-to : (v ≡ b → ⊥) → (w : ℕ) → next_of dirs shifts mask d e f back b v ≡ some w
        → (w ≡ number_of dirs shifts mask b d e f back v) × (w < length d)
    number-to ne w there =
        let c = next-cases (mask_graph (length d) dirs shifts mask) (on_shortest (entry d) (entry e) b) (entry d)
        (traversal_of f back) v w there in
        (rw (way, ne_eqb v b ne, there), C.readable.inside c.move w c.below c.by.goes)

-- ---- every vertex

module _ {dirs : Directions} {shifts : List ℕ} {b : ℕ} {d e f back work : List ℕ} where
  pub numbered-none : {l : List ℕ} → l ≡ zeros (length d) → NumberedTo dirs shifts b d e f back work 0 l
  numbered-none q = record {
    len = ap length q ∙ length-replicate (length d) 0;
    at = λ u i. absurd (omega arith);
    blank = λ u i. ap (λ z. entry z u) q ∙ get_or-zeros (length d) u;
  }

  module _ {v : ℕ} {l : List ℕ} (k : NumberedTo dirs shifts b d e f back work v l) where
    pub numbered_more : v < length d → (x : ℕ) → x ≡ number_at dirs shifts b d e f back work v
        → NumberedTo dirs shifts b d e f back work (v + 1) (set l v x)
    numbered_more i x q = record {
      len = length-set l v x ∙ k.len;
      at = λ u h. ⊎_elim
          (λ lt. get_or-set_other l v u x 0 (λ p. omega arith) ∙ k.at u lt)
          (λ ge.
          let p : v ≡ u = omega arith in
          subst (λ z. entry (set l v x) z ≡ number_at dirs shifts b d e f back work z) p
          (get_or-set_same l v x 0 (omega (arith, k.len)) ∙ q)) (le-or-lt (suc u) v);
      blank = λ u h. get_or-set_other l v u x 0 (λ p. omega arith) ∙ k.blank u (omega arith);
    }

    -- The next vertex of a vertex off the way is 0.
    pub numbered-off : {j : ℕ} → v ≤ j → OffWay d e b v j → NumberedTo dirs shifts b d e f back work j l
    numbered-off {j} h off = record {
      len = k.len;
      at = λ u i. ⊎_elim (λ lt. k.at u lt) (λ ge. k.blank u (omega arith) ∙ rw (off.at u (omega arith) i))
          (le-or-lt (suc u) v);
      blank = λ u i. k.blank u (omega arith);
    }

    pub numbered-all : length d ≤ v → l ≡ tabulate (length d) (number_at dirs shifts b d e f back work)
    numbered-all h =
        tabulate-of (length d) l (number_at dirs shifts b d e f back work) k.len (λ u i. k.at u (omega arith))
