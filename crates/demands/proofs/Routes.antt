-- Demand 2: costs, counts, route, "no route" and "too many" are exactly the published method's, and thinning keeps
-- exactly the points of its rule.
--
--   job_good          == where none of the lines of a job and of the lines `rest` applies, the job is fit, and none of
--                        `rest` applies
--   GoodJob, good-job == what holds of a fit job: its graph is lawful, has at most 16,384 vertices and both ends
--   costs-true        == demand 2 of the planner's first operation at 0
--   plans             == demand 2 of the planner's second operation, where its shape is good
--   planner           == demand 2 of the first operation at 0 and then the second, on the d of the first
--   thins             == demand 2 of thinning at 0
use Prim.Native.Nat.{ℕ, suc, pred, ◌^◌, ◌≤◌, ◌<◌}
use mathlib.Core.Path.{◌≡◌, refl, sym, ap, ◌∙◌}
use mathlib.Core.Logic.{◌⊎◌, inl, inr, ⊎_elim}
use mathlib.Core.Bool.{Bool, true, false, not, true≢false}
use mathlib.Core.List.{List, [], ◌∷◌, ◌++◌}
use native.Mathlib.Omega.{arith}
use borrow.Author.Tests.{eqb-true, eq-eqb}
use lib.Dec.{eqb}
use lib.ListN.{length, get_or}
use Rattle.std.proofs.Common.{Option, Some, None, Result, Ok, Err}
use Rattle.basics.specs.Bounded.{pick}
use Rattle.basics.specs.Lists.{tabulate, padded}
use Rattle.basics.proofs.Order.{le-or-lt}
use Rattle.basics.proofs.Bools.{true-or-false, not-both}
use Rattle.basics.proofs.Lists.{length-tabulate, get_d_tabulate, get_or-zeros, get_or-padded, get_or-padded-past}
use Rattle.floor.specs.Floor.{Floor, floor_of, vertices}
use Rattle.floor.specs.Refusals.{Shape, refusal_number, answer_number}
use Rattle.floor.specs.declared.Refusal.{Refusal}
use Rattle.floor.specs.declared.Refusal.TheVariants.{NoRoute, TooMany}
use Rattle.moves.specs.declared.Directions.{Directions}
use Rattle.moves.specs.Moves.{directions_of, neighbourhood_of}
use Rattle.moves.specs.Table.{Listed}
use Rattle.paths.specs.Graph.{Graph, Lawful}
use Rattle.paths.specs.Distance.{unreachable, distance, path_count}
use Rattle.paths.specs.Route.{central_route}
use Rattle.paths.specs.Sheet.{joined, fits, route_sheet, no_route_sheet}
use Rattle.paths.specs.Local.{entry}
use Rattle.paths.proofs.Distance.{distance-le}
use Rattle.paths.proofs.Sheets.{joined-reached, not-joined-at, fits-total, total_fits}
use Rattle.grid.specs.Grid.{job_shape}
use Rattle.grid.proofs.Jobs.{job-fit}
use Rattle.grid.proofs.Lawful.{floor-lawful, size-le}
use Rattle.grid.proofs.Costs.{cost-small, cost-sixteen}
use Rattle.given_costs.specs.Given.{costs_true}
use Rattle.given_costs.proofs.Tested.{true-list, list-true}
use Rattle.planner.specs.Plan.{CostSlices, Slices, costs_sized, slices_sized, sheet_slices, costs_alone}
use Rattle.planner.specs.Plan.{Planned, plan_of as planned_of, route_answer, route_left, FillsCosts, Finishes}
use Rattle.planner.proofs.Together.{finish-true}
use Rattle.thinning.specs.Thinning.{seen, kept_positions}
use Rattle.thinning.specs.Answer.{list_shape, shape_answer, thin_answer, Thins, thin_number, thin_kept}
use Rattle.thinning.proofs.Shapes.{good-list}
use Rattle.thinning.proofs.Kept.{KeptLaws, kept_laws}
use Rattle.demands.specs.Demands.{Line, line, first_of, job_lines, dirs_for, graph_of, costs_lines, finish_shape}
use Rattle.demands.specs.Demands.{Joins, Number, bound, Bounded}
use Rattle.demands.specs.Demands.{TrueCosts, Plans, Planner, Kept}
use Rattle.demands.proofs.Shapes.{job-first, refused-zero}
use Rattle.demands.proofs.Answers.{costs-answers, thin-answers}
use Rattle.demands.proofs.Walks.{reached-joins, cheapest-is, number_is, number-one}
use Rattle.demands.proofs.Sheets.{route-words, none-words}

-- ---- a good shape

module _ (w h : ℕ) (map : List ℕ) (nb a b : ℕ) where
  -- k for a fit job, else the number of its refusal.
  abbrev number_with : ℕ → Result Directions Refusal → ℕ
  number_with k (Ok dirs) = k
  number_with k (Err r) = refusal_number r

  known-dirs : {r : Directions} → neighbourhood_of nb ≡ Some r → dirs_for (neighbourhood_of nb) ≡ r
  known-dirs e = ap dirs_for e

  pub job_good : (rest : List Line) → first_of (job_lines w h map nb a b ++ rest) ≡ 0
      → (job_shape w h map nb a b ≡ Ok (dirs_for (neighbourhood_of nb))) × (first_of rest ≡ 0)
  job_good rest e =
      cases (job_shape w h map nb a b) refl
      (job-first w h map nb a b (number_with (first_of rest)) (λ r. refl) rest refl ∙ e)
    where
      cases : (j : Result Directions Refusal) → job_shape w h map nb a b ≡ j → number_with (first_of rest) j ≡ 0
          → (job_shape w h map nb a b ≡ Ok (dirs_for (neighbourhood_of nb))) × (first_of rest ≡ 0)
      cases (Ok dirs) q z = (
        q ∙ ap Ok (sym (known-dirs (job-fit w h map nb a b dirs q).known)),
        z,
      )
      cases (Err r) q z = refused-zero r z

  pub record GoodJob : Type 0 where
    pub fit : job_shape w h map nb a b ≡ Ok (dirs_for (neighbourhood_of nb))
    pub lawful : Lawful (graph_of w h map nb)
    pub small : vertices w h ≤ 16384
    pub start : a < vertices w h
    pub end : b < vertices w h
    pub wide : w ≤ 127
    pub high : h ≤ 127
    pub known : neighbourhood_of nb ≡ Some (dirs_for (neighbourhood_of nb))

  pub good-job : job_shape w h map nb a b ≡ Ok (dirs_for (neighbourhood_of nb)) → GoodJob
  good-job fit =
      let r = dirs_for (neighbourhood_of nb) in
      let j = job-fit w h map nb a b r fit in
      let f = floor_of w h map in
      record {
        fit = fit;
        lawful = floor-lawful f r j.lawful;
        small = size-le f j.floor.sized.wide j.floor.sized.high r;
        start = j.start;
        end = j.end;
        wide = j.floor.sized.wide;
        high = j.floor.sized.high;
        known = j.known;
      }

-- ---- the bound of the costs

module _ (nb : ℕ) where
  hood : Bool → Bool → Bool → Option Directions
  hood x y z =
      pick x (Some (directions_of 16 1 16))
      (pick y (Some (directions_of 0 2 8)) (pick z (Some (directions_of 0 4 4)) None))

  -- Only neighbourhood 16 has sixteen moves.
  count-sixteen : (r : Directions) → neighbourhood_of nb ≡ Some r → eqb r.count 16 ≡ eqb nb 16
  unfolding neighbourhood_of hood
  count-sixteen r e = cases (eqb nb 16) (eqb nb 8) (eqb nb 4) e
    where
      cases : (x y z : Bool) → hood x y z ≡ Some r → eqb r.count 16 ≡ x
      cases true y z q = let c : 16 ≡ r.count = cc in rw (← c)
      cases false true z q = let c : 8 ≡ r.count = cc in rw (← c)
      cases false false true q = let c : 4 ≡ r.count = cc in rw (← c)
      cases false false false q = cc

module _ (w h : ℕ) (map : List ℕ) (nb a b : ℕ) (J : GoodJob w h map nb a b) where
  abbrev g : Graph
  g = graph_of w h map nb

  distance-bounded : (u v : ℕ) → u < g.size → v < g.size
      → (distance g u v ≡ unreachable) ⊎ (distance g u v ≤ bound nb)
  distance-bounded u v i j =
      ⊎_elim (λ (le : unreachable ≤ distance g u v). inl (omega (arith, distance-le g u v)))
      (λ (lt : distance g u v < unreachable). inr (below lt)) (le-or-lt unreachable (distance g u v))
    where
      r : Directions
      r = dirs_for (neighbourhood_of nb)

      listed : Listed r
      listed = record { number = nb; known = J.known }

      sixteen : eqb r.count 16 ≡ eqb nb 16
      sixteen = count-sixteen nb r J.known

      below : distance g u v < unreachable → distance g u v ≤ bound nb
      below lt =
          ⊎_elim
          (λ (y : eqb nb 16 ≡ true).
          rw y (cost-sixteen (floor_of w h map) J.wide J.high listed u v i j lt
          (eqb-true r.count 16 (sixteen ∙ y))))
          (λ (n : eqb nb 16 ≡ false).
          rw n (cost-small (floor_of w h map) J.wide J.high listed u v i j lt
          (λ e. not-both (eqb r.count 16) (eq-eqb r.count 16 e) (sixteen ∙ n))))
          (true-or-false (eqb nb 16))

  -- A slice of distances, in the words of demand 2.
  module _ (l : List ℕ) (F : ℕ → ℕ) (same : l ≡ tabulate g.size F) where
    entry-is : (v : ℕ) → v < g.size → entry l v ≡ F v
    entry-is v i = rw same (get_d_tabulate g.size v F i)

  from-bounded : (d : List ℕ) → d ≡ tabulate g.size (distance g a) → Bounded nb g.size d
  from-bounded d e = record {
    at = λ u i. rw (entry-is d (distance g a) e u i) (distance-bounded a u J.start i);
  }

  to-bounded : (l : List ℕ) → l ≡ tabulate g.size (λ v. distance g v b) → Bounded nb g.size l
  to-bounded l e = record {
    at = λ u i. rw (entry-is l (λ v. distance g v b) e u i) (distance-bounded u b i J.end);
  }

  from-true : (d : List ℕ) → d ≡ tabulate g.size (distance g a) → TrueCosts g nb a d
  from-true d e = record {
    length_is = rw e (length-tabulate g.size (distance g a));
    costs = λ v i. rw (entry-is d (distance g a) e v i) (cheapest-is g J.lawful J.small a v J.start);
    bounded = from-bounded d e;
  }

  -- ---- the three outcomes of a good shape

  module _ (d : List ℕ) (same : d ≡ tabulate g.size (distance g a)) where
    abbrev L : Lawful g
    L = J.lawful

    abbrev found : Planned
    found = Ok (planned_of (distance g a b) (path_count g a b) (length (central_route g a b)))

    counted : {n : ℕ} → Number g a b n → n ≡ path_count g a b
    counted N = number-one g L J.small a b J.start N

    with-route : joined g a b ≡ true → fits g a b ≡ true
        → Plans g nb a b d found (sheet_slices g.size (route_sheet g a b))
    unfolding route_sheet
    with-route y f =
        let joins = (reached-joins g L J.small a b J.start).0 (joined-reached g a b y) in
        let few = fits-total g a b f in
        record {
          no_route = (λ e. absurd (omega arith), λ n. absurd (n joins));
          too_many = (λ e. absurd (omega arith), λ t. absurd (omega (arith, counted t.1.1, t.1.2)));
          else_route = (
            λ e. (joins, (path_count g a b, number_is g L J.small a b J.start, omega arith)),
            λ t. refl,
          );
          sheet = λ e. (route-words g L J.small a b J.start J.end _).0
              (record { is_joined = y; total_fits = f; is = rw same });
          cost = λ e. cheapest-is g L J.small a b J.start;
          total = λ e. number_is g L J.small a b J.start;
          sheet_none = λ e. absurd (omega arith);
          only_costs = λ e. absurd (omega arith);
          bounded_from = from-bounded d same;
          bounded_to = λ n. to-bounded _ refl;
        }

    too_many : joined g a b ≡ true → fits g a b ≡ false → Plans g nb a b d (Err TooMany) (costs_alone g b)
    too_many y f =
        let joins = (reached-joins g L J.small a b J.start).0 (joined-reached g a b y) in
        let many : 2 ^ 64 ≤ path_count g a b =
        ⊎_elim (λ le. le) (λ lt. not-both (fits g a b) (total_fits g a b lt) f) (le-or-lt (2 ^ 64) (path_count g a b)) in
        let e = tabulate g.size (λ v. distance g v b) in
        record {
          no_route = (λ e. absurd (omega arith), λ n. absurd (n joins));
          too_many = (
            λ e. (joins, (path_count g a b, number_is g L J.small a b J.start, omega arith)),
            λ t. refl,
          );
          else_route = (λ e. absurd (omega arith), λ t. absurd (omega (arith, counted t.1.1, t.1.2)));
          sheet = λ e. absurd (omega arith);
          cost = λ e. absurd (omega arith);
          total = λ e. absurd (omega arith);
          sheet_none = λ e. absurd (omega arith);
          only_costs = λ q. record {
            costs_to = λ v i. rw (entry-is e (λ v. distance g v b) refl v i) (cheapest-is g L J.small v b i);
            else_zero = λ v i. let z = get_or-zeros g.size v in (z, z, z, z);
          };
          bounded_from = from-bounded d same;
          bounded_to = λ n. to-bounded _ refl;
        }

    no_route : joined g a b ≡ false → Plans g nb a b d (Err NoRoute) (sheet_slices g.size (no_route_sheet g a))
    unfolding no_route_sheet
    no_route n =
        let apart : Joins g a b → ⊥ = λ j.
        omega (arith, not-joined-at g a b n, (reached-joins g L J.small a b J.start).1 j) in
        record {
          no_route = (λ e. apart, λ q. refl);
          too_many = (λ e. absurd (omega arith), λ t. absurd (apart t.0));
          else_route = (λ e. absurd (omega arith), λ t. absurd (apart t.0));
          sheet = λ e. absurd (omega arith);
          cost = λ e. absurd (omega arith);
          total = λ e. absurd (omega arith);
          sheet_none = λ e. (none-words g L J.small a b J.start J.end _).0
              (record { not_joined = n; is = rw same });
          only_costs = λ e. absurd (omega arith);
          bounded_from = from-bounded d same;
          bounded_to = λ q. absurd (q refl);
        }

    planned : Plans g nb a b d (route_answer g a b) (route_left g a b)
    unfolding route_answer route_left
    planned = cases (joined g a b) (fits g a b) refl refl
      where
        cases : (x y : Bool) → joined g a b ≡ x → fits g a b ≡ y
            → Plans g nb a b d (pick x (pick y found (Err TooMany)) (Err NoRoute))
            (pick x (pick y (sheet_slices g.size (route_sheet g a b)) (costs_alone g b))
            (sheet_slices g.size (no_route_sheet g a)))
        cases true true p q = with-route p q
        cases true false p q = too_many p q
        cases false y p q = no_route p

-- ---- the operations

module _ (w h : ℕ) (map : List ℕ) (nb a : ℕ) (s : CostSlices) (r : Shape) (s' : CostSlices)
    (F : FillsCosts w h map nb a s r s') (good : answer_number r ≡ 0) where
  costs-good : first_of (costs_lines w h map nb a s) ≡ 0
  costs-good = sym (costs-answers w h map nb a s r s' F).number ∙ good

  costs-job : GoodJob w h map nb a a
  costs-job =
      good-job w h map nb a a
      (job_good w h map nb a a (line 6 (not (costs_sized (vertices w h) s)) ∷ []) costs-good).0

  filled : s'.d ≡ tabulate (vertices w h) (distance (graph_of w h map nb) a)
  filled = ap (λ x. x.d) (rw good at (costs-answers w h map nb a s r s' F).leaves)

  pub costs-true : TrueCosts (graph_of w h map nb) nb a s'.d
  costs-true = from-true w h map nb a a costs-job s'.d filled

module _ (w h : ℕ) (map : List ℕ) (nb a b : ℕ) (d : List ℕ) (s : Slices) (r : Planned) (s' : Slices)
    (F : Finishes w h map nb a b d s r s') (good : first_of (finish_shape w h map nb a b d s) ≡ 0) where
  -- Where neither line 6 nor line 9 applies, both tests hold.
  tests-good : (x y : Bool) → first_of (line 6 (not x) ∷ line 9 (not y) ∷ []) ≡ 0 → (x ≡ true) × (y ≡ true)
  tests-good true true e = (refl, refl)
  tests-good true false e = absurd (omega arith)
  tests-good false y e = absurd (omega arith)

  pub plans : Plans (graph_of w h map nb) nb a b d r s'
  plans =
      let g = graph_of w h map nb in
      let j = job_good w h map nb a b
      (line 6 (not (slices_sized (vertices w h) d s)) ∷ line 9 (not (costs_true g a d)) ∷ []) good in
      let t = tests-good (slices_sized (vertices w h) d s) (costs_true g a d) j.1 in
      let both = finish-true w h map nb a b (dirs_for (neighbourhood_of nb)) j.0 d s t.0 t.1 in
      rw (F.answer, F.left, both.0, both.1)
      (planned w h map nb a b (good-job w h map nb a b j.0) d (true-list g a d t.1))

-- On the d of the first operation line 9 does not apply, so the lines of the job and line 6 decide the shape.
pub planner : (w h : ℕ) (map : List ℕ) (nb a b : ℕ) (s : CostSlices) (r : Shape) (s' : CostSlices) (t : Slices)
    (q : Planned) (t' : Slices) → FillsCosts w h map nb a s r s' → answer_number r ≡ 0
    → Finishes w h map nb a b s'.d t q t'
    → first_of (job_lines w h map nb a b ++ (line 6 (not (slices_sized (vertices w h) s'.d t)) ∷ [])) ≡ 0
    → Planner w h map nb a b s'.d t q t'
planner w h map nb a b s r s' t q t' F zero P good =
    let g = graph_of w h map nb in
    let z = slices_sized (vertices w h) s'.d t in
    let j = job_good w h map nb a b (line 6 (not z) ∷ []) good in
    let e = list-true g a s'.d (filled w h map nb a s r s' F zero) in
    let past : List Line = line 6 (not z) ∷ line 9 (not (costs_true g a s'.d)) ∷ [] in
    let whole : first_of (job_lines w h map nb a b ++ past) ≡ 0 =
    sym (job-first w h map nb a b (number_with w h map nb a b (first_of past)) (λ r. refl) past refl)
    ∙ ap (number_with w h map nb a b (first_of past)) j.0 ∙ cases z (costs_true g a s'.d) e j.1 in
    record { shape_good = whole; plans = plans w h map nb a b s'.d t q t' P whole }
  where
    cases : (x y : Bool) → y ≡ true → first_of (line 6 (not x) ∷ []) ≡ 0
        → first_of (line 6 (not x) ∷ line 9 (not y) ∷ []) ≡ 0
    cases true true e z = refl
    cases true false e z = absurd (true≢false (sym e))
    cases false y e z = z

-- ---- thinning

module _ (w h : ℕ) (map list out : List ℕ) (n : ℕ) (r : Result ℕ Refusal) (out' : List ℕ)
    (T : Thins w h map list out n r out') (good : thin_number r ≡ 0) where
  abbrev f : Floor
  f = floor_of w h map

  abbrev ps : List ℕ
  ps = kept_positions f list n

  list-good : list_shape w h map list (length out) n ≡ Ok tt
  unfolding thin_answer
  list-good = cases (list_shape w h map list (length out) n) refl (sym (ap thin_number T.answer) ∙ good)
    where
      cases : (s : Shape) → list_shape w h map list (length out) n ≡ s → thin_number (shape_answer s (length ps)) ≡ 0
          → list_shape w h map list (length out) n ≡ Ok tt
      cases (Ok _) e z = e
      cases (Err q) e z = refused-zero q z

  list-kept : KeptLaws (seen f list) n ps
  list-kept = kept_laws f list n (good-list w h map list (length out) n list-good).joined

  output : out' ≡ padded (length out) ps
  output = rw good at (thin-answers w h map list out n r out' T).leaves

  count : thin_kept r ≡ length ps
  count = rw good at (thin-answers w h map list out n r out' T).kept

  at : (m : ℕ) → m < length ps → get_or out' m 0 ≡ get_or ps m 0
  at m l = rw output (get_or-padded (length out) m ps l)

  pub thins : Kept f list n (thin_kept r) out'
  thins =
      let K = list-kept in
      rw count (record {
        some = K.some;
        starts = at 0 K.some ∙ K.starts;
        ends = at (pred (length ps)) (omega (arith, K.some)) ∙ K.ends;
        next = λ m l. rw (at m (omega arith), at (suc m) l) (record {
          later = (K.next m l).after;
          within = (K.next m l).within;
          seen_all = (K.next m l).seen_all;
          stops = (K.next m l).stops;
        });
        each_sees_next = λ m l. rw (at m (omega arith), at (suc m) l) (K.sees m l);
        rest = λ m l. rw output (get_or-padded-past (length out) m ps l);
      })
