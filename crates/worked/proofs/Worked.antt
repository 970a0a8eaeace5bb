-- The worked floors: antt computes that each sheet passes the local test; by the laws of paths it is then the true
-- sheet.
use Prim.Native.Nat.{ℕ, zero, suc, ◌+◌, ◌*◌, ◌<◌, ◌^◌}
use mathlib.Core.Path.{◌≡◌, refl, sym, ap, ap₂, ◌∙◌}
use mathlib.Core.Bool.{Bool, true, false, ◌&&◌, not}
use native.Mathlib.Omega.{arith}
use borrow.Author.Tests.{ltb-true, eqb-true}
use lib.Dec.{ltb, eqb}
use lib.ListN.{length, get_or}
use Rattle.std.proofs.Common.{Ok}
use Rattle.basics.specs.Bounded.{pick, bounded-opened}
use Rattle.basics.specs.Lists.{same, lists-opened}
use Rattle.basics.proofs.Bools.{and_left, and_right}
use Rattle.basics.proofs.Bounded.{every-at}
use Rattle.basics.proofs.Lists.{same-eq}
use Rattle.floor.specs.Floor.{column, row, floor-opened}
use Rattle.floor.specs.Refusals.{sides_shape, unused_clear, floor_shape, end_shape}
use Rattle.sight.specs.Sight.{segment_of, enters, pinch, sight-opened}
use Rattle.moves.specs.Moves.{neighbourhood_of}
use Rattle.moves.specs.Steps.{steps-opened}
use Rattle.paths.specs.Graph.{Graph, Lawful}
use Rattle.paths.specs.Route.{route-opened, traversals}
use Rattle.paths.specs.Sheet.{Sheet, route_sheet, no_route_sheet}
use Rattle.paths.specs.Local.{Shaped, entry, local_route, local_no_route, local-opened}
use Rattle.paths.proofs.SheetTest.{numbers-true, numbers-total, local-true, local-no_route}
use Rattle.paths.proofs.Sheets.{route-entries}
use Rattle.grid.specs.Grid.{pinch_shape, ends_shape, job_shape}
use Rattle.grid.proofs.Lawful.{floor-lawful}
use Rattle.grid.proofs.Jobs.{FitJob, job-fit}
use Rattle.given_costs.specs.Given.{costs_true}
use Rattle.thinning.specs.Thinning.{kept_positions, thinning-opened}
use Rattle.worked.specs.Floors.{
  Case,
  plan_of,
  graph_of,
  routes,
  no_routes,
  floor_a,
  floor_b,
  floor_c,
  floor_d,
  floor_e,
  floor_f,
  floor_g,
  floor_h,
  floor_a16,
  floor_e16,
  floor_c4,
  floor_c16,
  plans_a,
  plans_c,
  handed_in,
  entered,
  RouteHolds,
  NoRouteHolds,
  Each,
  Worked,
}

-- ---- what is computed of a case

-- Each slice of the sheet has a place for each vertex.
unfoldable shaped : Case → Bool
shaped c =
    eqb (length c.sheet.d) (graph_of c).size
    && (eqb (length c.sheet.e) (graph_of c).size
    && (eqb (length c.sheet.f) (graph_of c).size
    && (eqb (length c.sheet.b) (graph_of c).size
    && (eqb (length c.sheet.route) (graph_of c).size && eqb (length c.sheet.next) (graph_of c).size))))

unfoldable route_test : Case → Bool
route_test c =
    shaped c
    && (local_route (graph_of c) c.start c.end c.sheet
    && (eqb (entry c.sheet.d c.end) c.cost
    && (eqb (entry c.sheet.f c.end) c.total
    && (ltb (entry c.sheet.f c.end) (2 ^ 64)
    && same (kept_positions (plan_of c) c.sheet.route c.sheet.n) c.kept))))

unfoldable no_route_test : Case → Bool
no_route_test c = shaped c && local_no_route (graph_of c) c.start c.end c.sheet

-- ---- what follows from it

shaped-true : (c : Case) → shaped c ≡ true → Shaped (graph_of c).size c.sheet
unfolding shaped
shaped-true c t =
    let v = (graph_of c).size in
    let t1 = and_right (eqb (length c.sheet.d) v) _ t in
    let t2 = and_right (eqb (length c.sheet.e) v) _ t1 in
    let t3 = and_right (eqb (length c.sheet.f) v) _ t2 in
    let t4 = and_right (eqb (length c.sheet.b) v) _ t3 in
    record {
      d = eqb-true (length c.sheet.d) v (and_left (eqb (length c.sheet.d) v) _ t);
      e = eqb-true (length c.sheet.e) v (and_left (eqb (length c.sheet.e) v) _ t1);
      f = eqb-true (length c.sheet.f) v (and_left (eqb (length c.sheet.f) v) _ t2);
      b = eqb-true (length c.sheet.b) v (and_left (eqb (length c.sheet.b) v) _ t3);
      route = eqb-true (length c.sheet.route) v (and_left (eqb (length c.sheet.route) v) _ t4);
      next = eqb-true (length c.sheet.next) v (and_right (eqb (length c.sheet.route) v) _ t4);
    }

-- The job of the case has a good shape.
abbrev Fits : Case → Type 0
Fits c = job_shape c.wide c.high c.map c.neighbourhood c.start c.end ≡ Ok c.dirs

module _ (c : Case) (fit : Fits c) where
  abbrev g : Graph
  g = graph_of c

  known : FitJob c.wide c.high c.map c.neighbourhood c.start c.end c.dirs
  known = job-fit c.wide c.high c.map c.neighbourhood c.start c.end c.dirs fit

  lawful : Lawful g
  lawful = floor-lawful (plan_of c) c.dirs known.lawful

  route-holds : route_test c ≡ true → RouteHolds c
  unfolding route_test local_route
  route-holds t =
      let k = known in
      let s = c.sheet in
      let t1 = and_right (shaped c) _ t in
      let t2 = and_right (local_route g c.start c.end s) _ t1 in
      let t3 = and_right (eqb (entry s.d c.end) c.cost) _ t2 in
      let t4 = and_right (eqb (entry s.f c.end) c.total) _ t3 in
      let local = and_left (local_route g c.start c.end s) _ t1 in
      let numbers = numbers-true g lawful c.start c.end k.start k.end s (and_left _ _ local) in
      let total = eqb-true (entry s.f c.end) c.total
      (and_left (eqb (entry s.f c.end) c.total) _ t3) in
      let cost = eqb-true (entry s.d c.end) c.cost (and_left (eqb (entry s.d c.end) c.cost) _ t2) in
      record {
        shape = fit;
        sheet = local-true g lawful c.start c.end k.start k.end s (shaped-true c (and_left (shaped c) _ t))
            (ltb-true (entry s.f c.end) (2 ^ 64) (and_left (ltb (entry s.f c.end) (2 ^ 64)) _ t4)) local;
        cost = sym (numbers.costs_from c.end k.end) ∙ cost;
        total = sym (numbers-total g lawful c.start c.end k.start k.end s numbers) ∙ total;
        kept = same-eq (kept_positions (plan_of c) s.route s.n) c.kept
            (and_right (ltb (entry s.f c.end) (2 ^ 64)) _ t4);
      }

  no_route-holds : no_route_test c ≡ true → NoRouteHolds c
  unfolding no_route_test
  no_route-holds t =
      let k = known in
      record {
        shape = fit;
        sheet = local-no_route g lawful c.start c.end k.start k.end c.sheet
            (shaped-true c (and_left (shaped c) _ t)) (and_right (shaped c) _ t);
      }

-- ---- the floors

routes-true : Each RouteHolds routes
unfolding job_shape sides_shape unused_clear floor_shape end_shape pinch_shape ends_shape neighbourhood_of shaped route_test
    bounded-opened lists-opened floor-opened sight-opened steps-opened route-opened local-opened thinning-opened
routes-true = (
  route-holds floor_a refl refl,
  (
    route-holds floor_b refl refl,
    (
      route-holds floor_d refl refl,
      (
        route-holds floor_e refl refl,
        (route-holds floor_h refl refl, (route-holds floor_a16 refl refl, (route-holds floor_e16 refl refl, tt))),
      ),
    ),
  ),
)

no_routes-true : Each NoRouteHolds no_routes
unfolding job_shape sides_shape unused_clear floor_shape end_shape pinch_shape ends_shape neighbourhood_of shaped no_route_test
    bounded-opened lists-opened floor-opened sight-opened steps-opened route-opened local-opened
no_routes-true = (
  no_route-holds floor_c refl refl,
  (
    no_route-holds floor_f refl refl,
    (no_route-holds floor_g refl refl, (no_route-holds floor_c4 refl refl, (no_route-holds floor_c16 refl refl, tt))),
  ),
)

-- ---- costs of one neighbourhood handed in for another

-- Costs handed in for case c are true exactly where they are those of its sheet.
handed-route : (c k : Case) → RouteHolds c → handed_in c k ≡ same k.sheet.d c.sheet.d
unfolding costs_true route_sheet
handed-route c k R = ap (same k.sheet.d) (sym (ap (λ (s : Sheet). s.d) R.sheet.is))

handed-none : (c k : Case) → NoRouteHolds c → handed_in c k ≡ same k.sheet.d c.sheet.d
unfolding costs_true no_route_sheet
handed-none c k R = ap (same k.sheet.d) (sym (ap (λ (s : Sheet). s.d) R.sheet.is))

handed-a-true : (i j : ℕ) → i < 3 → j < 3 → handed_in (get_or plans_a i floor_a) (get_or plans_a j floor_a) ≡ eqb i j
unfolding lists-opened
handed-a-true i j a b = dirs i a j b
  where
    column : (c : Case) → RouteHolds c → (t : ℕ → Bool)
        → same floor_a.sheet.d c.sheet.d ≡ t 0 → same floor_b.sheet.d c.sheet.d ≡ t 1
        → same floor_a16.sheet.d c.sheet.d ≡ t 2
        → (j : ℕ) → j < 3 → handed_in c (get_or plans_a j floor_a) ≡ t j
    column c R t p q r zero b = handed-route c floor_a R ∙ p
    column c R t p q r (suc zero) b = handed-route c floor_b R ∙ q
    column c R t p q r (suc (suc zero)) b = handed-route c floor_a16 R ∙ r
    column c R t p q r (suc (suc (suc j))) b = absurd (omega arith)

    dirs : (i : ℕ) → i < 3 → (j : ℕ) → j < 3 → handed_in (get_or plans_a i floor_a) (get_or plans_a j floor_a) ≡ eqb i j
    dirs zero a = column floor_a routes-true.0 (eqb 0) refl refl refl
    dirs (suc zero) a = column floor_b routes-true.1.0 (eqb 1) refl refl refl
    dirs (suc (suc zero)) a = column floor_a16 routes-true.1.1.1.1.1.0 (eqb 2) refl refl refl
    dirs (suc (suc (suc i))) a = absurd (omega arith)

handed-c-true : (i j : ℕ) → i < 3 → j < 3 → handed_in (get_or plans_c i floor_c) (get_or plans_c j floor_c) ≡ true
unfolding lists-opened
handed-c-true i j a b = dirs i a j b
  where
    column : (c : Case) → NoRouteHolds c → c.sheet ≡ floor_c.sheet
        → (j : ℕ) → j < 3 → handed_in c (get_or plans_c j floor_c) ≡ true
    column c R e zero b = handed-none c floor_c R ∙ ap (λ (s : Sheet). same floor_c.sheet.d s.d) e
    column c R e (suc zero) b = handed-none c floor_c4 R ∙ ap (λ (s : Sheet). same floor_c.sheet.d s.d) e
    column c R e (suc (suc zero)) b = handed-none c floor_c16 R ∙ ap (λ (s : Sheet). same floor_c.sheet.d s.d) e
    column c R e (suc (suc (suc j))) b = absurd (omega arith)

    dirs : (i : ℕ) → i < 3 → (j : ℕ) → j < 3 → handed_in (get_or plans_c i floor_c) (get_or plans_c j floor_c) ≡ true
    dirs zero a = column floor_c no_routes-true.0 refl
    dirs (suc zero) a = column floor_c4 no_routes-true.1.1.1.0 refl
    dirs (suc (suc zero)) a = column floor_c16 no_routes-true.1.1.1.1.0 refl
    dirs (suc (suc (suc i))) a = absurd (omega arith)

-- Whether two tests have the same answer.
unfoldable alike : Bool → Bool → Bool
alike a b = pick a b (not b)

alike-true : (a b : Bool) → alike a b ≡ true → a ≡ b
unfolding alike
alike-true true b e = sym e
alike-true false true e = e
alike-true false false e = refl

pinches-true : (v : ℕ) → v < 9 → pinch (plan_of floor_g) (column 2 v) (row 2 v) ≡ eqb v 4
unfolding alike bounded-opened lists-opened floor-opened sight-opened
pinches-true v l =
    alike-true (pinch (plan_of floor_g) (column 2 v) (row 2 v)) (eqb v 4)
    (every-at 9 (λ k. alike (pinch (plan_of floor_g) (column 2 k) (row 2 k)) (eqb k 4)) refl v l)

-- Vertex 4 of floor h has 2 walks from the start and 2 to the end.
traversals-four : traversals (graph_of floor_h) 0 8 4 ≡ 4
unfolding traversals
traversals-four =
    let h = routes-true.1.1.1.1.0 in
    let E = route-entries (graph_of floor_h) (lawful floor_h h.shape) 0 8 (known floor_h h.shape).start
    (known floor_h h.shape).end floor_h.sheet h.sheet in
    ap₂ ◌*◌ (sym (E.f_at 4 (omega arith))) (sym (E.b_at 4 (omega arith)))

cells-true : (i j : ℕ) → i < 3 → j < 2 → enters (segment_of 0 0 3 2) i j ≡ get_or entered (j * 3 + i) false
unfolding sight-opened
cells-true zero zero a b = refl
cells-true zero (suc zero) a b = refl
cells-true zero (suc (suc j)) a b = absurd (omega arith)
cells-true (suc zero) zero a b = refl
cells-true (suc zero) (suc zero) a b = refl
cells-true (suc zero) (suc (suc j)) a b = absurd (omega arith)
cells-true (suc (suc zero)) zero a b = refl
cells-true (suc (suc zero)) (suc zero) a b = refl
cells-true (suc (suc zero)) (suc (suc j)) a b = absurd (omega arith)
cells-true (suc (suc (suc i))) j a b = absurd (omega arith)

pub worked : Worked
worked = record {
  routes_hold = routes-true;
  no_routes_hold = no_routes-true;
  pinches_g = pinches-true;
  traversals_h = traversals-four;
  handed_a = handed-a-true;
  handed_c = handed-c-true;
  cells_i = cells-true;
}
