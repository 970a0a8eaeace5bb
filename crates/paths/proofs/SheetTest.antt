-- The tests of a whole sheet, vertex by vertex, are exact: they pass on the true sheets and on nothing else.
--
--   numbers-exact          == `local_numbers` passes exactly where the costs and counts of a sheet are those of a job
--                             with a route (`TrueNumbers`)
--   numbers_fit            == where `local_numbers` passes, f(v) * b(v) is at most f(B) at each vertex v, so that it
--                             fits where the total does
--   local-on, local-next   == where `local_numbers` passes, `local_on` and `local_next` are `on_way` and `next_vertex`
--                             of the true numbers
--   sheet-flow             == where `local_numbers` passes, the sheet's numbers meet the equations of flow
--   sheet-leads            == where `local_numbers` passes, a move leads on from each vertex on the way before b
--   right-next             == where `local_numbers` passes, `right_next` says that the next vertex on the sheet is
--                             `next_number`
--   local-true, true-local == among the sheets whose total fits, `local_route` passes on the true route sheet alone
--   local_route-exact      == `local_route` passes on a sheet whose total fits exactly where it is the true route sheet
--   route-flow                   == the numbers of the true route sheet meet the equations of flow
--   local-no_route, no_route-local == `local_no_route` passes on the true no_route sheet alone
--   local_no_route-exact   == `local_no_route` passes exactly where a sheet is the true no_route sheet
use Prim.Native.Nat.{ℕ, ◌*◌, ◌^◌, ◌≤◌, ◌<◌}
use mathlib.Core.Path.{◌≡◌, sym, ap, ap₂, ◌∙◌}
use mathlib.Core.Logic.{◌↔◌, ⊎_elim}
use mathlib.Core.Bool.{true}
use mathlib.Core.Option.{some}
use native.Mathlib.Omega.{arith}
use borrow.Author.Tests.{eqb-true, eq-eqb, ne_eqb, ltb-true, lt-ltb}
use lib.Dec.{ltb, eqb}
use lib.ListN.{length}
use Rattle.basics.specs.Bounded.{pick, every}
use Rattle.basics.specs.Lists.{padded}
use Rattle.basics.proofs.Order.{eq-or-ne}
use Rattle.basics.proofs.Bools.{and_intro, and_left, and_right, true-or-false}
use Rattle.basics.proofs.Bounded.{every-all, every-at}
use Rattle.paths.specs.Graph.{Graph, Lawful}
use Rattle.paths.specs.Distance.{unreachable, distance, path_count}
use Rattle.paths.specs.Route.{on_way, count_from, count_to, traversals, next_vertex, follow}
use Rattle.paths.specs.Route.{central_route, next_number}
use Rattle.paths.specs.Sheet.{Sheet, route_sheet, no_route_sheet, TrueRoute, TrueNoRoute}
use Rattle.paths.specs.Local.{right_costs, right_counts, entry, Shaped, local_on, local_next, local_numbers}
use Rattle.paths.specs.Local.{is-there, right_next, by_next, local_route, blank_at, local_no_route}
use Rattle.paths.specs.Flow.{Flow}
use Rattle.paths.specs.Onward.{Leads}
use Rattle.paths.proofs.Reverse.{distance-sym, path_count-sym}
use Rattle.paths.proofs.Counts.{path_count-pos}
use Rattle.paths.proofs.Way.{shortest-same, way_end, count_from-way, traversals-pos, traversals_fit}
use Rattle.paths.proofs.CostTest.{costs-true, true-costs}
use Rattle.paths.proofs.CountTest.{Closed, closed_same, way-closed, way-closed-to, counts-true, true-counts}
use Rattle.paths.proofs.Choice.{next-same}
use Rattle.paths.proofs.Flow.{flow-true, flow-same, flow-onward}
use Rattle.paths.proofs.Follow.{Arrives, follow-cong, arrives-cong}
use Rattle.paths.proofs.Route.{next-there}
use Rattle.paths.proofs.NextNumbers.{number-next, number-end, number-off, number-inside, numbers-arrive}
use Rattle.paths.proofs.NextNumbers.{route-numbers}
use Rattle.paths.proofs.RouteTest.{route-true, true-route}
use Rattle.paths.proofs.Sheets.{TrueNumbers, route_sheet-of, Blank, no_route_sheet-of, joined-reached}
use Rattle.paths.proofs.Sheets.{reached-joined, unreachable-joined, total_fits}
use Rattle.paths.proofs.Sheets.{route-entries, no_route-entries}

-- ---- blank places

pub blank-cases : (s : Sheet) (v : ℕ) → blank_at s v ≡ true → Blank s v
unfolding blank_at
blank-cases s v t =
    let t1 = and_right (eqb (entry s.e v) 0) _ t in
    let t2 = and_right (eqb (entry s.f v) 0) _ t1 in
    let t3 = and_right (eqb (entry s.b v) 0) _ t2 in
    record {
      e = eqb-true (entry s.e v) 0 (and_left (eqb (entry s.e v) 0) _ t);
      f = eqb-true (entry s.f v) 0 (and_left (eqb (entry s.f v) 0) _ t1);
      b = eqb-true (entry s.b v) 0 (and_left (eqb (entry s.b v) 0) _ t2);
      route = eqb-true (entry s.route v) 0 (and_left (eqb (entry s.route v) 0) _ t3);
      next = eqb-true (entry s.next v) 0 (and_right (eqb (entry s.route v) 0) _ t3);
    }

pub blank-at : (s : Sheet) (v : ℕ) → Blank s v → blank_at s v ≡ true
unfolding blank_at
blank-at s v z =
    and_intro (eqb (entry s.e v) 0) _ (eq-eqb (entry s.e v) 0 z.e)
    (and_intro (eqb (entry s.f v) 0) _ (eq-eqb (entry s.f v) 0 z.f)
    (and_intro (eqb (entry s.b v) 0) _ (eq-eqb (entry s.b v) 0 z.b)
    (and_intro (eqb (entry s.route v) 0) _ (eq-eqb (entry s.route v) 0 z.route)
    (eq-eqb (entry s.next v) 0 z.next))))

module _ (g : Graph) (L : Lawful g) (a b : ℕ) (in-a : a < g.size) (in_b : b < g.size) (s : Sheet) where
  -- ---- with the true costs

  module _ (dd : (v : ℕ) → v < g.size → entry s.d v ≡ distance g a v)
      (ee : (v : ℕ) → v < g.size → entry s.e v ≡ distance g v b) where
    on-true : (v : ℕ) → v < g.size → local_on b s v ≡ on_way g a b v
    unfolding local_on on_way
    on-true v i =
        shortest-same (entry s.d) (distance g a) (entry s.e) (λ w. distance g w b) b v (dd v i) (ee v i)
        (dd b in_b)

    -- The costs to b are those from b.
    ee-from : (v : ℕ) → v < g.size → entry s.e v ≡ distance g b v
    ee-from v i = ee v i ∙ distance-sym g L v b i in_b

    module _ (reached : distance g a b < unreachable) where
      closed-from : Closed g a (local_on b s)
      closed-from = closed_same g L a (local_on b s) (on_way g a b) in-a on-true (way-closed g L a b reached)

      closed-to : Closed g b (local_on b s)
      closed-to =
          closed_same g L b (local_on b s) (on_way g a b) in_b on-true (way-closed-to g L a b in-a in_b reached)

    -- What the count test says of a vertex, in the terms of the sheet.
    from-pick : (v : ℕ) → v < g.size → pick (local_on b s v) (path_count g a v) 0 ≡ count_from g a b v
    unfolding count_from
    from-pick v i = ap (λ o. pick o (path_count g a v) 0) (on-true v i)

    to-pick : (v : ℕ) → v < g.size → pick (local_on b s v) (path_count g b v) 0 ≡ count_to g a b v
    unfolding count_to
    to-pick v i = ap₂ (λ o c. pick o c 0) (on-true v i) (path_count-sym g L b v in_b i)

  -- ---- costs and counts

  pub numbers-true : local_numbers g a b s ≡ true → TrueNumbers g a b s
  unfolding local_numbers
  numbers-true t =
      let t1 = and_right (right_costs g a (entry s.d)) _ t in
      let t2 = and_right (ltb (entry s.d b) unreachable) _ t1 in
      let t3 = and_right (right_costs g b (entry s.e)) _ t2 in
      let dd = costs-true g L a in-a (entry s.d) (and_left (right_costs g a (entry s.d)) _ t) in
      let be = costs-true g L b in_b (entry s.e) (and_left (right_costs g b (entry s.e)) _ t2) in
      let ee : (v : ℕ) → v < g.size → entry s.e v ≡ distance g v b = λ v i. be v i ∙ distance-sym g L b v in_b i in
      let h = ltb-true (entry s.d b) unreachable (and_left (ltb (entry s.d b) unreachable) _ t1) in
      let reached : distance g a b < unreachable = omega (arith, dd b in_b) in
      let ff = counts-true g L a in-a (local_on b s) (closed-from dd ee reached) (entry s.d) dd (entry s.f)
      (and_left (right_counts g a (local_on b s) (entry s.d) (entry s.f)) _ t3) in
      let bb = counts-true g L b in_b (local_on b s) (closed-to dd ee reached) (entry s.e) be (entry s.b)
      (and_right (right_counts g a (local_on b s) (entry s.d) (entry s.f)) _ t3) in
      record {
        reached = reached;
        costs_from = dd;
        costs_to = ee;
        counts_from = λ v i. ff v i ∙ from-pick dd ee v i;
        counts_to = λ v i. bb v i ∙ to-pick dd ee v i;
      }

  module _ (N : TrueNumbers g a b s) where
    pub true-numbers : local_numbers g a b s ≡ true
    unfolding local_numbers
    true-numbers =
        let dd = N.costs_from in
        let ee = N.costs_to in
        let be = ee-from dd ee in
        and_intro (right_costs g a (entry s.d)) _ (true-costs g L a in-a (entry s.d) dd)
        (and_intro (ltb (entry s.d b) unreachable) _
        (lt-ltb (entry s.d b) unreachable (omega (arith, N.reached, dd b in_b)))
        (and_intro (right_costs g b (entry s.e)) _ (true-costs g L b in_b (entry s.e) be)
        (and_intro (right_counts g a (local_on b s) (entry s.d) (entry s.f)) _
        (true-counts g L a in-a (local_on b s) (closed-from dd ee N.reached) (entry s.d) dd (entry s.f)
        (λ v i. N.counts_from v i ∙ sym (from-pick dd ee v i)))
        (true-counts g L b in_b (local_on b s) (closed-to dd ee N.reached) (entry s.e) be (entry s.b)
        (λ v i. N.counts_to v i ∙ sym (to-pick dd ee v i))))))

    pub local-on : (v : ℕ) → v < g.size → local_on b s v ≡ on_way g a b v
    local-on = on-true N.costs_from N.costs_to

    pub numbers-total : entry s.f b ≡ path_count g a b
    numbers-total = N.counts_from b in_b ∙ count_from-way g a b b (way_end g L a b N.reached)

    product-true : (v : ℕ) → v < g.size → entry s.f v * entry s.b v ≡ traversals g a b v
    unfolding traversals
    product-true v i = ap₂ ◌*◌ (N.counts_from v i) (N.counts_to v i)

    pub numbers_fit : (v : ℕ) → v < g.size → entry s.f v * entry s.b v ≤ entry s.f b
    numbers_fit v i = rw (product-true v i, numbers-total) (traversals_fit g L a b v)

    pub local-next : (v : ℕ) → v < g.size
        → local_next g b s v ≡ next_vertex g (on_way g a b) (distance g a) (traversals g a b) v
    unfolding local_next
    local-next v i =
        next-same g L (local_on b s) (on_way g a b) (entry s.d) (distance g a) (λ v. entry s.f v * entry s.b v)
        (traversals g a b) local-on N.costs_from product-true v i

    -- ---- the flow

    pub sheet-flow : Flow g a b (local_on b s) (entry s.d) (entry s.f) (entry s.b) (path_count g a b)
    sheet-flow =
        flow-same g L (local_on b s) (on_way g a b) (entry s.d) (distance g a) (entry s.f) (count_from g a b)
        (entry s.b) (count_to g a b) local-on N.costs_from N.counts_from N.counts_to a b (path_count g a b)
        in-a in_b (flow-true g L a b in-a in_b N.reached)

    pub sheet-leads : (v : ℕ) → v < g.size
        → Leads g (local_on b s) (entry s.d) (λ v. entry s.f v * entry s.b v) b v
    sheet-leads v i = record {
      onward = λ o ne.
          flow-onward g L a b (path_count g a b) (local_on b s) (entry s.d) (entry s.f) (entry s.b) sheet-flow
          (path_count-pos g L a b N.reached) v i o ne
          (rw (product-true v i) (traversals-pos g L a b v (sym (local-on v i) ∙ o)));
    }

    -- ---- the next vertices

    pub right-next : (v : ℕ) → v < g.size → right_next g b s v ≡ eqb (entry s.next v) (next_number g a b v)
    unfolding right_next is-there
    right-next v i =
        ⊎_elim
        (λ o. ⊎_elim
        (λ e. rw (local-on v i ∙ o, eq-eqb v b e, number-end g L a b in-a in_b v o e))
        (λ ne.
        let r = next-there g L a b in-a in_b (traversals g a b) v i o ne in
        rw (local-on v i ∙ o, ne_eqb v b ne, local-next v i ∙ r.1, number-next g L a b in-a in_b v r.0 o ne r.1))
        (eq-or-ne v b))
        (λ o. rw (local-on v i ∙ o, number-off g L a b in-a in_b v o)) (true-or-false (on_way g a b v))

    -- ---- the route

    module _ (xx : (v : ℕ) → v < g.size → entry s.next v ≡ next_number g a b v) where
      next_is : (v : ℕ) → v < g.size → by_next s v ≡ some (next_number g a b v)
      next_is v i = ap some (xx v i)

      numbered-inside : (v w : ℕ) → v < g.size → some (next_number g a b v) ≡ some w → w < g.size
      numbered-inside v w i e =
          let q : next_number g a b v ≡ w = cc in
          omega (arith, number-inside g L a b in-a in_b v i)

      next_inside : (v w : ℕ) → v < g.size → by_next s v ≡ some w → w < g.size
      next_inside v w i e = numbered-inside v w i (sym (next_is v i) ∙ e)

      next-arrives : Arrives (by_next s) b g.size a
      next-arrives =
          arrives-cong (by_next s) (λ v. some (next_number g a b v)) b g.size next_is numbered-inside in-a
          (numbers-arrive g L a b in-a in_b N.reached)

      next-route : follow (by_next s) b g.size a ≡ central_route g a b
      next-route =
          follow-cong (by_next s) (λ v. some (next_number g a b v)) b g.size next_is numbered-inside g.size a in-a
          ∙ sym (route-numbers g L a b in-a in_b N.reached)

  pub numbers-exact : (local_numbers g a b s ≡ true) ↔ TrueNumbers g a b s
  numbers-exact = (numbers-true, true-numbers)

  -- ---- the whole route sheet

  pub local-true : Shaped g.size s → entry s.f b < 2 ^ 64 → local_route g a b s ≡ true → TrueRoute g a b s
  unfolding local_route route_sheet
  local-true shape total t =
      let N = numbers-true (and_left (local_numbers g a b s) _ t) in
      let t1 = and_right (local_numbers g a b s) _ t in
      let all = every-at g.size (right_next g b s) (and_left (every g.size (right_next g b s)) _ t1) in
      let xx : (v : ℕ) → v < g.size → entry s.next v ≡ next_number g a b v
      = λ v i. eqb-true (entry s.next v) (next_number g a b v) (sym (right-next N v i) ∙ all v i) in
      let r = route-true g.size (by_next s) a b s.n s.route shape.route
      (and_right (every g.size (right_next g b s)) _ t1) in
      record {
        is_joined = reached-joined g a b N.reached;
        total_fits = total_fits g a b (rw (numbers-total N) at total);
        is = route_sheet-of g a b s shape N (r.points ∙ ap (padded g.size) (next-route N xx)) xx
            (r.count ∙ ap length (next-route N xx));
      }

  route-true-numbers : TrueRoute g a b s → TrueNumbers g a b s
  route-true-numbers S =
      let E = route-entries g L a b in-a in_b s S in
      record {
        reached = joined-reached g a b S.is_joined;
        costs_from = E.d_at;
        costs_to = E.e_at;
        counts_from = E.f_at;
        counts_to = E.b_at;
      }

  pub route-flow : TrueRoute g a b s
      → Flow g a b (local_on b s) (entry s.d) (entry s.f) (entry s.b) (path_count g a b)
  route-flow S = sheet-flow (route-true-numbers S)

  pub true-local : TrueRoute g a b s → local_route g a b s ≡ true
  unfolding local_route route_sheet
  true-local S =
      let E = route-entries g L a b in-a in_b s S in
      let N = route-true-numbers S in
      and_intro (local_numbers g a b s) _ (true-numbers N)
      (and_intro (every g.size (right_next g b s)) _
      (every-all g.size (right_next g b s) (λ v i. right-next N v i ∙ eq-eqb _ _ (E.next_at v i)))
      (true-route g.size (by_next s) a b s.n s.route E.shape.route (record {
        points = ap (λ t. t.route) S.is ∙ ap (padded g.size) (sym (next-route N E.next_at));
        count = ap (λ t. t.n) S.is ∙ ap length (sym (next-route N E.next_at));
      }) in-a (next_inside N E.next_at) (next-arrives N E.next_at)))

  pub local_route-exact : Shaped g.size s → entry s.f b < 2 ^ 64 → (local_route g a b s ≡ true) ↔ TrueRoute g a b s
  local_route-exact shape total = (local-true shape total, true-local)

  -- ---- the no_route sheet

  pub local-no_route : Shaped g.size s → local_no_route g a b s ≡ true → TrueNoRoute g a b s
  unfolding local_no_route no_route_sheet
  local-no_route shape t =
      let t1 = and_right (right_costs g a (entry s.d)) _ t in
      let t2 = and_right (eqb (entry s.d b) unreachable) _ t1 in
      let dd = costs-true g L a in-a (entry s.d) (and_left (right_costs g a (entry s.d)) _ t) in
      let end = eqb-true (entry s.d b) unreachable (and_left (eqb (entry s.d b) unreachable) _ t1) in
      let blank : (v : ℕ) → v < g.size → Blank s v
      = λ v i. blank-cases s v (every-at g.size (blank_at s) (and_right (eqb s.n 0) _ t2) v i) in
      record {
        not_joined = unreachable-joined g a b (sym (dd b in_b) ∙ end);
        is = no_route_sheet-of g a s shape dd blank (eqb-true s.n 0 (and_left (eqb s.n 0) _ t2));
      }

  pub no_route-local : TrueNoRoute g a b s → local_no_route g a b s ≡ true
  unfolding local_no_route
  no_route-local S =
      let E = no_route-entries g a b s S in
      and_intro (right_costs g a (entry s.d)) _ (true-costs g L a in-a (entry s.d) E.d_at)
      (and_intro (eqb (entry s.d b) unreachable) _ (eq-eqb (entry s.d b) unreachable (E.d_at b in_b ∙ E.d_end))
      (and_intro (eqb s.n 0) _ (eq-eqb s.n 0 E.n_zero)
      (every-all g.size (blank_at s) (λ v i. blank-at s v
      (record {
        e = E.e_zero v;
        f = E.f_zero v;
        b = E.b_zero v;
        route = E.route_zero v;
        next = E.next_zero v;
      })))))

  pub local_no_route-exact : Shaped g.size s → (local_no_route g a b s ≡ true) ↔ TrueNoRoute g a b s
  local_no_route-exact shape = (local-no_route shape, no_route-local)
