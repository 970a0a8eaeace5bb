-- The true sheets in the words of demands 2 and 3, number by number.
--
--   on-exact        == on_shortest D E b v holds exactly where OnWay D E b v does
--   next-exact      == `next_vertex` is w exactly where `CentralNext` holds of w
--   route-words     == TrueRoute g a b s holds exactly where TrueRouteSheet g a b s does
--   none-words      == TrueNoRoute g a b s holds exactly where TrueNoRouteSheet g a b s does
use Prim.Native.Nat.{ℕ, zero, suc, pred, ◌+◌, ◌*◌, ◌≤◌, ◌<◌}
use mathlib.Core.Path.{◌≡◌, refl, sym, ap, ◌∙◌, subst}
use mathlib.Core.Logic.{◌↔◌, ⊎_elim}
use mathlib.Core.Bool.{Bool, true, false}
use mathlib.Core.Option.{some}
use native.Mathlib.Omega.{arith}
use borrow.Author.Tests.{eqb-true, eq-eqb, ne_eqb, ltb-true, lt-ltb, leb-true, le-leb, le-ltb}
use lib.Dec.{leb, ltb, eqb}
use Rattle.basics.specs.Bounded.{pick, every}
use Rattle.basics.proofs.Order.{le-or-lt, eq-or-ne}
use Rattle.basics.proofs.Bools.{true-or-false, not-both, and_intro, and_left, and_right, and_both}
use Rattle.basics.proofs.Bounded.{pick_yes, pick_no, every-all, every-at}
use Rattle.paths.specs.Graph.{Graph, Lawful}
use Rattle.paths.specs.Distance.{unreachable, distance}
use Rattle.paths.specs.Route.{on_shortest, on_way, candidate, next_vertex}
use Rattle.paths.specs.Sheet.{Sheet, TrueRoute, TrueNoRoute}
use Rattle.paths.specs.Local.{entry, Shaped, is-there, local_on, local_next, local_numbers, right_next, local_route, by_next}
use Rattle.paths.specs.Local.{right_point, right_route}
use Rattle.paths.proofs.Neighbours.{is-there-cases, is-there-at}
use Rattle.paths.proofs.Choice.{candidate-cases, candidate-at, Best, next_vertex-exact}
use Rattle.paths.proofs.Sheets.{TrueNumbers, RouteEntries, route-entries, no_route-entries}
use Rattle.paths.proofs.Sheets.{joined-reached, unreachable-joined, no_route_sheet-of}
use Rattle.paths.proofs.Way.{shortest-same, count_from-way, count_from-off, count_to-way, count_to-off, way-start, way_end}
use Rattle.paths.proofs.SheetTest.{local-true, true-local, true-numbers, local-on}
use Rattle.paths.proofs.RouteTest.{point-inside, point-last, point-on, point-past}
use Rattle.demands.specs.Demands.{OnWay, LeadsOn, CentralNext, Lengths, OnWayIn, NextIn}
use Rattle.demands.specs.Demands.{CentralRoute, TrueRouteSheet, TrueNoRouteSheet}
use Rattle.demands.proofs.Walks.{reached-joins, apart-unreachable, cheapest-is, cheapest-one, number_is}
use Rattle.demands.proofs.Walks.{number-one}

-- ---- on the way

module _ (D E : ℕ → ℕ) (b v : ℕ) where
  pub on-exact : (on_shortest D E b v ≡ true) ↔ OnWay D E b v
  unfolding on_shortest
  on-exact = (
    λ e. let r = and_both (ltb (D b) unreachable) _ e in
        record { sum = eqb-true (D v + E v) (D b) r.1; below = ltb-true (D b) unreachable r.0 },
    λ o. and_intro (ltb (D b) unreachable) _ (lt-ltb (D b) unreachable o.below) (eq-eqb (D v + E v) (D b) o.sum),
  )

-- ---- the next vertex

module _ (g : Graph) (D E F B : ℕ → ℕ) (b u : ℕ) where
  abbrev T : ℕ → ℕ
  T v = F v * B v

  abbrev on : ℕ → Bool
  on = on_shortest D E b

  leads-candidate : (m w : ℕ) → LeadsOn g D E b u m w → candidate g on D u m ≡ some w
  leads-candidate m w l = candidate-at g on D u m w (record {
    goes = l.goes;
    is_on_way = (on-exact D E b w).1 l.is_on_way;
    adds_up = l.cost;
  })

  candidate-leads : (m w : ℕ) → m < g.moves → candidate g on D u m ≡ some w → LeadsOn g D E b u m w
  candidate-leads m w i e =
      let c = candidate-cases g on D u m w e in
      record { listed = i; goes = c.goes; cost = c.adds_up; is_on_way = (on-exact D E b w).0 c.is_on_way }

  best-next : (w : ℕ) → Best T (candidate g on D u) g.moves w → CentralNext g D E F B b u w
  best-next w r = record {
    move = r.place;
    leads = candidate-leads r.place w r.below r.here;
    highest = λ m x l. r.highest m x l.listed (leads-candidate m x l);
    first = λ m x l e. ⊎_elim (λ le. le)
        (λ lt. absurd (omega (arith, r.first m x lt (leads-candidate m x l)))) (le-or-lt r.place m);
  }

  next-best : (w : ℕ) → CentralNext g D E F B b u w → Best T (candidate g on D u) g.moves w
  next-best w c = record {
    place = c.move;
    below = c.leads.listed;
    here = leads-candidate c.move w c.leads;
    highest = λ i x l e. c.highest i x (candidate-leads i x l e);
    first = λ i x l e.
        let k = candidate-leads i x (omega (arith, c.leads.listed)) e in
        ⊎_elim (λ (le : T w ≤ T x). absurd (omega (arith, c.first i x k (omega (arith, c.highest i x k)))))
        (λ lt. lt) (le-or-lt (T w) (T x));
  }

  pub next-exact : (w : ℕ) → (next_vertex g on D T u ≡ some w) ↔ CentralNext g D E F B b u w
  next-exact w = (
    λ e. best-next w ((next_vertex-exact g on D T u w).0 e),
    λ c. (next_vertex-exact g on D T u w).1 (next-best w c),
  )

-- ---- the true route sheet

module _ (g : Graph) (L : Lawful g) (small : g.size ≤ 16384) (a b : ℕ) (in-a : a < g.size) (in_b : b < g.size)
    (s : Sheet) where
  abbrev R : ℕ → ℕ
  R = entry s.route

  abbrev X : ℕ → ℕ
  X = entry s.next

  pub in-exact : (v : ℕ) → (local_on b s v ≡ true) ↔ OnWayIn s b v
  unfolding local_on
  in-exact v = on-exact (entry s.d) (entry s.e) b v

  in-next : (u w : ℕ) → (local_next g b s u ≡ some w) ↔ NextIn g s b u w
  unfolding local_next local_on
  in-next u w = next-exact g (entry s.d) (entry s.e) (entry s.f) (entry s.b) b u w

  off-way : (v : ℕ) → (OnWayIn s b v → ⊥) → local_on b s v ≡ false
  off-way v n = ⊎_elim (λ y. absurd (n ((in-exact v).0 y))) (λ f. f) (true-or-false (local_on b s v))

  lengths-shaped : Lengths g.size s → Shaped g.size s
  lengths-shaped l =
      record { d = l.d; e = l.e; f = l.f; b = l.b; route = l.route; next = l.next }

  shaped-lengths : Shaped g.size s → Lengths g.size s
  shaped-lengths l =
      record { d = l.d; e = l.e; f = l.f; b = l.b; route = l.route; next = l.next }

  -- What `right_next` says off the way, at b, and elsewhere on the way.
  module _ (v : ℕ) (t : right_next g b s v ≡ true) where
    next-off-way : (OnWayIn s b v → ⊥) → X v ≡ 0
    unfolding right_next
    next-off-way n = eqb-true (X v) 0 (sym (pick_no (local_on b s v) _ _ (off-way v n)) ∙ t)

    module _ (o : OnWayIn s b v) where
      inner : pick (eqb v b) (eqb (X v) b) (is-there (local_next g b s v) (λ w. eqb (X v) w)) ≡ true
      unfolding right_next
      inner = sym (pick_yes (local_on b s v) _ _ ((in-exact v).1 o)) ∙ t

      next-at-end : v ≡ b → X v ≡ b
      next-at-end e = eqb-true (X v) b (sym (pick_yes (eqb v b) _ _ (eq-eqb v b e)) ∙ inner)

      next-before : (v ≡ b → ⊥) → NextIn g s b v (X v)
      next-before ne =
          let c = is-there-cases (local_next g b s v) (λ w. eqb (X v) w)
          (sym (pick_no (eqb v b) (eqb (X v) b) _ (ne_eqb v b ne)) ∙ inner) in
          (in-next v (X v)).0 (c.1 ∙ ap some (sym (eqb-true (X v) c.0 c.2)))

  right-next : (v : ℕ) → ((OnWayIn s b v → ⊥) → X v ≡ 0) → (v ≡ b → X v ≡ b)
      → (OnWayIn s b v → (v ≡ b → ⊥) → NextIn g s b v (X v)) → right_next g b s v ≡ true
  unfolding right_next
  right-next v off at_b before =
      ⊎_elim
      (λ y. pick_yes (local_on b s v) _ _ y ∙ ⊎_elim
      (λ e. pick_yes (eqb v b) _ _ (eq-eqb v b e) ∙ eq-eqb (X v) b (at_b e))
      (λ ne. pick_no (eqb v b) _ _ (ne_eqb v b ne)
      ∙ is-there-at (local_next g b s v) (λ w. eqb (X v) w) (X v) ((in-next v (X v)).1 (before ((in-exact v).0 y) ne))
      (eq-eqb (X v) (X v) refl))
      (eq-or-ne v b))
      (λ f. pick_no (local_on b s v) _ _ f ∙ eq-eqb (X v) 0 (off (λ o. not-both (local_on b s v) ((in-exact v).1 o) f)))
      (true-or-false (local_on b s v))

  -- ---- from the true route sheet to `TrueRouteSheet`

  module _ (W : TrueRoute g a b s) where
    entries : RouteEntries g a b s
    entries = route-entries g L a b in-a in_b s W

    reached : distance g a b < unreachable
    reached = joined-reached g a b W.is_joined

    numbers : TrueNumbers g a b s
    numbers = record {
      reached = reached;
      costs_from = entries.d_at;
      costs_to = entries.e_at;
      counts_from = entries.f_at;
      counts_to = entries.b_at;
    }

    way_in : (v : ℕ) → v < g.size → OnWayIn s b v → on_way g a b v ≡ true
    way_in v i o = sym (local-on g L a b in-a in_b s numbers v i) ∙ (in-exact v).1 o

    way_out : (v : ℕ) → v < g.size → (OnWayIn s b v → ⊥) → on_way g a b v ≡ false
    way_out v i n = sym (local-on g L a b in-a in_b s numbers v i) ∙ off-way v n

    tests : local_route g a b s ≡ true
    tests = true-local g L a b in-a in_b s W

    next-test : (v : ℕ) → v < g.size → right_next g b s v ≡ true
    unfolding local_route
    next-test v i =
        every-at g.size (right_next g b s)
        (and_left (every g.size (right_next g b s)) _ (and_right (local_numbers g a b s) _ tests)) v i

    route-test : right_route g.size (by_next s) a b s.n R ≡ true
    unfolding local_route
    route-test = and_right (every g.size (right_next g b s)) _ (and_right (local_numbers g a b s) _ tests)

    first-test : (0 < s.n) × (s.n ≤ g.size) × (R 0 ≡ a)
        × ((i : ℕ) → i < g.size → right_point g.size (by_next s) b s.n R i ≡ true)
    unfolding right_route
    first-test =
        let t1 = and_both (ltb 0 s.n) _ route-test in
        let t2 = and_both (leb s.n g.size) _ t1.1 in
        let t3 = and_both (eqb (R 0) a) _ t2.1 in (
          ltb-true 0 s.n t1.0,
          leb-true s.n g.size t2.0,
          eqb-true (R 0) a t3.0,
          every-at g.size (right_point g.size (by_next s) b s.n R) t3.1,
        )

    point : (i : ℕ) → i < s.n → right_point g.size (by_next s) b s.n R i ≡ true
    point i l = first-test.3 i (omega (arith, first-test.1))

    on-a : OnWayIn s b a
    on-a = (in-exact a).0
        (local-on g L a b in-a in_b s numbers a in-a ∙ way-start g L a b reached)

    on-b : OnWayIn s b b
    on-b = (in-exact b).0
        (local-on g L a b in-a in_b s numbers b in_b ∙ way_end g L a b reached)

    -- Before the last point the route is not at b, and goes on by the central rule.
    before-b : (i : ℕ) → suc i < s.n → R i ≡ b → ⊥
    before-b i l e =
        omega (arith, point-last g.size (by_next s) b s.n R i (omega arith) (point i (omega arith)) e)

    next_is : (i : ℕ) → suc i < s.n → X (R i) ≡ R (suc i)
    next_is i l =
        let q = (point-on g.size (by_next s) b s.n R i (omega arith) (point i (omega arith)) (before-b i l)).1 in cc

    inside : (i : ℕ) → i < s.n → R i < g.size
    inside i l = point-inside g.size (by_next s) b s.n R i l (point i l)

    goes_by : (i : ℕ) → suc i < s.n → OnWayIn s b (R i) → NextIn g s b (R i) (R (suc i))
    goes_by i l o =
        subst (NextIn g s b (R i)) (next_is i l)
        (next-before (R i) (next-test (R i) (inside i (omega arith))) o (before-b i l))

    on-route : (i : ℕ) → i < s.n → OnWayIn s b (R i)
    on-route zero l = rw first-test.2 on-a
    on-route (suc i) l = (goes_by i l (on-route i (omega arith))).leads.is_on_way

    central : CentralRoute g a b s
    central = record {
      some = first-test.0;
      few = first-test.1;
      starts = first-test.2;
      ends = last (pred s.n) (omega (arith, first-test.0));
      goes_on = λ i l. (before-b i l, goes_by i l (on-route i (omega arith)));
      rest = λ i l k. point-past g.size (by_next s) b s.n R i l (first-test.3 i k);
    }
      where
        last : (i : ℕ) → suc i ≡ s.n → R i ≡ b
        last i e = ⊎_elim (λ y. y)
            (λ ne. absurd (omega (
              arith,
              (point-on g.size (by_next s) b s.n R i (omega arith) (point i (omega arith)) ne).0,
            )))
            (eq-or-ne (R i) b)

    route-says : TrueRouteSheet g a b s
    route-says = record {
      lengths = shaped-lengths entries.shape;
      is_joined = (reached-joins g L small a b in-a).0 reached;
      costs_from = λ v i. rw (entries.d_at v i) (cheapest-is g L small a v in-a);
      costs_to = λ v i. rw (entries.e_at v i) (cheapest-is g L small v b i);
      counts_from = λ v i o. rw (entries.f_at v i, count_from-way g a b v (way_in v i o))
          (number_is g L small a v in-a);
      counts_to = λ v i o. rw (entries.b_at v i, count_to-way g a b v (way_in v i o)) (number_is g L small v b i);
      counts_off = λ v i n. (entries.f_off v i (way_out v i n), entries.b_off v i (way_out v i n));
      total_fits = omega (arith, entries.total_fits, entries.f_fits b in_b);
      next_on = λ v i o ne. next-before v (next-test v i) o ne;
      next_end = next-at-end b (next-test b in_b) on-b refl;
      next_off = λ v i n. next-off-way v (next-test v i) n;
      route = central;
    }

  -- ---- from `TrueRouteSheet` to the true route sheet

  module _ (W : TrueRouteSheet g a b s) where
    said-reached : distance g a b < unreachable
    said-reached = (reached-joins g L small a b in-a).1 W.is_joined

    dd : (v : ℕ) → v < g.size → entry s.d v ≡ distance g a v
    dd v i = cheapest-one g L small a v in-a (W.costs_from v i)

    ee : (v : ℕ) → v < g.size → entry s.e v ≡ distance g v b
    ee v i = cheapest-one g L small v b i (W.costs_to v i)

    on_same : (v : ℕ) → v < g.size → local_on b s v ≡ on_way g a b v
    unfolding local_on on_way
    on_same v i =
        shortest-same (entry s.d) (distance g a) (entry s.e) (λ w. distance g w b) b v (dd v i) (ee v i)
        (dd b in_b)

    said_in : (v : ℕ) → v < g.size → on_way g a b v ≡ true → OnWayIn s b v
    said_in v i o = (in-exact v).0 (on_same v i ∙ o)

    said-out : (v : ℕ) → v < g.size → on_way g a b v ≡ false → OnWayIn s b v → ⊥
    said-out v i o y = not-both (local_on b s v) ((in-exact v).1 y) (on_same v i ∙ o)

    said-numbers : TrueNumbers g a b s
    said-numbers = record {
      reached = said-reached;
      costs_from = dd;
      costs_to = ee;
      counts_from = λ v i. ⊎_elim
          (λ o. number-one g L small a v in-a (W.counts_from v i (said_in v i o)) ∙ sym (count_from-way g a b v o))
          (λ o. (W.counts_off v i (said-out v i o)).0 ∙ sym (count_from-off g a b v o))
          (true-or-false (on_way g a b v));
      counts_to = λ v i. ⊎_elim
          (λ o. number-one g L small v b i (W.counts_to v i (said_in v i o)) ∙ sym (count_to-way g a b v o))
          (λ o. (W.counts_off v i (said-out v i o)).1 ∙ sym (count_to-off g a b v o))
          (true-or-false (on_way g a b v));
    }

    C : CentralRoute g a b s
    C = W.route

    said-inside : (i : ℕ) → i < s.n → R i < g.size
    said-inside zero l = rw C.starts in-a
    said-inside (suc i) l =
        let n = (C.goes_on i l).1.leads in
        L.inside _ (R i) (R (suc i)) n.listed (said-inside i (omega arith)) n.goes

    said-on : (i : ℕ) → i < s.n → OnWayIn s b (R i)
    said-on zero l = rw C.starts (said_in a in-a (way-start g L a b said-reached))
    said-on (suc i) l = (C.goes_on i l).1.leads.is_on_way

    -- The central rule allows one vertex only, so the next point of the route is the sheet's next vertex.
    same_next : (i : ℕ) → suc i < s.n → X (R i) ≡ R (suc i)
    same_next i l =
        let c = C.goes_on i l in
        let k : i < s.n = omega arith in
        let p = (in-next (R i) (X (R i))).1 (W.next_on (R i) (said-inside i k) (said-on i k) c.0) in
        let q = (in-next (R i) (R (suc i))).1 c.1 in
        cc

    said-point : (i : ℕ) → i < g.size → right_point g.size (by_next s) b s.n R i ≡ true
    unfolding right_point is-there
    said-point i k = ⊎_elim before past (le-or-lt (suc i) s.n)
      where
        at-end : i < s.n → R i ≡ b → suc i ≡ s.n
        at-end l e = ⊎_elim (λ lt. absurd ((C.goes_on i lt).0 e)) (λ ge. omega arith) (le-or-lt (suc (suc i)) s.n)

        on-end : i < s.n → (R i ≡ b → ⊥) → suc i < s.n
        on-end l ne =
            ⊎_elim (λ lt. lt) (λ ge. let e : pred s.n ≡ i = omega arith in absurd (ne (rw e at C.ends)))
            (le-or-lt (suc (suc i)) s.n)

        before : i < s.n → right_point g.size (by_next s) b s.n R i ≡ true
        before l =
            pick_yes (ltb i s.n) _ _ (lt-ltb i s.n l)
            ∙ and_intro (ltb (R i) g.size) _ (lt-ltb (R i) g.size (said-inside i l))
            (⊎_elim
            (λ e. pick_yes (eqb (R i) b) _ _ (eq-eqb (R i) b e) ∙ eq-eqb (suc i) s.n (at-end l e))
            (λ ne. pick_no (eqb (R i) b) _ _ (ne_eqb (R i) b ne)
            ∙ and_intro (ltb (suc i) s.n) _ (lt-ltb (suc i) s.n (on-end l ne))
            (eq-eqb (X (R i)) (R (suc i)) (same_next i (on-end l ne))))
            (eq-or-ne (R i) b))

        past : s.n < suc i → right_point g.size (by_next s) b s.n R i ≡ true
        past l = pick_no (ltb i s.n) _ _ (le-ltb i s.n (omega arith)) ∙ eq-eqb (R i) 0 (C.rest i (omega arith) k)

    said-route : right_route g.size (by_next s) a b s.n R ≡ true
    unfolding right_route
    said-route =
        and_intro (ltb 0 s.n) _ (lt-ltb 0 s.n C.some)
        (and_intro (leb s.n g.size) _ (le-leb s.n g.size C.few)
        (and_intro (eqb (R 0) a) _ (eq-eqb (R 0) a C.starts)
        (every-all g.size (right_point g.size (by_next s) b s.n R) said-point)))

    said-tests : local_route g a b s ≡ true
    unfolding local_route
    said-tests =
        and_intro (local_numbers g a b s) _ (true-numbers g L a b in-a in_b s said-numbers)
        (and_intro (every g.size (right_next g b s)) _
        (every-all g.size (right_next g b s)
        (λ v i. right-next v (W.next_off v i) (λ e. rw e W.next_end) (W.next_on v i)))
        said-route)

    says-route : TrueRoute g a b s
    says-route =
        local-true g L a b in-a in_b s (lengths-shaped W.lengths) (omega (arith, W.total_fits)) said-tests

  pub route-words : TrueRoute g a b s ↔ TrueRouteSheet g a b s
  route-words = (route-says, says-route)

  -- ---- the true no_route sheet

  none-says : TrueNoRoute g a b s → TrueNoRouteSheet g a b s
  none-says W =
      let N = no_route-entries g a b s W in
      record {
        lengths = shaped-lengths N.shape;
        not_joined = λ j. omega (arith, N.d_end, (reached-joins g L small a b in-a).1 j);
        costs_from = λ v i. rw (N.d_at v i) (cheapest-is g L small a v in-a);
        else_zero = λ v i. (N.e_zero v, N.f_zero v, N.b_zero v, N.route_zero v, N.next_zero v);
        no_points = N.n_zero;
      }

  says_none : TrueNoRouteSheet g a b s → TrueNoRoute g a b s
  says_none W = record {
    not_joined = unreachable-joined g a b (apart-unreachable g L small a b in-a W.not_joined);
    is = no_route_sheet-of g a s (lengths-shaped W.lengths)
        (λ v i. cheapest-one g L small a v in-a (W.costs_from v i))
        (λ v i. let z = W.else_zero v i in
        record { e = z.0; f = z.1; b = z.2; route = z.3; next = z.4 }) W.no_points;
  }

  pub none-words : TrueNoRoute g a b s ↔ TrueNoRouteSheet g a b s
  none-words = (none-says, says_none)
