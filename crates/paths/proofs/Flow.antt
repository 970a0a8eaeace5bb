-- The equations of flow (`Flow`) hold of the true numbers of a job with a route. From the equations alone it follows
-- that the central rule always finds a next vertex before b.
--
--   flow-true        == `Flow` of the true costs and counts
--   flow-same        == `Flow` is the same by functions that agree at every vertex, such as lists of the true numbers
--   flow-onward      == `Onward` of a vertex on the way before b with a positive traversal count, where the equations
--                       hold with a positive total
--   flow_next        == from a vertex on the way before b with a positive traversal count, the central rule finds a
--                       next one that is on the way with a positive traversal count, where the equations hold with a
--                       positive total
--   Comes next a b v == the walk by the rule `next` from a, which ends at b, comes to v
--   flow-walk        == where the equations hold with a positive total, every vertex before b to which the central rule
--                       comes from a has a next one
use Prim.Native.Nat.{ℕ, ◌+◌, ◌*◌, ◌≤◌, ◌<◌}
use mathlib.Core.Path.{◌≡◌, refl, sym, ap, ap₂, ◌∙◌, subst}
use mathlib.Core.Logic.{⊎_elim}
use mathlib.Core.Bool.{Bool, true, false}
use mathlib.Core.Option.{Option, none, some}
use native.Mathlib.Omega.{arith}
use borrow.Author.Tests.{eqb-true, eq-eqb}
use Rattle.basics.specs.Bounded.{pick, sum}
use Rattle.basics.proofs.Order.{le-or-lt, eq-or-ne}
use Rattle.basics.proofs.Bounded.{pick_yes}
use Rattle.basics.proofs.Sums.{sum-cong, sum-zero, sum-swap, sum_one, sum-pos, sum-prefix, sum-next}
use Rattle.paths.specs.Graph.{Graph, Lawful}
use Rattle.paths.specs.Distance.{unreachable, distance, path_count}
use Rattle.paths.specs.Route.{on_way, count_from, count_to, candidate, next_vertex}
use Rattle.paths.specs.Flow.{flow_along, flow_out, leads_to, flow_in, Flow}
use Rattle.paths.specs.Onward.{Onward}
use Rattle.paths.specs.Local.{given, when-eq, inflow}
use Rattle.paths.proofs.Neighbours.{given-at, given-pos, when-yes, when-no, when-pos}
use Rattle.paths.proofs.Counts.{path_count-self, flow-out, flow-in}
use Rattle.paths.proofs.Way.{way-cases, way-start, way_end, way_back, way-forth, way-adds-up}
use Rattle.paths.proofs.Way.{count_from-way, count_to-way}
use Rattle.paths.proofs.Choice.{Candidate, candidate-cases, candidate-at, candidate-same}
use Rattle.paths.proofs.Choice.{best-some, best-is, next-cases, next_inside}

-- Two numbers are equal that are equal where P holds, and 0 where it does not.
same-where : {P : Type 0} (x y : ℕ) → (0 < x → P) → (0 < y → P) → (P → x ≡ y) → x ≡ y
same-where x y p q e =
    ⊎_elim (λ x0. ⊎_elim (λ y0. omega arith) (λ h. e (q h)) (le-or-lt y 0)) (λ h. e (p h)) (le-or-lt x 0)

zero-where : (x : ℕ) → (0 < x → ⊥) → x ≡ 0
zero-where x h = ⊎_elim (λ z. omega arith) (λ p. absurd (h p)) (le-or-lt x 0)

pick_pos : (o : Bool) (x : ℕ) → 0 < pick o x 0 → (o ≡ true) × (0 < x)
pick_pos true x h = (refl, h)
pick_pos false x h = absurd (omega arith)

-- A term of a sum is at most the sum.
sum-term : (n i : ℕ) (F : ℕ → ℕ) → i < n → F i ≤ sum n F
sum-term n i F l = omega (arith, sum-prefix (i + 1) n F (omega arith), sum-next i F)

leads-at : (g : Graph) (u m v : ℕ) → g.step m u ≡ some v → leads_to g u m v ≡ true
unfolding leads_to
leads-at g u m v e = rw (e, leads_to) (eq-eqb v v refl)

leads-only : (g : Graph) (u m v w : ℕ) → leads_to g u m v ≡ true → g.step m u ≡ some w → w ≡ v
unfolding leads_to
leads-only g u m v w t e = eqb-true w v (rw (e, leads_to) at t)

-- ---- the flow along a move

module _ (g : Graph) (on : ℕ → Bool) (D F B : ℕ → ℕ) where
  along-at : (v m w : ℕ) → Candidate g on D v m w → flow_along g on D F B v m ≡ F v * B w
  unfolding flow_along
  along-at v m w c = rw (candidate-at g on D v m w c, flow_along)

  along-pos : (v m : ℕ) → 0 < flow_along g on D F B v m → (w : ℕ) × Candidate g on D v m w × (0 < F v * B w)
  unfolding flow_along
  along-pos v m h = cases (candidate g on D v m) refl h
    where
      cases : (o : Option ℕ) → candidate g on D v m ≡ o → 0 < elim o [ none ↦ 0 | some w ↦ F v * B w ]
          → (w : ℕ) × Candidate g on D v m w × (0 < F v * B w)
      cases none e h = absurd (omega arith)
      cases (some w) e h = (w, candidate-cases g on D v m w e, h)

  -- The flow along move m of u, where that move leads to v; else 0.
  flow_to : ℕ → ℕ → ℕ → ℕ
  flow_to v u m = pick (leads_to g u m v) (flow_along g on D F B u m) 0

  to_at : (v u m : ℕ) → Candidate g on D u m v → flow_to v u m ≡ F u * B v
  unfolding flow_to
  to_at v u m c =
      pick_yes (leads_to g u m v) (flow_along g on D F B u m) 0 (leads-at g u m v c.goes) ∙ along-at u m v c

  to_pos : (v u m : ℕ) → 0 < flow_to v u m → Candidate g on D u m v
  unfolding flow_to
  to_pos v u m h =
      let p = pick_pos (leads_to g u m v) (flow_along g on D F B u m) h in
      let c = along-pos u m p.1 in
      subst (λ x. Candidate g on D u m x) (leads-only g u m v c.0 p.0 c.1.goes) c.1

-- ---- the true numbers

module _ (g : Graph) (L : Lawful g) (a b : ℕ) (in-a : a < g.size) (in_b : b < g.size) where
  abbrev on : ℕ → Bool
  on = on_way g a b

  abbrev D : ℕ → ℕ
  D = distance g a

  abbrev F : ℕ → ℕ
  F = count_from g a b

  abbrev B : ℕ → ℕ
  B = count_to g a b

  counts-at : (u v : ℕ) → on u ≡ true → on v ≡ true → F u * B v ≡ path_count g a u * path_count g v b
  counts-at u v o p = ap₂ ◌*◌ (count_from-way g a b u o) (count_to-way g a b v p)

  -- ---- what leaves v

  module _ (v : ℕ) (in-v : v < g.size) (o : on v ≡ true) where
    -- A candidate is nearer to b by the cost of its move.
    towards : (m w : ℕ) → Candidate g on D v m w → distance g w b + g.cost m ≡ distance g v b
    towards m w c =
        let p = way-cases g a b v o in
        let q = way-cases g a b w c.is_on_way in
        omega (arith, c.adds_up)

    -- The flow along move m, where a cheapest walk leaves v by it; else 0.
    out-term : ℕ → ℕ
    out-term m =
        given (g.step m v)
        (λ w. when-eq (distance g w b + g.cost m) (distance g v b) (path_count g a v * path_count g w b))

    out_at : (m w : ℕ) → Candidate g on D v m w → out-term m ≡ path_count g a v * path_count g w b
    unfolding out-term
    out_at m w c = given-at (g.step m v) w _ c.goes ∙ when-yes _ _ _ (towards m w c)

    out-pos : (m : ℕ) → m < g.moves → 0 < out-term m → (w : ℕ) × Candidate g on D v m w
    unfolding out-term
    out-pos m l h =
        let p = given-pos (g.step m v) _ h in
        let e = (when-pos (distance g p.0 b + g.cost m) (distance g v b) _ p.2).0 in
        let q = way-forth g L a b v p.0 m in-v l p.1 o e in (
          p.0,
          record { goes = p.1; is_on_way = q; adds_up = way-adds-up g L a b v p.0 m in-v l p.1 o q e },
        )

    out-same : (m : ℕ) → m < g.moves → out-term m ≡ flow_along g on D F B v m
    out-same m l =
        same-where (out-term m) (flow_along g on D F B v m) (out-pos m l)
        (λ h. let c = along-pos g on D F B v m h in (c.0, c.1))
        (λ c. out_at m c.0 c.1 ∙ sym (counts-at v c.0 o c.1.is_on_way)
        ∙ sym (along-at g on D F B v m c.0 c.1))

    out-true : (v ≡ b → ⊥) → F v * B v ≡ flow_out g on D F B v
    unfolding flow_out inflow out-term
    out-true ne =
        counts-at v v o o
        ∙ flow-out g L a b v ne (let p = way-cases g a b v o in omega (arith, p.adds_up, p.reached))
        ∙ sum-cong g.moves _ _ out-same

    -- ---- what comes to v

    -- Move m of v leads back to u, from which a cheapest walk comes to v.
    record Back (u m : ℕ) : Type 0 where
      goes : g.step m v ≡ some u
      adds_up : D u + g.cost m ≡ D v

    back-term : ℕ → ℕ → ℕ
    back-term u m =
        given (g.step m v) (λ w. when-eq w u (when-eq (D u + g.cost m) (D v) (path_count g a u * path_count g v b)))

    back_at : (u m : ℕ) → Back u m → back-term u m ≡ path_count g a u * path_count g v b
    unfolding back-term
    back_at u m r = given-at (g.step m v) u _ r.goes ∙ when-yes u u _ refl ∙ when-yes _ _ _ r.adds_up

    back-pos : (u m : ℕ) → 0 < back-term u m → Back u m
    unfolding back-term
    back-pos u m h =
        let p = given-pos (g.step m v) _ h in
        let q = when-pos p.0 u _ p.2 in
        record { goes = p.1 ∙ ap some q.0; adds_up = (when-pos (D u + g.cost m) (D v) _ q.1).0 }

    -- The opposite of such a move leads from u to the candidate v, and the opposite of a move to a candidate leads
    -- back.
    forth : (u m : ℕ) → m < g.moves → Back u m → Candidate g on D u (L.opposite m) v
    forth u m l r = record {
      goes = L.opposite_back m v u l in-v r.goes;
      is_on_way = o;
      adds_up = omega (arith, r.adds_up, L.opposite_cost m l);
    }

    back : (u m : ℕ) → u < g.size → m < g.moves → Candidate g on D u m v → Back u (L.opposite m)
    back u m i l c = record {
      goes = L.opposite_back m u v l i c.goes;
      adds_up = omega (arith, c.adds_up, L.opposite_cost m l);
    }

    -- At most one move of v leads back to u, and one move of u to v, since no two moves have the same ends.
    back_sum : (u m : ℕ) → m < g.moves → Back u m → sum g.moves (back-term u) ≡ path_count g a u * path_count g v b
    back_sum u m l r =
        sum_one g.moves m (back-term u) l
        (λ n k ne. zero-where (back-term u n) (λ h.
        ne (L.distinct n m v u k l in-v (back-pos u n h).goes r.goes)))
        ∙ back_at u m r

    to-sum : (u m : ℕ) → u < g.size → m < g.moves → Candidate g on D u m v
        → sum g.moves (flow_to g on D F B v u) ≡ F u * B v
    to-sum u m i l c =
        sum_one g.moves m (flow_to g on D F B v u) l
        (λ n k ne. zero-where (flow_to g on D F B v u n) (λ h.
        ne (L.distinct n m u v k l i (to_pos g on D F B v u n h).goes c.goes)))
        ∙ to_at g on D F B v u m c

    from-same : (u : ℕ) → u < g.size
        → sum g.moves (back-term u) ≡ pick (on u) (sum g.moves (flow_to g on D F B v u)) 0
    from-same u i = same-where (sum g.moves (back-term u)) (pick (on u) (sum g.moves (flow_to g on D F B v u)) 0)
        (λ h. let m = sum-pos g.moves (back-term u) h in (m.0, m.1, back-pos u m.0 m.2))
        (λ h.
        let p = pick_pos (on u) _ h in
        let m = sum-pos g.moves (flow_to g on D F B v u) p.1 in
        let c = to_pos g on D F B v u m.0 m.2 in
        (L.opposite m.0, L.opposite_listed m.0 m.1, back u m.0 i m.1 c))
        (λ (r : (m : ℕ) × (m < g.moves) × Back u m).
        let m = r.0 in
        let p = way_back g L a b v u m in-v r.1 r.2.goes o r.2.adds_up in
        back_sum u m r.1 r.2
        ∙ sym (counts-at u v p o)
        ∙ sym (to-sum u (L.opposite m) i (L.opposite_listed m r.1) (forth u m r.1 r.2))
        ∙ sym (pick_yes (on u) (sum g.moves (flow_to g on D F B v u)) 0 p))

    -- The sum over the moves of v, spread over the vertices to which they lead.
    spread : (m : ℕ) → m < g.moves
        → given (g.step m v) (λ u. when-eq (D u + g.cost m) (D v) (path_count g a u * path_count g v b))
        ≡ sum g.size (λ u. back-term u m)
    unfolding back-term given
    spread m l = cases (g.step m v) (λ w e. L.inside m v w l in-v e)
      where
        cases : (s : Option ℕ) → ((w : ℕ) → s ≡ some w → w < g.size)
            → given s (λ u. when-eq (D u + g.cost m) (D v) (path_count g a u * path_count g v b))
            ≡ sum g.size (λ u. given s (λ w. when-eq w u
            (when-eq (D u + g.cost m) (D v) (path_count g a u * path_count g v b))))
        cases none inside = sym (sum-zero g.size _ (λ u i. refl))
        cases (some w) inside =
            sym (sum_one g.size w _ (inside w refl) (λ u i ne. when-no w u _ (λ e. ne (sym e)))
            ∙ when-yes w w _ refl)

    in-true : (v ≡ a → ⊥) → F v * B v ≡ flow_in g on D F B v
    unfolding flow_in flow_to inflow
    in-true ne =
        counts-at v v o o
        ∙ flow-in g L a b v in-a in-v ne (let p = way-cases g a b v o in omega (arith, p.adds_up, p.reached))
        ∙ sum-cong g.moves _ _ spread
        ∙ sum-swap g.moves g.size (λ m u. back-term u m)
        ∙ sum-cong g.size _ _ from-same

  pub flow-true : distance g a b < unreachable
      → Flow g a b (on_way g a b) (distance g a) (count_from g a b) (count_to g a b) (path_count g a b)
  flow-true reached =
      let start = way-start g L a b reached in
      let end = way_end g L a b reached in
      record {
        leaves = out-true;
        comes = in-true;
        start = counts-at a a start start ∙ rw (path_count-self g L a) (omega arith);
        end = counts-at b b end end ∙ rw (path_count-self g L b) (omega arith);
      }

-- ---- from the equations alone

pub data Comes (next : ℕ → Option ℕ) (a b : ℕ) : ℕ → Type 0 where
  here : Comes next a b a
  by : {v : ℕ} (w : ℕ) → Comes next a b v → (v ≡ b → ⊥) → next v ≡ some w → Comes next a b w

module _ (g : Graph) (L : Lawful g) (a b t : ℕ) (on : ℕ → Bool) (D F B : ℕ → ℕ) (flow : Flow g a b on D F B t)
    (total-pos : 0 < t) where
  abbrev T : ℕ → ℕ
  T v = F v * B v

  -- The flow along a move of v is part of what comes to its far end.
  carried : (v m w : ℕ) → v < g.size → on v ≡ true → m < g.moves → Candidate g on D v m w → 0 < F v * B w → 0 < T w
  unfolding flow_in flow_to
  carried v m w i o l c h = ⊎_elim
      (λ e. omega (arith, ap T e, flow.start))
      (λ ne.
      let along = sum-term g.moves m (flow_to g on D F B w v) l in
      let into = sum-term g.size v (λ u. pick (on u) (sum g.moves (flow_to g on D F B w u)) 0) i in
      omega (
        arith,
        flow.comes w (L.inside m v w l i c.goes) c.is_on_way ne,
        into,
        pick_yes (on v) (sum g.moves (flow_to g on D F B w v)) 0 o,
        along,
        to_at g on D F B w v m c,
      )) (eq-or-ne w a)

  module _ (v : ℕ) (i : v < g.size) (o : on v ≡ true) (ne : v ≡ b → ⊥) (counted : 0 < F v * B v) where
    pub flow-onward : Onward g on D (λ v. F v * B v) v
    unfolding flow_out
    flow-onward =
        let m = sum-pos g.moves (flow_along g on D F B v) (omega (arith, flow.leaves v i o ne)) in
        let c = along-pos g on D F B v m.0 m.2 in
        record {
          move = m.0;
          to = c.0;
          below = m.1;
          leads = candidate-at g on D v m.0 c.0 c.1;
          counted = carried v m.0 c.0 i o m.1 c.1 c.2;
        }

    pub flow_next : (w : ℕ) × (next_vertex g on D (λ v. F v * B v) v ≡ some w)
        × (w < g.size) × (on w ≡ true) × (0 < F w * B w)
    unfolding next_vertex
    flow_next =
        let r = flow-onward in
        let n = best-some T (candidate g on D v) g.moves r.move r.to r.below r.leads in
        let best = best-is T (candidate g on D v) g.moves n.0 n.1 in (
          n.0,
          n.1,
          next_inside g L on D T v n.0 i n.1,
          (next-cases g on D T v n.0 n.1).by.is_on_way,
          omega (arith, best.highest r.move r.to r.below r.leads, r.counted),
        )

  module _ (in-a : a < g.size) (on-a : on a ≡ true) where
    -- Every vertex to which the walk comes is on the way, with a positive traversal count.
    come : {v : ℕ} → Comes (next_vertex g on D T) a b v → (v < g.size) × (on v ≡ true) × (0 < T v)
    come here = (in-a, on-a, omega (arith, flow.start))
    come (by {v} w r ne e) =
        let p = come r in
        let q = flow_next v p.0 p.1 ne p.2 in
        let s : q.0 ≡ w = cc in
        subst (λ x. (x < g.size) × (on x ≡ true) × (0 < T x)) s (q.2, q.3, q.4)

    pub flow-walk : {v : ℕ} → Comes (next_vertex g on D (λ v. F v * B v)) a b v → (v ≡ b → ⊥)
        → (w : ℕ) × (next_vertex g on D (λ v. F v * B v) v ≡ some w)
    flow-walk {v} r ne = let p = come r in let q = flow_next v p.0 p.1 ne p.2 in (q.0, q.1)

-- ---- the equations read their numbers at vertices alone

module _ (g : Graph) (L : Lawful g) (on on' : ℕ → Bool) (D D' F F' B B' : ℕ → ℕ)
    (same-on : (v : ℕ) → v < g.size → on v ≡ on' v) (same-D : (v : ℕ) → v < g.size → D v ≡ D' v)
    (same-F : (v : ℕ) → v < g.size → F v ≡ F' v) (same-B : (v : ℕ) → v < g.size → B v ≡ B' v) where
  along-same : (v m : ℕ) → v < g.size → m < g.moves → flow_along g on D F B v m ≡ flow_along g on' D' F' B' v m
  unfolding flow_along
  along-same v m i l =
      ap (λ o. elim o [ none ↦ 0 | some w ↦ F v * B w ]) (candidate-same g L on on' D D' same-on same-D v m i l)
      ∙ cases (candidate g on' D' v m) (λ w e. L.inside m v w l i (candidate-cases g on' D' v m w e).goes)
    where
      cases : (o : Option ℕ) → ((w : ℕ) → o ≡ some w → w < g.size)
          → ◌≡◌ {A = ℕ} (elim o [ none ↦ 0 | some w ↦ F v * B w ]) (elim o [ none ↦ 0 | some w ↦ F' v * B' w ])
      cases none inside = refl
      cases (some w) inside = ap₂ ◌*◌ (same-F v i) (same-B w (inside w refl))

  out-cong : (v : ℕ) → v < g.size → flow_out g on D F B v ≡ flow_out g on' D' F' B' v
  unfolding flow_out
  out-cong v i = sum-cong g.moves _ _ (λ m l. along-same v m i l)

  in-cong : (v : ℕ) → flow_in g on D F B v ≡ flow_in g on' D' F' B' v
  unfolding flow_in
  in-cong v = sum-cong g.size _ _ (λ u i. ap₂ (λ o x. pick o x 0) (same-on u i)
      (sum-cong g.moves _ _ (λ m l. ap (λ x. pick (leads_to g u m v) x 0) (along-same u m i l))))

  pub flow-same : (a b t : ℕ) → a < g.size → b < g.size → Flow g a b on' D' F' B' t → Flow g a b on D F B t
  flow-same a b t in-a in_b flow = record {
    leaves = λ v i o ne. count v i ∙ flow.leaves v i (sym (same-on v i) ∙ o) ne ∙ sym (out-cong v i);
    comes = λ v i o ne. count v i ∙ flow.comes v i (sym (same-on v i) ∙ o) ne ∙ sym (in-cong v);
    start = count a in-a ∙ flow.start;
    end = count b in_b ∙ flow.end;
  }
    where
      count : (v : ℕ) → v < g.size → F v * B v ≡ F' v * B' v
      count v i = ap₂ ◌*◌ (same-F v i) (same-B v i)
