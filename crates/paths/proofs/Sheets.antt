-- The sheets of a job: which of them are true, that there is at most one of each kind, and that its numbers fit.
--
--   joined-exact        == `joined g a b` holds exactly where a walk, of any cost, joins a to b
--   Outcome, outcome    == each job has a true route sheet, or a true no_route sheet, or neither because the total is
--                          above 2^64 - 1
--   true_route-one, true_no_route-one == a job has at most one true sheet of each kind
--   lengths_are n s     == the test that each slice of the sheet s has n places
--   lengths-shaped, shaped-lengths == it passes exactly where `Shaped n s`
--   sheet-eq            == two sheets are equal whose parts are equal
--   same_sheet-exact    == `same_sheet s t` holds exactly where s ≡ t
--   TrueNumbers g a b s == the sheet s has the true costs and counts of a job with a route
--   route_sheet-of      == a sheet with `TrueNumbers`, the next vertices and the central route is the true route sheet
--   Blank s v           == s has 0 for vertex v in every slice but d
--   no_route_sheet-of   == a sheet with the true costs, no points and `Blank` at each vertex is the true no_route sheet
--   RouteEntries, route-entries == what a true route sheet holds, place by place, and its bounds
--   NoRouteEntries, no_route-entries == what a true no_route sheet holds, place by place, and its bounds
--   d-bound, e-bound    == a cost on a true route sheet that is below `unreachable` is at most the dearest move times
--                          size - 1
use Prim.Native.Nat.{ℕ, ◌-◌, ◌*◌, ◌^◌, ◌≤◌, ◌<◌}
use mathlib.Core.Path.{◌≡◌, refl, sym, ◌∙◌, subst}
use mathlib.Core.Logic.{⊎_elim, ◌↔◌}
use mathlib.Core.Bool.{Bool, true, false, ◌&&◌}
use mathlib.Core.List.{List}
use native.Mathlib.Omega.{arith}
use borrow.Author.Tests.{eqb-true, eq-eqb, ltb-true, ltb-false, lt-ltb, le-ltb}
use lib.Dec.{eqb}
use lib.ListN.{length, get_or, length-replicate}
use Rattle.basics.specs.Lists.{tabulate, padded, same}
use Rattle.basics.proofs.Bools.{not-both, true-or-false, and_intro, and_left, and_right, all-six}
use Rattle.basics.proofs.Lists.{
  get_or-zeros,
  zeros_of,
  length-padded,
  get_or-padded,
  get_or-padded-past,
  length-tabulate,
  get_d_tabulate,
  tabulate-of,
  same_refl,
  same-eq,
}
use Rattle.paths.specs.Graph.{Graph, Lawful}
use Rattle.paths.specs.Walk.{HasWalk}
use Rattle.paths.specs.Distance.{unreachable, distance, path_count}
use Rattle.paths.specs.Route.{on_way, count_from, count_to, traversals, central_route, next_number}
use Rattle.paths.specs.Sheet.{Sheet, sheet_of, joined, fits, route_sheet, no_route_sheet}
use Rattle.paths.specs.Sheet.{TrueRoute, TrueNoRoute, same_sheet}
use Rattle.paths.specs.Local.{Shaped, entry}
use Rattle.paths.proofs.Distance.{distance-le}
use Rattle.paths.proofs.Bound.{reached-exact, distance-bound}
use Rattle.paths.proofs.Reverse.{distance-sym}
use Rattle.paths.proofs.Way.{traversals_fit, count_from-fits, count_to-fits, count_from-off, count_to-off}
use Rattle.paths.proofs.Route.{route-length, route-pos, route_inside}
use Rattle.paths.proofs.NextNumbers.{number-inside}

-- ---- the lengths

abbrev pub lengths_are : ℕ → Sheet → Bool
lengths_are n s =
    eqb (length s.d) n && eqb (length s.e) n && eqb (length s.f) n && eqb (length s.b) n
    && eqb (length s.route) n && eqb (length s.next) n

pub lengths-shaped : (n : ℕ) (s : Sheet) → lengths_are n s ≡ true → Shaped n s
lengths-shaped n s t =
    let r =
    all-six (eqb (length s.d) n) (eqb (length s.e) n) (eqb (length s.f) n) (eqb (length s.b) n)
    (eqb (length s.route) n) (eqb (length s.next) n) t in
    record {
      d = eqb-true (length s.d) n r.0;
      e = eqb-true (length s.e) n r.1;
      f = eqb-true (length s.f) n r.2;
      b = eqb-true (length s.b) n r.3;
      route = eqb-true (length s.route) n r.4;
      next = eqb-true (length s.next) n r.5;
    }

pub shaped-lengths : (n : ℕ) (s : Sheet) → Shaped n s → lengths_are n s ≡ true
shaped-lengths n s S =
    rw (
      eq-eqb (length s.d) n S.d,
      eq-eqb (length s.e) n S.e,
      eq-eqb (length s.f) n S.f,
      eq-eqb (length s.b) n S.b,
      eq-eqb (length s.route) n S.route,
      eq-eqb (length s.next) n S.next,
    )

-- ---- joined, and a total that fits

pub joined-reached : (g : Graph) (a b : ℕ) → joined g a b ≡ true → distance g a b < unreachable
unfolding joined
joined-reached g a b e = ltb-true (distance g a b) unreachable e

pub reached-joined : (g : Graph) (a b : ℕ) → distance g a b < unreachable → joined g a b ≡ true
unfolding joined
reached-joined g a b h = lt-ltb (distance g a b) unreachable h

pub not-joined-at : (g : Graph) (a b : ℕ) → joined g a b ≡ false → distance g a b ≡ unreachable
unfolding joined
not-joined-at g a b e = omega (arith, ltb-false (distance g a b) unreachable e, distance-le g a b)

pub unreachable-joined : (g : Graph) (a b : ℕ) → distance g a b ≡ unreachable → joined g a b ≡ false
unfolding joined
unreachable-joined g a b e = le-ltb (distance g a b) unreachable (omega arith)

pub joined-exact : (g : Graph) → Lawful g → (a b : ℕ) → a < g.size → g.size ≤ 16384
    → (joined g a b ≡ true) ↔ ((k : ℕ) × HasWalk g k a b)
joined-exact g L a b i small =
    let r = reached-exact g L a i small b in
    (λ e. r.0 (joined-reached g a b e), λ w. reached-joined g a b (r.1 w))

pub fits-total : (g : Graph) (a b : ℕ) → fits g a b ≡ true → path_count g a b < 2 ^ 64
unfolding fits
fits-total g a b e = ltb-true (path_count g a b) (2 ^ 64) e

pub total_fits : (g : Graph) (a b : ℕ) → path_count g a b < 2 ^ 64 → fits g a b ≡ true
unfolding fits
total_fits g a b h = lt-ltb (path_count g a b) (2 ^ 64) h

fails-total : (g : Graph) (a b : ℕ) → fits g a b ≡ false → 2 ^ 64 ≤ path_count g a b
unfolding fits
fails-total g a b e = ltb-false (path_count g a b) (2 ^ 64) e

-- ---- of each job exactly one

pub data Outcome (g : Graph) (a b : ℕ) : Type 0 where
  has_route : TrueRoute g a b (route_sheet g a b) → ((s : Sheet) → TrueNoRoute g a b s → ⊥) → Outcome g a b
  has_no_route : TrueNoRoute g a b (no_route_sheet g a) → ((s : Sheet) → TrueRoute g a b s → ⊥) → Outcome g a b
  has_too_many : joined g a b ≡ true → 2 ^ 64 ≤ path_count g a b → ((s : Sheet) → TrueRoute g a b s → ⊥)
      → ((s : Sheet) → TrueNoRoute g a b s → ⊥) → Outcome g a b

pub outcome : (g : Graph) (a b : ℕ) → Outcome g a b
outcome g a b = ⊎_elim
    (λ j. ⊎_elim
    (λ f. has_route (record { is_joined = j; total_fits = f; is = refl }) (λ s t. not-both _ j t.not_joined))
    (λ f. has_too_many j (fails-total g a b f) (λ s t. not-both _ t.total_fits f)
    (λ s t. not-both _ j t.not_joined))
    (true-or-false (fits g a b)))
    (λ j. has_no_route (record { not_joined = j; is = refl }) (λ s t. not-both _ t.is_joined j))
    (true-or-false (joined g a b))

pub true_route-one : {g : Graph} {a b : ℕ} {s t : Sheet} → TrueRoute g a b s → TrueRoute g a b t → s ≡ t
true_route-one S T = S.is ∙ sym T.is

pub true_no_route-one : {g : Graph} {a b : ℕ} {s t : Sheet} → TrueNoRoute g a b s → TrueNoRoute g a b t → s ≡ t
true_no_route-one S T = S.is ∙ sym T.is

-- ---- two sheets compared

sheet-cong : {d d' e e' f f' b b' r r' x x' : List ℕ} {n n' : ℕ} → d ≡ d' → e ≡ e' → f ≡ f' → b ≡ b' → r ≡ r'
    → x ≡ x' → n ≡ n' → sheet_of d e f b r x n ≡ sheet_of d' e' f' b' r' x' n'
sheet-cong p q x y z v w = rw (p, q, x, y, z, v, w)

pub sheet-eq : (s t : Sheet) → s.d ≡ t.d → s.e ≡ t.e → s.f ≡ t.f → s.b ≡ t.b → s.route ≡ t.route
    → s.next ≡ t.next → s.n ≡ t.n → s ≡ t
sheet-eq s t d e f b r x n = sheet-cong d e f b r x n

same-sheet-eq : (s t : Sheet) → same_sheet s t ≡ true → s ≡ t
unfolding same_sheet
same-sheet-eq s t e =
    let D = same s.d t.d in
    let E = same s.e t.e in
    let F = same s.f t.f in
    let B = same s.b t.b in
    let R = same s.route t.route in
    let X = same s.next t.next in
    let n = eqb s.n t.n in
    let r = all-six D E F B R X (and_left (D && E && F && B && R && X) n e) in
    sheet-eq s t (same-eq s.d t.d r.0) (same-eq s.e t.e r.1) (same-eq s.f t.f r.2)
    (same-eq s.b t.b r.3) (same-eq s.route t.route r.4) (same-eq s.next t.next r.5)
    (eqb-true s.n t.n (and_right (D && E && F && B && R && X) n e))

same-sheet-refl : (s : Sheet) → same_sheet s s ≡ true
unfolding same_sheet
same-sheet-refl s =
    and_intro _ _ (and_intro _ _ (and_intro _ _ (and_intro _ _ (and_intro _ _ (and_intro _ _ (same_refl s.d)
    (same_refl s.e)) (same_refl s.f)) (same_refl s.b)) (same_refl s.route)) (same_refl s.next))
    (eq-eqb s.n s.n refl)

pub same_sheet-exact : (s t : Sheet) → (same_sheet s t ≡ true) ↔ (s ≡ t)
same_sheet-exact s t = (same-sheet-eq s t, λ e. rw e (same-sheet-refl t))

-- ---- a true sheet by its places

pub record TrueNumbers (g : Graph) (a b : ℕ) (s : Sheet) : Type 0 where
  pub reached : distance g a b < unreachable
  pub costs_from : (v : ℕ) → v < g.size → entry s.d v ≡ distance g a v
  pub costs_to : (v : ℕ) → v < g.size → entry s.e v ≡ distance g v b
  pub counts_from : (v : ℕ) → v < g.size → entry s.f v ≡ count_from g a b v
  pub counts_to : (v : ℕ) → v < g.size → entry s.b v ≡ count_to g a b v

pub route_sheet-of : (g : Graph) (a b : ℕ) (s : Sheet) → Shaped g.size s → TrueNumbers g a b s
    → s.route ≡ padded g.size (central_route g a b)
    → ((v : ℕ) → v < g.size → entry s.next v ≡ next_number g a b v)
    → s.n ≡ length (central_route g a b) → s ≡ route_sheet g a b
unfolding route_sheet
route_sheet-of g a b s shape N r x n =
    sheet-eq s (route_sheet g a b)
    (tabulate-of g.size s.d (distance g a) shape.d N.costs_from)
    (tabulate-of g.size s.e (λ v. distance g v b) shape.e N.costs_to)
    (tabulate-of g.size s.f (count_from g a b) shape.f N.counts_from)
    (tabulate-of g.size s.b (count_to g a b) shape.b N.counts_to) r
    (tabulate-of g.size s.next (next_number g a b) shape.next x) n

pub record Blank (s : Sheet) (v : ℕ) : Type 0 where
  pub e : entry s.e v ≡ 0
  pub f : entry s.f v ≡ 0
  pub b : entry s.b v ≡ 0
  pub route : entry s.route v ≡ 0
  pub next : entry s.next v ≡ 0

pub no_route_sheet-of : (g : Graph) (a : ℕ) (s : Sheet) → Shaped g.size s
    → ((v : ℕ) → v < g.size → entry s.d v ≡ distance g a v) → ((v : ℕ) → v < g.size → Blank s v) → s.n ≡ 0
    → s ≡ no_route_sheet g a
unfolding no_route_sheet
no_route_sheet-of g a s shape dd blank n =
    sheet-eq s (no_route_sheet g a)
    (tabulate-of g.size s.d (distance g a) shape.d dd)
    (zeros_of g.size s.e shape.e (λ v i. (blank v i).e))
    (zeros_of g.size s.f shape.f (λ v i. (blank v i).f))
    (zeros_of g.size s.b shape.b (λ v i. (blank v i).b))
    (zeros_of g.size s.route shape.route (λ v i. (blank v i).route))
    (zeros_of g.size s.next shape.next (λ v i. (blank v i).next)) n

-- ---- what a true sheet holds

pub record RouteEntries (g : Graph) (a b : ℕ) (s : Sheet) : Type 0 where
  pub shape : Shaped g.size s
  pub d_at : (v : ℕ) → v < g.size → entry s.d v ≡ distance g a v
  pub e_at : (v : ℕ) → v < g.size → entry s.e v ≡ distance g v b
  pub f_at : (v : ℕ) → v < g.size → entry s.f v ≡ count_from g a b v
  pub b_at : (v : ℕ) → v < g.size → entry s.b v ≡ count_to g a b v
  pub d_fits : (v : ℕ) → v < g.size → entry s.d v ≤ unreachable
  pub e_fits : (v : ℕ) → v < g.size → entry s.e v ≤ unreachable
  pub total_fits : path_count g a b < 2 ^ 64
  pub f_fits : (v : ℕ) → v < g.size → entry s.f v ≤ path_count g a b
  pub b_fits : (v : ℕ) → v < g.size → entry s.b v ≤ path_count g a b
  pub traversals_fit : (v : ℕ) → v < g.size → entry s.f v * entry s.b v ≤ path_count g a b
  pub f_off : (v : ℕ) → v < g.size → on_way g a b v ≡ false → entry s.f v ≡ 0
  pub b_off : (v : ℕ) → v < g.size → on_way g a b v ≡ false → entry s.b v ≡ 0
  pub n_pos : 1 ≤ s.n
  pub n_fits : s.n ≤ g.size
  pub route_at : (i : ℕ) → i < s.n → entry s.route i ≡ get_or (central_route g a b) i 0
  pub route_inside : (i : ℕ) → i < s.n → entry s.route i < g.size
  pub route_past : (i : ℕ) → s.n ≤ i → entry s.route i ≡ 0
  pub next_at : (v : ℕ) → v < g.size → entry s.next v ≡ next_number g a b v
  pub next_inside : (v : ℕ) → v < g.size → entry s.next v < g.size

module _ (g : Graph) (L : Lawful g) (a b : ℕ) (in-a : a < g.size) (in_b : b < g.size) where
  f-entry : (v : ℕ) → v < g.size → entry (tabulate g.size (count_from g a b)) v ≡ count_from g a b v
  f-entry v i = get_d_tabulate g.size v (count_from g a b) i

  b_entry : (v : ℕ) → v < g.size → entry (tabulate g.size (count_to g a b)) v ≡ count_to g a b v
  b_entry v i = get_d_tabulate g.size v (count_to g a b) i

  products-fit : (v : ℕ) → count_from g a b v * count_to g a b v ≤ path_count g a b
  unfolding traversals
  products-fit v = traversals_fit g L a b v

  entries-of : distance g a b < unreachable → path_count g a b < 2 ^ 64 → RouteEntries g a b (route_sheet g a b)
  unfolding route_sheet
  entries-of reached total =
      let R = central_route g a b in
      let len = route-length g L a b in-a in_b in
      record {
        shape = record {
          d = length-tabulate g.size _;
          e = length-tabulate g.size _;
          f = length-tabulate g.size _;
          b = length-tabulate g.size _;
          route = length-padded g.size R len;
          next = length-tabulate g.size _;
        };
        d_at = λ v i. get_d_tabulate g.size v (distance g a) i;
        e_at = λ v i. get_d_tabulate g.size v (λ v. distance g v b) i;
        f_at = f-entry;
        b_at = b_entry;
        d_fits = λ v i. rw (get_d_tabulate g.size v (distance g a) i) (distance-le g a v);
        e_fits = λ v i. rw (get_d_tabulate g.size v (λ v. distance g v b) i) (distance-le g v b);
        total_fits = total;
        f_fits = λ v i. rw (f-entry v i) (count_from-fits g L a b v);
        b_fits = λ v i. rw (b_entry v i) (count_to-fits g L a b v);
        traversals_fit = λ v i. rw (f-entry v i, b_entry v i) (products-fit v);
        f_off = λ v i o. f-entry v i ∙ count_from-off g a b v o;
        b_off = λ v i o. b_entry v i ∙ count_to-off g a b v o;
        n_pos = route-pos g L a b in-a in_b reached;
        n_fits = len;
        route_at = λ i l. get_or-padded g.size i R l;
        route_inside = λ i l. rw (get_or-padded g.size i R l) (route_inside g L a b in-a in_b i l);
        route_past = λ i l. get_or-padded-past g.size i R l;
        next_at = λ v i. get_d_tabulate g.size v (next_number g a b) i;
        next_inside = λ v i.
            rw (get_d_tabulate g.size v (next_number g a b) i) (number-inside g L a b in-a in_b v i);
      }

  pub route-entries : (s : Sheet) → TrueRoute g a b s → RouteEntries g a b s
  route-entries s S =
      subst (RouteEntries g a b) (sym S.is)
      (entries-of (joined-reached g a b S.is_joined) (fits-total g a b S.total_fits))

  -- Where no move costs more than `top`.
  module _ (s : Sheet) (R : RouteEntries g a b s) (top : ℕ) (dear : (m : ℕ) → m < g.moves → g.cost m ≤ top) where
    pub d-bound : (v : ℕ) → v < g.size → entry s.d v < unreachable → entry s.d v ≤ top * (g.size - 1)
    d-bound v i h =
        let e = R.d_at v i in
        rw e (distance-bound g L a in-a top dear v i (rw e at h))

    pub e-bound : (v : ℕ) → v < g.size → entry s.e v < unreachable → entry s.e v ≤ top * (g.size - 1)
    e-bound v i h =
        let e = R.e_at v i ∙ distance-sym g L v b i in_b in
        rw e (distance-bound g L b in_b top dear v i (rw e at h))

pub record NoRouteEntries (g : Graph) (a b : ℕ) (s : Sheet) : Type 0 where
  pub shape : Shaped g.size s
  pub d_at : (v : ℕ) → v < g.size → entry s.d v ≡ distance g a v
  pub d_end : distance g a b ≡ unreachable
  pub e_zero : (v : ℕ) → entry s.e v ≡ 0
  pub f_zero : (v : ℕ) → entry s.f v ≡ 0
  pub b_zero : (v : ℕ) → entry s.b v ≡ 0
  pub route_zero : (i : ℕ) → entry s.route i ≡ 0
  pub next_zero : (v : ℕ) → entry s.next v ≡ 0
  pub n_zero : s.n ≡ 0

no-entries-of : (g : Graph) (a b : ℕ) → distance g a b ≡ unreachable → NoRouteEntries g a b (no_route_sheet g a)
unfolding no_route_sheet
no-entries-of g a b h =
    record {
      shape = record {
        d = length-tabulate g.size _;
        e = length-replicate g.size 0;
        f = length-replicate g.size 0;
        b = length-replicate g.size 0;
        route = length-replicate g.size 0;
        next = length-replicate g.size 0;
      };
      d_at = λ v i. get_d_tabulate g.size v (distance g a) i;
      d_end = h;
      e_zero = get_or-zeros g.size;
      f_zero = get_or-zeros g.size;
      b_zero = get_or-zeros g.size;
      route_zero = get_or-zeros g.size;
      next_zero = get_or-zeros g.size;
      n_zero = refl;
    }

pub no_route-entries : (g : Graph) (a b : ℕ) (s : Sheet) → TrueNoRoute g a b s → NoRouteEntries g a b s
no_route-entries g a b s S =
    subst (NoRouteEntries g a b) (sym S.is) (no-entries-of g a b (not-joined-at g a b S.not_joined))
