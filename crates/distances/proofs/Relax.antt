-- The far ends of the open moves of one class from a vertex, offered a key one after the other.
--
--   Offered ..    == what an offer of a key to x leaves: x costs at most key
--   offered       == an offer to the far end of a move leaves the settled with one more, or as they were
--   offered-known == an offer to a vertex that has a cost leaves them as they were
--   RelaxedTo ..  == the moves of the first j directions of a class are relaxed: the invariant of the loop over a class
--   RelaxedOn ..  == `RelaxedTo` on any graph, directions and source that the loop can run on
--   relaxed-none  == `RelaxedTo` of no direction, before the loop
--   far_at ..     == where a direction leads from a vertex by its mask: the vertex itself where that move is shut
--   far_at-is     == `far_at` for the vertex, its mask and the direction as the code reads them
--   vertex-in     == the vertex that is relaxed is one of the graph's
--   class-rows    == a class has an eighth of the directions, four
--   dir-low       == the next direction is below 32
--   reaching      == the far end of the next direction can be worked out
--   offering      == the far end of the next direction can be offered the key
--   relaxed-more  == once the key is offered to the far end of the next direction, that direction is relaxed too
--   relaxed-all   == after four directions all moves of the class are
use Prim.Native.Nat.{ℕ, ◌+◌, ◌/◌, ◌≤◌, ◌<◌}
use mathlib.Core.Path.{◌≡◌, refl, sym, ap, ◌∙◌, subst}
use mathlib.Core.Logic.{⊎_elim}
use mathlib.Core.Option.{Option, none, some}
use mathlib.Core.List.{List}
use native.Mathlib.Omega.{arith}
use borrow.Author.Tests.{eq-eqb, ne_eqb}
use lib.Dec.{eqb}
use lib.ListN.{length, set}
use lib.Seq.{set-get_or}
use Rattle.basics.specs.Bounded.{pick}
use Rattle.basics.proofs.Order.{eq-or-ne}
use Rattle.basics.proofs.Bounded.{pick_no}
use Rattle.moves.specs.declared.Directions.{Directions}
use Rattle.offsets.specs.declared.Class.{Class}
use Rattle.moves.specs.Moves.{dir_at}
use Rattle.offsets.specs.Offsets.{Movable, shifted_by, dir_end}
use Rattle.offsets.specs.Classes.{class_dir}
use Rattle.neighbours.specs.Least.{end_or, end_at}
use Rattle.paths.specs.Graph.{Graph}
use Rattle.paths.specs.Distance.{unreachable}
use Rattle.paths.specs.Local.{entry}
use Rattle.paths.proofs.Listing.{at-cost}
use Rattle.paths.proofs.Distance.{snoc}
use Rattle.moves.proofs.Table.{lawful-move}
use Rattle.neighbours.proofs.Shown.{Shows}
use Rattle.workspace.specs.Regions.{mask_at}
use Rattle.distances.specs.Dijkstra.{Given, Ready, KeyWalk, Grown, Relaxing, Relaxed}
use Rattle.distances.proofs.Store.{
  last,
  settled-le,
  key-low,
  grown-refl,
  grown-trans,
  at-w,
  grown-more,
  ready-more,
}
use Rattle.distances.proofs.Store.{ready-past, grown-past}

-- ---- an offer

record Offered (g : Graph) (a x key n r : ℕ) (d d' work work' : List ℕ) : Type 0 where
  ready : Ready g a r key d' work'
  grown : Grown g.size n r key d d' work work'
  low : entry d' x ≤ key

module _ {g : Graph} {a key n x : ℕ} {d work : List ℕ} (R : Ready g a n key d work) (inside : x < g.size) where
  -- x has a cost: whatever is stored past the settled, all is as it was
  has-cost : (entry d x ≡ unreachable → ⊥) → Offered g a x key n n d d work (set work n x)
  has-cost ne = record {
    ready = ready-past R x;
    grown = grown-past R x;
    low =
        let S = R.settled in
        let f = S.ordered.found x inside (omega (arith, S.at_most x inside)) in
        omega (arith, ap (entry d) f.2, R.under f.0 f.1);
  }

  -- x has none: it is the vertex settled next
  first-cost : {u m : ℕ} → m < g.moves → g.step m u ≡ some x → KeyWalk g a u (g.cost m) key
      → entry d x ≡ unreachable → Offered g a x key n (n + 1) d (set d x key) work (set work n x)
  first-cost {u} {m} lt goes s bare = record {
    ready = ready-more g a n key x d work R inside bare (_, at-cost s.total (snoc g m x lt goes s.walk.1));
    grown = grown-more g a n key x d work R inside bare;
    low = omega (arith, at-w g a n key x d work R inside bare);
  }

  offered-known : {r : ℕ} {d' work' : List ℕ} → (entry d x ≡ unreachable → ⊥)
      → Given x key n r d d' work work' → Offered g a x key n r d d' work work'
  offered-known {r} {d'} {work'} ne G =
      let b = ne_eqb (entry d x) unreachable ne in
      let e : d' ≡ d = G.cost ∙ ap (λ z. set d x (pick z key (entry d x))) b ∙ set-get_or d x 0 in
      let k : r ≡ n = omega (arith, G.count, pick_no {A = ℕ} (eqb (entry d x) unreachable) 1 0 b) in
      rw (e, G.place, k) (has-cost ne)

  offered : {u m r : ℕ} {d' work' : List ℕ} → m < g.moves → g.step m u ≡ some x → KeyWalk g a u (g.cost m) key
      → Given x key n r d d' work work' → Offered g a x key n r d d' work work'
  offered {u} {m} {r} {d'} {work'} lt goes s G = ⊎_elim
      (λ bare.
      let b = eq-eqb (entry d x) unreachable bare in
      let e : d' ≡ set d x key = G.cost ∙ ap (λ z. set d x (pick z key (entry d x))) b in
      let k : r ≡ n + 1 = G.count ∙ ap (λ z. n + pick z 1 0) b in
      rw (e, G.place, k) (first-cost lt goes s bare))
      (λ ne. offered-known ne G)
      (eq-or-ne (entry d x) unreachable)

-- ---- the moves of a class

pub record RelaxedTo (g : Graph) (r : Directions) (a u : ℕ) (c : Class) (j key n s : ℕ)
    (d d' work work' : List ℕ) : Type 0
  where
    pub ready : Ready g a s key d' work'
    pub grown : Grown g.size n s key d d' work work'
    pub relaxed : (i m w : ℕ) → i < j → dir_at r m ≡ class_dir c i → m < g.moves → g.step m u ≡ some w
        → entry d' w ≤ key

-- The same of any graph, directions and source that the loop can run on.
abbrev pub RelaxedOn : (shifts : List ℕ) (c : Class) (p j key n s : ℕ) (d d' work work' : List ℕ) → Type 0
RelaxedOn shifts c p j key n s d d' work work' =
    (g : Graph) (r : Directions) (a : ℕ) → Relaxing g r shifts c a p key n d work
    → RelaxedTo g r a (entry work p) c j key n s d d' work work'

-- Where direction k leads from u by the mask of u, or u itself.
abbrev pub far_at : (shifts work : List ℕ) (v u k : ℕ) → ℕ
far_at shifts work v u k = end_at shifts (mask_at v work u) u k

pub far_at-is : (shifts work : List ℕ) (v : ℕ) {u u' n k k' x : ℕ} → u' ≡ u → n ≡ mask_at v work u' → k' ≡ k
    → x ≡ end_at shifts n u' k' → x ≡ far_at shifts work v u k
far_at-is shifts work v p m q e = rw (m, p, q) at e

module _ {g : Graph} {r : Directions} {shifts : List ℕ} {c : Class} {a p key n : ℕ} {d work : List ℕ}
    (B : Relaxing g r shifts c a p key n d work) where
  abbrev u : ℕ
  u = entry work p

  abbrev mask : ℕ
  mask = mask_at (length d) work u

  is : mask ≡ mask_at g.size work u
  is = ap (λ v. mask_at v work u) B.ready.settled.d_len

  -- the steps from u
  shown : Shows g r shifts (mask_at g.size work u) u
  shown = B.masked.shows u B.walk.inside

  pub vertex-in : u < length d
  vertex-in = omega (arith, B.walk.inside, B.ready.settled.d_len)

  pub class-rows : length shifts / 8 ≡ 4
  class-rows = ap (λ l. l / 8) shown.readable.shifts_len

  pub relaxed-none : RelaxedTo g r a u c 0 key n n d d work work
  relaxed-none = record {
    ready = B.ready;
    grown = grown-refl g.size n key d work;
    relaxed = λ i m w h. absurd (omega arith);
  }

  -- direction j of the class
  module _ {j : ℕ} (h : j < 4) where
    abbrev k : ℕ
    k = class_dir c j

    -- the move of that direction
    move : (m : ℕ) × (m < r.count) × (dir_at r m ≡ k) × (g.cost m ≡ c.cost)
    move =
        let m = B.class.move B.used j h in (m.0, m.1, m.2, sym (shown.agrees.cost m.0 m.1) ∙ m.3)

    listed : move.0 < g.moves
    listed = omega (arith, move.1, shown.agrees.moves)

    movable : Movable mask u k (shifted_by shifts k)
    movable = rw is (rw move.2 at (shown.readable.movable move.0 move.1))

    pub dir-low : k < 32
    dir-low = movable.dir

    pub reaching : (k < length shifts) × Movable mask u k (shifted_by shifts k)
    reaching =
        let R = shown.readable in
        let t = (lawful-move r move.0 R.lawful move.1).in_the_table in
        (omega (arith, rw move.2 at t, R.shifts_len), movable)

    -- a move of that direction leads where the mask says
    leads : (m : ℕ) → m < g.moves → dir_at r m ≡ k → dir_end shifts mask u k ≡ g.step m u
    leads m lt e = rw is (rw e at (shown.agrees.step m (omega (arith, shown.agrees.moves))))

    module _ {x : ℕ} (end : x ≡ far_at shifts work (length d) u k) where
      -- x is the far end, or u itself
      ends : (P : Type 0) → ((w : ℕ) → g.step move.0 u ≡ some w → x ≡ w → P)
          → (g.step move.0 u ≡ none → x ≡ u → P) → P
      ends P far shut = cases (g.step move.0 u) refl
        where
          cases : (t : Option ℕ) → g.step move.0 u ≡ t → P
          cases none e = shut e (end ∙ ap (end_or u) (leads move.0 listed move.2 ∙ e))
          cases (some w) e = far w e (end ∙ ap (end_or u) (leads move.0 listed move.2 ∙ e))

      far-inside : x < g.size
      far-inside = ends (x < g.size)
          (λ w e q. omega (arith, B.lawful.inside move.0 u w listed B.walk.inside e))
          (λ e q. omega (arith, B.walk.inside))

      module _ {s : ℕ} {d' work' : List ℕ} (P : RelaxedTo g r a u c j key n s d d' work work') where
        pub offering : (x < length d') × (x < 16384) × (s < length work')
        offering =
            let S = P.ready.settled in
            let i = far-inside in
            (omega (arith, S.d_len), omega (arith, S.few), omega (arith, settled-le S, S.work_len, S.source))

        -- u has a cost
        known : entry d' u < unreachable
        known =
            let was = B.ready.settled.ordered.placed p B.place in
            omega (arith, P.grown.same_cost u was)

        given : {o : ℕ} {d'' work'' : List ℕ} → Given x key s o d' d'' work' work''
            → Offered g a x key s o d' d'' work' work''
        given {o} {d''} {work''} G = ends (Offered g a x key s o d' d'' work' work'')
            (λ w e q. offered P.ready far-inside listed (e ∙ ap some (sym q))
            (subst (λ z. KeyWalk g a u z key) (sym move.3) B.walk) G)
            (λ e q. offered-known P.ready far-inside (λ z. omega (arith, known, ap (entry d') q)) G)

        pub relaxed-more : {o : ℕ} {d'' work'' : List ℕ} → Given x key s o d' d'' work' work''
            → RelaxedTo g r a u c (j + 1) key n o d d'' work work''
        relaxed-more {o} {d''} {work''} G = let O = given G in record {
          ready = O.ready;
          grown = grown-trans (key-low P.ready) P.grown O.grown;
          relaxed = λ i m w l e lt st. ⊎_elim
              (λ before.
              let low = P.relaxed i m w before e lt st in
              omega (arith, O.grown.same_cost w (omega (arith, key-low P.ready))))
              (λ same.
              let q : x ≡ w = end ∙ ap (end_or u) (leads m lt (e ∙ ap (class_dir c) same) ∙ st) in
              omega (arith, ap (entry d'') q, O.low)) (last i j l);
        }

  pub relaxed-all : {s : ℕ} {d' work' : List ℕ} → RelaxedTo g r a u c 4 key n s d d' work work'
      → Relaxed g r a u c key n s d d' work work'
  relaxed-all P = record {
    ready = P.ready;
    grown = P.grown;
    relaxed = λ m w M lt st. P.relaxed M.0 m w M.1 M.2 lt st;
  }
