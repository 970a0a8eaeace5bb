-- The central route is a joined list, which thinning requires: each of its moves is open, and the ends of an open move
-- see each other. The zeros after it in the route slice change neither the kept positions nor the lines.
--
--   open-sees      == the ends of an open move see each other
--   walk-sees      == each vertex of an open walk sees the next
--   central-joined == the central route in the route slice is a joined list
--   get_or-pad     == get_or (padded n l) i 0 = get_or l i 0
--   kept-padded    == the kept positions of a list are the same with zeros after it
--   route-padded   == the two lines of a route are the same with zeros after its points
use Prim.Native.Nat.{ℕ, zero, suc, ◌≤◌, ◌<◌, pred}
use mathlib.Core.Path.{◌≡◌, refl, sym, ap, ap₂, ◌∙◌, subst, fun_ext}
use mathlib.Core.Logic.{⊎_elim}
use mathlib.Core.Bool.{Bool, true, false}
use mathlib.Core.Option.{Option, none, some}
use mathlib.Core.List.{List, [], ◌∷◌, ◌++◌}
use native.Mathlib.Omega.{arith}
use lib.ListN.{length, get_or}
use Rattle.basics.specs.Lists.{padded}
use Rattle.basics.proofs.Order.{le-or-lt}
use Rattle.basics.proofs.Bounded.{every-all}
use Rattle.basics.proofs.Lists.{tabulate-cong, length-padded, get_or-padded, get_or-padded-past}
use Rattle.basics.proofs.Options.{none-some}
use Rattle.floor.specs.Floor.{Floor, floor_of, vertices, number, column, row}
use Rattle.floor.proofs.Numbers.{number_of}
use Rattle.sight.specs.Sight.{segment, sees}
use Rattle.moves.specs.declared.Move.{Move}
use Rattle.moves.specs.declared.Directions.{Directions}
use Rattle.moves.specs.Moves.{move_at}
use Rattle.moves.specs.Steps.{then_at, far_end_at, end_if, open_end_at, open_end}
use Rattle.paths.specs.Graph.{Graph, Lawful}
use Rattle.paths.specs.Walk.{Walk, stop, go}
use Rattle.paths.specs.Distance.{unreachable, distance}
use Rattle.paths.specs.Route.{central_route}
use Rattle.paths.proofs.Route.{route-walk, route-pos, route-length, route_inside}
use Rattle.grid.specs.Grid.{floor_graph, job_shape}
use Rattle.std.specs.Prelude.{Ok}
use Rattle.grid.proofs.Lawful.{floor-lawful}
use Rattle.grid.proofs.Jobs.{FitJob, job-fit}
use Rattle.thinning.specs.Thinning.{seen, kept_from, kept_positions, sees_next, joined_list}
use Rattle.thinning.specs.Known.{VertexList}
use Rattle.thinning.proofs.Shapes.{vertex-yes, joined-on}
use Rattle.records.specs.Lines.{route_line, at_line, kept_of}
use Rattle.program_text.specs.Text.{route_text}

-- ---- the ends of an open move see each other

open-sees : (f : Floor) (m : Move) (x y w : ℕ) → open_end_at f m x y ≡ some w
    → sees f (segment f.wide (number f.wide x y) w) ≡ true
unfolding end_if then_at
open-sees f m x y w e = far (far_end_at f.wide f.high m x y) e
  where
    sight : ℕ → Bool
    sight v = sees f (segment f.wide (number f.wide x y) v)

    shown : (v : ℕ) (b : Bool) → sight v ≡ b → ◌≡◌ {A = Option ℕ} (elim b [ true ↦ some v | false ↦ none ]) (some w)
        → sight w ≡ true
    shown v true p q = let same : v ≡ w = cc in subst (λ z. sight z ≡ true) same p
    shown v false p q = none-some q

    far : (o : Option ℕ) → then_at o (λ v. elim (sight v) [ true ↦ some v | false ↦ none ]) ≡ some w → sight w ≡ true
    far none q = none-some q
    far (some v) q = shown v (sight v) refl q

move-sees : (f : Floor) (m : Move) (u w : ℕ) → open_end f m u ≡ some w → sees f (segment f.wide u w) ≡ true
move-sees f m u w e =
    subst (λ z. sees f (segment f.wide z w) ≡ true) (number_of f.wide u)
    (open-sees f m (column f.wide u) (row f.wide u) w e)

module _ (f : Floor) (r : Directions) where
  walk-starts : {k u t : ℕ} {l : List ℕ} → Walk (floor_graph f r) k u t l → get_or l 0 0 ≡ u
  walk-starts stop = refl
  walk-starts (go m w b e rest) = refl

  walk-sees : {k u t : ℕ} {l : List ℕ} → Walk (floor_graph f r) k u t l → (i : ℕ) → suc i < length l
      → sees f (segment f.wide (get_or l i 0) (get_or l (suc i) 0)) ≡ true
  walk-sees stop i h = absurd (omega arith)
  walk-sees (go {u = u} m w b e rest) zero h = rw (walk-starts rest) (move-sees f (move_at r m) u w e)
  walk-sees (go m w b e rest) (suc i) h = walk-sees rest i (omega arith)

-- ---- a list with zeros after it

get_or-end : (l : List ℕ) (i : ℕ) → length l ≤ i → get_or l i 0 ≡ 0
get_or-end [] i h = refl
get_or-end (x ∷ l) zero h = absurd (omega arith)
get_or-end (x ∷ l) (suc i) h = get_or-end l i (omega arith)

pub get_or-pad : (n i : ℕ) (l : List ℕ) → get_or (padded n l) i 0 ≡ get_or l i 0
get_or-pad n i l =
    ⊎_elim (λ lt. get_or-padded n i l lt) (λ ge. get_or-padded-past n i l (omega arith) ∙ sym (get_or-end l i (omega arith)))
    (le-or-lt (suc i) (length l))

pub kept-padded : (f : Floor) (l : List ℕ) (n k : ℕ) → kept_positions f (padded n l) k ≡ kept_positions f l k
unfolding kept_positions seen
kept-padded f l n k =
    let same : (i j : ℕ) → seen f (padded n l) i j ≡ seen f l i j =
    (λ i j. ap₂ (λ x y. sees f (segment f.wide x y)) (get_or-pad n i l) (get_or-pad n j l)) in
    ap (λ s. kept_from s k k 0) (fun_ext (λ i. fun_ext (λ j. same i j)))

pub route-padded : (number : ℕ) (f : Floor) (l : List ℕ) (n cost total k : ℕ)
    → route_text number f (padded n l) cost total k ≡ route_text number f l cost total k
route-padded number f l n cost total k =
    let ps = kept_positions f l k in
    let vertices : kept_of (length ps) ps (padded n l) ≡ kept_of (length ps) ps l =
    tabulate-cong (length ps) (λ i. get_or (padded n l) (get_or ps i 0) 0) (λ i. get_or l (get_or ps i 0) 0)
    (λ i h. get_or-pad n (get_or ps i 0) l) in
    ap (λ qs. route_line number cost total k (length qs) ++ at_line (kept_of (length qs) qs (padded n l)))
    (kept-padded f l n k)
    ∙ ap (λ vs. route_line number cost total k (length ps) ++ at_line vs) vertices

-- ---- the route is joined

module _ (w h : ℕ) (map : List ℕ) (nb a b : ℕ) (r : Directions) (e : job_shape w h map nb a b ≡ Ok r) where
  abbrev f : Floor
  f = floor_of w h map

  abbrev g : Graph
  g = floor_graph f r

  fit : FitJob w h map nb a b r
  fit = job-fit w h map nb a b r e

  lawful : Lawful g
  lawful = floor-lawful f r fit.lawful

  pub central-length : length (central_route (floor_graph (floor_of w h map) r) a b) ≤ vertices w h
  central-length = route-length g lawful a b fit.start fit.end

  pub central-joined : distance (floor_graph (floor_of w h map) r) a b < unreachable
      → joined_list (floor_of w h map) (padded (vertices w h) (central_route (floor_graph (floor_of w h map) r) a b))
      (length (central_route (floor_graph (floor_of w h map) r) a b)) ≡ true
  unfolding sees_next seen
  central-joined reached =
      let route : List ℕ = central_route g a b in
      let n : ℕ = length route in
      let l : List ℕ = padded (vertices w h) route in
      let walk = route-walk g lawful a b fit.start fit.end reached in
      let listed : VertexList w h l n = record {
        within = omega (arith, length-padded (vertices w h) route central-length, central-length);
        each = every-all n _ (λ k i. vertex-yes w h l k
            (rw (get_or-pad (vertices w h) k route) (route_inside g lawful a b fit.start fit.end k i)));
      } in
      sym (joined-on f l n (route-pos g lawful a b fit.start fit.end reached) listed)
      ∙ every-all (pred n) (sees_next f l) (λ k i.
      rw (get_or-pad (vertices w h) k route, get_or-pad (vertices w h) (suc k) route)
      (walk-sees f r walk k (omega arith)))
