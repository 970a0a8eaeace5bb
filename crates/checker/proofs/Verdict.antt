-- What the answer says: which sheets are accepted as a route, which as no route, and that every other one is refused.
--
--   accepts-route     == the first test of `verdict` holds exactly where `TrueRoute` does
--   accepts-no_route  == the second test of `verdict` holds exactly where `TrueNoRoute` does
--   verdict-tests     == `verdict` in terms of the tests that the checker runs
--   verdict-route     == `verdict` is `Ok Route` exactly where `TrueRoute` holds
--   verdict-no_route  == `verdict` is `Ok NoRoute` exactly where `TrueNoRoute` holds
--   verdict-else      == `verdict` is refusal 9 where neither holds
--   Exactly g a b s c == c is the answer that rule 8.2 asks for, said with walks in place of `joined`
--   check-exact       == the checker's answer to every job of good shape is `Exactly` right, whatever numbers stand on
--                        the sheet
use Prim.Native.Nat.{ℕ, ◌^◌, ◌≤◌, ◌<◌}
use mathlib.Core.Path.{◌≡◌, refl, sym, ap, ap₂, ◌∙◌}
use mathlib.Core.Logic.{◌↔◌}
use mathlib.Core.Bool.{Bool, true, false, ◌&&◌, not}
use mathlib.Core.List.{List}
use borrow.Author.Tests.{not-true}
use Rattle.std.specs.Prelude.{Result, Ok, Err}
use Rattle.basics.specs.Bounded.{pick}
use Rattle.basics.proofs.Bools.{iff-eq, and_intro, and_left, and_right, not-both}
use Rattle.floor.specs.Floor.{floor_of, vertices}
use Rattle.floor.specs.declared.Refusal.{Refusal}
use Rattle.floor.specs.declared.Refusal.TheVariants.{FalseSheet}
use Rattle.moves.specs.declared.Directions.{Directions}
use Rattle.paths.specs.Graph.{Graph, Lawful}
use Rattle.paths.specs.Walk.{HasWalk}
use Rattle.paths.specs.Distance.{path_count}
use Rattle.paths.specs.Sheet.{Sheet, joined, fits, route_sheet, no_route_sheet, TrueRoute, TrueNoRoute, same_sheet}
use Rattle.paths.specs.Local.{entry, Shaped, local_route, local_no_route}
use Rattle.paths.proofs.Sheets.{same_sheet-exact, joined-exact, fits-total, total_fits}
use Rattle.paths.proofs.SheetTest.{local_route-exact, local_no_route-exact}
use Rattle.grid.specs.Grid.{floor_graph, job_shape}
use Rattle.grid.proofs.Jobs.{job-fit}
use Rattle.grid.proofs.Lawful.{floor-lawful, size-le}
use Rattle.checker.specs.declared.SheetKind.{SheetKind}
use Rattle.checker.specs.declared.SheetKind.TheVariants.{Route, NoRoute}
use Rattle.checker.specs.Answer.{verdict, sheet_sized, check_answer}
use Rattle.checker.specs.Tests.{route_test, no_route_test}
use Rattle.checker.proofs.Exact.{route_test-local, no_route_test-local}

-- ---- the two tests of the verdict

module _ (g : Graph) (a b : ℕ) (s : Sheet) where
  abbrev route_good : Bool
  route_good = joined g a b && (fits g a b && same_sheet s (route_sheet g a b))

  abbrev no_route_good : Bool
  no_route_good = not (joined g a b) && same_sheet s (no_route_sheet g a)

  pub accepts-route : (route_good ≡ true) ↔ TrueRoute g a b s
  accepts-route = (
    λ t.
        let u = and_right (joined g a b) _ t in
        record {
          is_joined = and_left (joined g a b) _ t;
          total_fits = and_left (fits g a b) _ u;
          is = (same_sheet-exact s (route_sheet g a b)).0 (and_right (fits g a b) _ u);
        },
    λ r. and_intro _ _ r.is_joined (and_intro _ _ r.total_fits
        ((same_sheet-exact s (route_sheet g a b)).1 r.is)),
  )

  pub accepts-no_route : (no_route_good ≡ true) ↔ TrueNoRoute g a b s
  accepts-no_route = (
    λ t. record {
      not_joined = not-true (joined g a b) (and_left (not (joined g a b)) _ t);
      is = (same_sheet-exact s (no_route_sheet g a)).0 (and_right (not (joined g a b)) _ t);
    },
    λ r. and_intro _ _ (ap not r.not_joined) ((same_sheet-exact s (no_route_sheet g a)).1 r.is),
  )

  -- The answer, from the two tests of `verdict`.
  abbrev answer : Bool → Bool → Result SheetKind Refusal
  answer p q = pick p (Ok Route) (pick q (Ok NoRoute) (Err FalseSheet))

  -- ---- the checker's tests

  module _ (L : Lawful g) (in-a : a < g.size) (in_b : b < g.size) (shape : Shaped g.size s)
      (total : entry s.f b < 2 ^ 64) where
    pub verdict-tests : verdict g a b s ≡ answer (route_test g a b s) (no_route_test g a b s)
    unfolding verdict
    verdict-tests =
        let route = local_route-exact g L a b in-a in_b s shape total in
        let none = local_no_route-exact g L a b in-a in_b s shape in
        let p : route_good ≡ route_test g a b s
        = iff-eq route_good (local_route g a b s) (λ t. route.1 (accepts-route.0 t))
        (λ t. accepts-route.1 (route.0 t))
        ∙ sym (route_test-local g a b s L) in
        let q : no_route_good ≡ no_route_test g a b s
        = iff-eq no_route_good (local_no_route g a b s) (λ t. none.1 (accepts-no_route.0 t))
        (λ t. accepts-no_route.1 (none.0 t))
        ∙ sym (no_route_test-local g a b s L) in
        ap₂ answer p q

  -- ---- the three answers, exactly

  abbrev Answers : Result SheetKind Refusal → Type 0
  Answers c = verdict g a b s ≡ c

  pub verdict-route : Answers (Ok Route) ↔ TrueRoute g a b s
  unfolding verdict
  verdict-route = (λ e. accepts-route.0 (cases route_good no_route_good e), λ t. rw (accepts-route.1 t))
    where
      cases : (p q : Bool) → answer p q ≡ Ok Route → p ≡ true
      cases true q e = refl
      cases false true e = cc
      cases false false e = cc

  pub verdict-no_route : Answers (Ok NoRoute) ↔ TrueNoRoute g a b s
  unfolding verdict
  verdict-no_route = (
    λ e. accepts-no_route.0 (cases route_good no_route_good e),
    λ t. rw (
      ap (λ (j : Bool). j && (fits g a b && same_sheet s (route_sheet g a b))) t.not_joined,
      accepts-no_route.1 t,
    ),
  )
    where
      cases : (p q : Bool) → answer p q ≡ Ok NoRoute → q ≡ true
      cases true q e = cc
      cases false true e = refl
      cases false false e = cc

  pub verdict-else : (TrueRoute g a b s → ⊥) → (TrueNoRoute g a b s → ⊥) → Answers (Err FalseSheet)
  unfolding verdict
  verdict-else p q =
      cases route_good no_route_good (λ e. p (accepts-route.0 e)) (λ e. q (accepts-no_route.0 e))
    where
      cases : (x y : Bool) → (x ≡ true → ⊥) → (y ≡ true → ⊥) → answer x y ≡ Err FalseSheet
      cases true y m n = absurd (m refl)
      cases false true m n = absurd (n refl)
      cases false false m n = refl

-- ---- rule 8.2

pub record Exactly (g : Graph) (a b : ℕ) (s : Sheet) (c : Result SheetKind Refusal) : Type 0 where
  -- A route exactly when an open walk joins the ends, the total is below 2^64, and every number is the true one.
  pub route : (c ≡ Ok Route) ↔ (((k : ℕ) × HasWalk g k a b) × (path_count g a b < 2 ^ 64) × (s ≡ route_sheet g a b))
  -- No route exactly when no open walk joins the ends, every cost from the start is the true one and all else is 0.
  pub no_route : (c ≡ Ok NoRoute) ↔ ((((k : ℕ) × HasWalk g k a b) → ⊥) × (s ≡ no_route_sheet g a))
  -- Every other sheet is refused.
  pub refused : (c ≡ Ok Route → ⊥) → (c ≡ Ok NoRoute → ⊥) → c ≡ Err FalseSheet

verdict-exact : (g : Graph) → Lawful g → (a b : ℕ) (s : Sheet) → a < g.size → g.size ≤ 16384 → Exactly g a b s
    (verdict g a b s)
verdict-exact g L a b s i few =
    let walks = joined-exact g L a b i few in
    let route = verdict-route g a b s in
    let none = verdict-no_route g a b s in
    record {
      route = (
        λ e. let t = route.0 e in (walks.0 t.is_joined, fits-total g a b t.total_fits, t.is),
        λ t. route.1 (record { is_joined = walks.1 t.0; total_fits = total_fits g a b t.1; is = t.2 }),
      );
      no_route = (
        λ e. let t = none.0 e in (λ w. not-both (joined g a b) (walks.1 w) t.not_joined, t.is),
        λ t. none.1 (record { not_joined = never_true (joined g a b) (λ e. t.0 (walks.0 e)); is = t.1 }),
      );
      refused = λ p q. verdict-else g a b s (λ t. p (route.1 t)) (λ t. q (none.1 t));
    }
  where
    never_true : (j : Bool) → (j ≡ true → ⊥) → j ≡ false
    never_true true h = absurd (h refl)
    never_true false h = refl

pub check-exact : (w h : ℕ) (l : List ℕ) (nb a b : ℕ) (r : Directions) (s : Sheet) → job_shape w h l nb a b ≡ Ok r
    → sheet_sized (vertices w h) s ≡ true → Exactly (floor_graph (floor_of w h l) r) a b s (check_answer w h l nb a b s)
unfolding check_answer
check-exact w h l nb a b r s fit sized =
    let j = job-fit w h l nb a b r fit in
    let f = floor_of w h l in
    rw (fit, sized)
    (verdict-exact (floor_graph f r) (floor-lawful f r j.lawful) a b s j.start
    (size-le f j.floor.sized.wide j.floor.sized.high r))
