-- Demand 3: the checker accepts exactly the true sheets, as a route or as no route, and refuses every other sheet.
--
--   checks          == where the shape is good, the answer is 0, 7 or 9 exactly where `Checks` says
use Prim.Native.Nat.{ℕ}
use mathlib.Core.Path.{◌≡◌, refl, ap, ◌∙◌}
use mathlib.Core.Logic.{◌↔◌}
use mathlib.Core.Bool.{Bool, true, false, ◌&&◌, not}
use mathlib.Core.List.{List, [], ◌∷◌}
use native.Mathlib.Omega.{arith}
use borrow.Author.Tests.{not-true}
use Rattle.std.proofs.Common.{Result, Ok, Err}
use Rattle.basics.specs.Bounded.{pick}
use Rattle.basics.proofs.Bools.{and_both, and_intro, not-both}
use Rattle.floor.specs.Floor.{vertices}
use Rattle.floor.specs.declared.Refusal.{Refusal}
use Rattle.floor.specs.declared.Refusal.TheVariants.{FalseSheet}
use Rattle.paths.specs.Graph.{Graph}
use Rattle.paths.specs.Sheet.{Sheet, joined, fits, route_sheet, no_route_sheet, same_sheet}
use Rattle.paths.proofs.Sheets.{same_sheet-exact}
use Rattle.checker.specs.declared.SheetKind.{SheetKind}
use Rattle.checker.specs.declared.SheetKind.TheVariants.{Route, NoRoute}
use Rattle.checker.specs.Answer.{verdict, sheet_sized, check_answer}
use Rattle.demands.specs.Demands.{line, first_of, graph_of, check_shape, TrueRouteSheet}
use Rattle.demands.specs.Demands.{TrueNoRouteSheet, Checks}
use Rattle.demands.proofs.Routes.{GoodJob, job_good, good-job}
use Rattle.demands.proofs.Sheets.{route-words, none-words}

module _ (w h : ℕ) (map : List ℕ) (nb a b : ℕ) (s : Sheet) (r : Result SheetKind Refusal)
    (is : r ≡ check_answer w h map nb a b s) (good : first_of (check_shape w h map nb a b s) ≡ 0) where
  abbrev g : Graph
  g = graph_of w h map nb

  abbrev sized : Bool
  sized = sheet_sized (vertices w h) s

  fit-good : GoodJob w h map nb a b
  fit-good = good-job w h map nb a b (job_good w h map nb a b (line 6 (not sized) ∷ []) good).0

  sized-good : sized ≡ true
  sized-good = cases sized (job_good w h map nb a b (line 6 (not sized) ∷ []) good).1
    where
      cases : (x : Bool) → first_of (line 6 (not x) ∷ []) ≡ 0 → x ≡ true
      cases true e = refl
      cases false e = absurd (omega arith)

  answered : r ≡ verdict g a b s
  unfolding check_answer
  answered = is ∙ rw (fit-good.fit, sized-good) refl

  abbrev is_route : Bool
  is_route = joined g a b && (fits g a b && same_sheet s (route_sheet g a b))

  abbrev is_none : Bool
  is_none = not (joined g a b) && same_sheet s (no_route_sheet g a)

  route-said : (is_route ≡ true) ↔ TrueRouteSheet g a b s
  route-said =
      let W = route-words g fit-good.lawful fit-good.small a b fit-good.start fit-good.end s in (
        λ e. let x = and_both (joined g a b) _ e in
            let y = and_both (fits g a b) _ x.1 in
            W.0 (record { is_joined = x.0; total_fits = y.0; is = (same_sheet-exact s (route_sheet g a b)).0 y.1 }),
        λ t. let T = W.1 t in
            and_intro (joined g a b) _ T.is_joined
            (and_intro (fits g a b) _ T.total_fits ((same_sheet-exact s (route_sheet g a b)).1 T.is)),
      )

  none_said : (is_none ≡ true) ↔ TrueNoRouteSheet g a b s
  none_said =
      let W = none-words g fit-good.lawful fit-good.small a b fit-good.start fit-good.end s in (
        λ e. let x = and_both (not (joined g a b)) _ e in
            W.0 (record {
              not_joined = not-true (joined g a b) x.0;
              is = (same_sheet-exact s (no_route_sheet g a)).0 x.1;
            }),
        λ t. let T = W.1 t in
            and_intro (not (joined g a b)) _ (ap not T.not_joined) ((same_sheet-exact s (no_route_sheet g a)).1 T.is),
      )

  pub checks : Checks g a b s r
  unfolding verdict
  checks = rw answered (cases is_route is_none refl refl)
    where
      cases : (x y : Bool) → is_route ≡ x → is_none ≡ y
          → Checks g a b s (pick x (Ok Route) (pick y (Ok NoRoute) (Err FalseSheet)))
      cases true y p q =
          let yes = route-said.0 p in
          record {
            route = (λ e. yes, λ t. refl);
            no_route = (
              λ e. absurd (omega arith),
              λ t. let n = (and_both (not (joined g a b)) _ (none_said.1 t)).0 in
                  let j = (and_both (joined g a b) _ p).0 in
                  not-both (not (joined g a b)) n (ap not j),
            );
            refused = (λ e. absurd (omega arith), λ t. absurd (t.0 yes));
          }
      cases false true p q =
          let yes = none_said.0 q in
          let no_such : TrueRouteSheet g a b s → ⊥ = λ t. not-both is_route (route-said.1 t) p in
          record {
            route = (λ e. absurd (omega arith), λ t. absurd (no_such t));
            no_route = (λ e. yes, λ t. refl);
            refused = (λ e. absurd (omega arith), λ t. absurd (t.1 yes));
          }
      cases false false p q =
          let no_such : TrueRouteSheet g a b s → ⊥ = λ t. not-both is_route (route-said.1 t) p in
          let nor-such : TrueNoRouteSheet g a b s → ⊥ = λ t. not-both is_none (none_said.1 t) q in
          record {
            route = (λ e. absurd (omega arith), λ t. absurd (no_such t));
            no_route = (λ e. absurd (omega arith), λ t. absurd (nor-such t));
            refused = (λ e. (no_such, nor-such), λ t. refl);
          }
