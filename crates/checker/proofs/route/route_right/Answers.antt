-- `checker::route::route_right` meets its contract: `all` asks each point, and past them stands 0. Assumes nothing.
use mathlib.Core.Path.{◌≡◌, refl, sym, ◌∙◌}
use native.Mathlib.Omega.{arith}
use lib.ListN.{length}
use Rattle.std.proofs.Common.{rules, tests}
use Rattle.std.proofs.lemmas.Iterator.{YieldsList-from_range}
use Rattle.std.proofs.lemmas.Iterator.Search.{all_from_yields_List}
use Rattle.basics.specs.Bounded.{every}
use Rattle.basics.proofs.Every.{all-below}
use Rattle.paths.specs.Sheet.{sheet_in}
use Rattle.paths.specs.Local.{right_route}
use Rattle.checker.specs.Tests.{point_test, points_test}
use Rattle.checker.proofs.Points.{points-short, points-tail, points-all}
use Rattle.checker.proofs.route.route_right.Goals.{After-all}
use Rattle.checker.proofs.route.route_right.Goals as goal

pub returns-then-sheet-lt1 : goal.returns-then-sheet-lt1
unfolding points_test right_route
returns-then-sheet-lt1 c = search rules

-- What `all` answers of the points.
points : (c : After-all)
    → let a = c.args in
    c.all.result ≡ every a.sheet.n (point_test (length a.sheet.route.now) a.b.0 (sheet_in a.sheet))
points c =
    let a = c.args in
    all_from_yields_List (point_test (length a.sheet.route.now) a.b.0 (sheet_in a.sheet)) _ _ _ c.all.ensures.ran
    (YieldsList-from_range 0 a.sheet.n a.sheet.n refl (omega arith)) (λ x b q k. search (rules, tests))
    ∙ all-below _ a.sheet.n

pub returns-then-all : goal.returns-then-all
returns-then-all c =
    let a = c.args in
    let good = sym (points (goal.at.returns-then-all c).After-all) ∙ c.if-all.true in
    points-all (length a.sheet.route.now) a.a.0 a.b.0 (sheet_in a.sheet) (omega arith) (omega arith) (search rules)
    c.all_zero.result
    (points-tail (length a.sheet.route.now) a.a.0 a.b.0 (sheet_in a.sheet) (omega arith) (omega arith) good
    c.all_zero.result c.all_zero.ensures)

pub returns-else-all : goal.returns-else-all
returns-else-all c =
    let a = c.args in
    let bad = sym (points (goal.at.returns-else-all c).After-all) ∙ c.if-all.false in
    points-all (length a.sheet.route.now) a.a.0 a.b.0 (sheet_in a.sheet) (omega arith) (omega arith) (search rules)
    c.all.result
    (c.if-all.false ∙ sym (points-short (length a.sheet.route.now) a.a.0 a.b.0 (sheet_in a.sheet) (omega arith) (omega arith) bad))
