-- `checker::route::point_right` meets its contract: each return is one case of `point_test`. Assumes nothing.
use Rattle.std.proofs.Common.{rules}
use Rattle.paths.specs.Local.{is-there, right_point}
use Rattle.checker.specs.Tests.{point_test}
use Rattle.checker.proofs.route.point_right.Goals as goal

pub returns-then-sheet-at : goal.returns-then-sheet-at
unfolding point_test right_point
returns-then-sheet-at c = search rules

pub returns-then-at-b : goal.returns-then-at-b
unfolding point_test right_point
returns-then-at-b c = search rules

pub returns-then-i-sheet : goal.returns-then-i-sheet
unfolding point_test right_point is-there
returns-then-i-sheet c = search rules

pub returns-else-i-sheet : goal.returns-else-i-sheet
unfolding point_test right_point
returns-else-i-sheet c = search rules
