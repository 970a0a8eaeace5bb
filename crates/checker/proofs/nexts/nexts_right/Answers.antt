-- `checker::nexts::nexts_right` meets its contract: `all` asks each row. Assumes nothing.
use Prim.Native.Nat.{suc, ◌+◌}
use mathlib.Core.Path.{refl, ◌∙◌}
use native.Mathlib.Omega.{arith}
use Rattle.std.proofs.Common.{rules, tests}
use Rattle.std.proofs.lemmas.Iterator.{YieldsList-from_range}
use Rattle.std.proofs.lemmas.Iterator.Search.{all_from_yields_List}
use Rattle.basics.proofs.Every.{all-below}
use Rattle.floor.specs.Plan.{floor_on}
use Rattle.paths.specs.Sheet.{sheet_in}
use Rattle.grid.specs.Grid.{floor_graph}
use Rattle.checker.specs.Tests.{next_row_test}
use Rattle.checker.proofs.Choices.{nexts-rows}
use Rattle.checker.proofs.nexts.nexts_right.Goals as goal

pub returns : goal.returns
returns c =
    let a = c.args in
    all_from_yields_List (next_row_test (floor_graph (floor_on a.floor) a.dirs) a.b.0 (sheet_in a.sheet) a.floor.w) _ _ _
    c.all.ensures.ran (YieldsList-from_range 0 (a.floor.h + 1) (suc a.floor.h) refl (omega arith))
    (λ x b q k. search (rules, tests))
    ∙ all-below _ (suc a.floor.h)
    ∙ nexts-rows a.floor.w a.floor.h a.floor.map.now a.dirs a.b.0 (sheet_in a.sheet)
