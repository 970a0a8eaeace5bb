-- `sight::segment::Segment::row_obstacle` meets its contract: what the cells of the row's run hold first. Assumes
-- nothing.
use native.Mathlib.Omega.{arith}
use Rattle.std.proofs.Common.{rules}
use Rattle.sight.specs.Travel.{cell_there}
use Rattle.sight.specs.Drawn.{floor_under, drawn}
use Rattle.sight.proofs.Found.{found}
use Rattle.sight.proofs.Runs.{run-found}
use Rattle.sight.proofs.segment.Segment.row_obstacle.Goals as goal

pub returns : goal.returns
returns c =
    let s = c.args.self in
    let r = c.args.r in
    let G = cell_there (floor_under s) (drawn s) r in
    run-found (floor_under s) s.x0 s.y0 s.x1 s.y1 r (omega (arith, c.requires.0, s.apart.rows_are)) c.requires.1
    c.find_map.result (found _ G (λ x o h e. search rules) _ _ c.find_map.ensures.runs)
