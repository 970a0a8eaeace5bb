-- `sight::segment::Segment::level_obstacle` meets its contract: the steps passed are not shut. Assumes nothing.
use Rattle.sight.specs.Obstacle.{level_step}
use Rattle.sight.specs.Drawn.{floor_under}
use Rattle.sight.proofs.First.{Looked}
use Rattle.sight.proofs.segment.Segment.level_obstacle.Given as goal

abbrev pub invariant-loop-k : goal.invariant-loop-k
invariant-loop-k l =
    let s = l.self in
    Looked s.columns l.k (level_step (floor_under s) s.y0 s.x0 s.x1)
