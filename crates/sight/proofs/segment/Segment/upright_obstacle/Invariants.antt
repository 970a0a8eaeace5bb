-- `sight::segment::Segment::upright_obstacle` meets its contract: the steps passed are not shut. Assumes nothing.
use Rattle.sight.specs.Obstacle.{upright_step}
use Rattle.sight.specs.Drawn.{floor_under}
use Rattle.sight.proofs.First.{Looked}
use Rattle.sight.proofs.segment.Segment.upright_obstacle.Given as goal

abbrev pub invariant-loop-k : goal.invariant-loop-k
invariant-loop-k l =
    let s = l.self in
    Looked s.rows l.k (upright_step (floor_under s) s.x0 s.y0 s.y1)
