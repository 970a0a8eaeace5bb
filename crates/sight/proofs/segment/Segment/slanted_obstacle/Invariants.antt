-- `sight::segment::Segment::slanted_obstacle` meets its contract: the rows passed have nothing in the way, and the crossing
-- of the next row line is known. Assumes nothing.
use Rattle.sight.specs.Obstacle.{span}
use Rattle.sight.specs.Travel.{row_obstacle, Crosses}
use Rattle.sight.specs.Drawn.{floor_under, drawn}
use Rattle.sight.proofs.First.{Looked}
use Rattle.sight.proofs.segment.Segment.slanted_obstacle.Given as goal

abbrev pub invariant-loop-r : goal.invariant-loop-r
invariant-loop-r l =
    Looked l.self.rows l.r (row_obstacle (floor_under l.self) (drawn l.self))
    × Crosses (span l.self.x0 l.self.x1) (span l.self.y0 l.self.y1) l.r l.at.column l.at.rest
