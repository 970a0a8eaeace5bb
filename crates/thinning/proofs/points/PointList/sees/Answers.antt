-- `thinning::PointList::sees` meets its contract: `in_sight` is called for the two vertices. Assumes nothing.
use mathlib.Core.Path.{ap₂, ◌∙◌}
use Rattle.floor.specs.Plan.{floor_on}
use Rattle.sight.specs.Sight.{segment, sees}
use Rattle.thinning.specs.Thinning.{seen}
use Rattle.thinning.proofs.points.PointList.sees.Goals as goal

pub returns : goal.returns
unfolding seen
returns c =
    let f = c.args.self.floor in
    c.in_sight.ensures
    ∙ ap₂ (λ x y. sees (floor_on f) (segment f.w x y)) c.vertex.ensures.0 c.vertex-2.ensures.0
