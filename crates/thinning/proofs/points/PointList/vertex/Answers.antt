-- `thinning::PointList::vertex` meets its contract: a listed number is a vertex. Assumes nothing.
use native.Mathlib.Omega.{arith}
use Rattle.thinning.proofs.Shapes.{listed-vertex}
use Rattle.thinning.proofs.points.PointList.vertex.Goals as goal

pub returns : goal.returns
returns c =
    let e = c.from.ensures in
    (e, omega (arith, e, listed-vertex c.args.self.listed c.args.k c.requires))
