-- `workspace::store_masks` meets its contract: the masks are filled in a part of the working slice. Assumes nothing.
use Rattle.floor.specs.Plan.{floor_on}
use Rattle.workspace.proofs.Regions.{masks-filled}
use Rattle.workspace.proofs.store_masks.Goals as goal

pub returns : goal.returns
returns c =
    let n = c.vertex_count-count in
    let a = c.args in
    masks-filled (floor_on a.floor) a.dirs n.result a.work.now _ n.ensures.0
    c.requires.1
    c.fill_masks.ensures
