-- `thinning::all_vertices` meets its contract: `all` tests the first n numbers. Assumes nothing.
use mathlib.Core.Path.{ap, ◌∙◌}
use lib.Dec.{ltb}
use lib.ListN.{take, get_or}
use Rattle.std.proofs.Common.{rules, tests}
use Rattle.std.proofs.lemmas.Iterator.{YieldsList-from_slice}
use Rattle.std.proofs.lemmas.Iterator.Search.{all_from_yields_List}
use Rattle.basics.specs.Bounded.{every}
use Rattle.thinning.specs.Thinning.{is_vertex}
use Rattle.basics.proofs.Every.{all-front}
use Rattle.thinning.proofs.all_vertices.Goals as goal

pub returns : goal.returns
unfolding is_vertex
returns c =
    let a = c.args in
    let v = c.vertex_count-count in
    all_from_yields_List (λ x. ltb x v.result) _ _ _ c.all.ensures.ran
    (YieldsList-from_slice (take a.n a.list.now) (cc)) (λ x b q k. search (rules, tests))
    ∙ all-front _ a.n a.list.now c.requires
    ∙ ap (λ m. every a.n (λ k. ltb (get_or a.list.now k 0) m)) v.ensures.0
