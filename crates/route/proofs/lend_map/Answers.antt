-- `route::lend_map` meets its contract: a map has at most 961 cells, so at most 121 bytes, and at most 1,024 vertices.
use mathlib.Core.Path.{sym, ◌∙◌}
use Prim.Native.Nat.{◌≤◌}
use native.Mathlib.Omega.{arith}
use lib.Seq.{length-take-le}
use Rattle.route.proofs.Running.{few_bytes, map-sides, few-places}
use Rattle.route.proofs.lend_map.Goals.{After-map_length-n, After-vertex_count-v}
use Rattle.route.proofs.lend_map.Goals as goal

few : (c : After-map_length-n) → c.map_length-n.result ≤ 961
few c = omega (arith, few_bytes _ _ _ c.requires.found, c.map_length-n.ensures.0)

few-costs : (c : After-vertex_count-v) → c.vertex_count-v.result ≤ 1024
few-costs c = omega (arith, few-places _ _ _ c.requires.found, c.vertex_count-v.ensures.0)

pub map_length-n-requires : goal.map_length-n-requires
map_length-n-requires c = map-sides _ _ _ c.requires.found

pub vertex_count-v-requires : goal.vertex_count-v-requires
vertex_count-v-requires c = map-sides _ _ _ c.requires.found

pub slice_bounds-map-end : goal.slice_bounds-map-end
slice_bounds-map-end c = few (goal.at.slice_bounds-map-end c).After-map_length-n

pub slice_bounds-run_jobs-end : goal.slice_bounds-run_jobs-end
slice_bounds-run_jobs-end c = sym (length-take-le _ _ (few (goal.at.slice_bounds-run_jobs-end c).After-map_length-n))

pub slice_bounds-d-end : goal.slice_bounds-d-end
slice_bounds-d-end c = few-costs (goal.at.slice_bounds-d-end c).After-vertex_count-v

pub slice_bounds-run_jobs-end-2 : goal.slice_bounds-run_jobs-end-2
slice_bounds-run_jobs-end-2 c =
    sym (length-take-le _ _ (few-costs (goal.at.slice_bounds-run_jobs-end-2 c).After-vertex_count-v))

pub run_jobs-requires : goal.run_jobs-requires
run_jobs-requires c = (
  c.requires,
  length-take-le _ _ (few (goal.at.run_jobs-requires c).After-map_length-n) ∙ c.map_length-n.ensures.0,
  length-take-le _ _ (few-costs (goal.at.run_jobs-requires c).After-vertex_count-v) ∙ c.vertex_count-v.ensures.0,
)
