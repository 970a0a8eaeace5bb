-- The floor's graph as the algorithm reads it, and what the algorithm leaves put together.
--
--   costing-on         == a working slice of the same length serves as well
--   runnable           == the algorithm can run
--   ordered-costs      == the algorithm leaves the costs, their order and the masks
--   filled-costs       == cleared, the costs alone
use Prim.Native.Nat.{ℕ, ◌<◌}
use mathlib.Core.Path.{◌≡◌, ap, ◌∙◌}
use mathlib.Core.List.{List}
use lib.ListN.{length, replicate}
use Rattle.basics.specs.Lists.{tabulate}
use Rattle.floor.specs.Floor.{Floor, floor_of, vertices}
use Rattle.floor.proofs.Numbers.{vertices-le}
use Rattle.moves.specs.declared.Directions.{Directions}
use Rattle.offsets.specs.declared.Class.{Class}
use Rattle.offsets.specs.Offsets.{Shifts}
use Rattle.offsets.specs.Classes.{Classes}
use Rattle.moves.proofs.Table.{listed-lawful}
use Rattle.paths.specs.Distance.{distance}
use Rattle.grid.specs.Grid.{floor_graph}
use Rattle.grid.proofs.Lawful.{floor-lawful}
use Rattle.workspace.specs.Regions.{MasksIn}
use Rattle.workspace.proofs.Regions.{masks-kept, floor-masked}
use Rattle.distances.specs.Costs.{SettledCosts, Costing, OrderedCosts, FilledCosts}
use Rattle.distances.specs.Dijkstra.{Runnable}

pub costing-on : {w h : ℕ} {map : List ℕ} {r : Directions} {a : ℕ} {d work work' : List ℕ} → Costing w h map r a d work
    → length work' ≡ length work → Costing w h map r a d work'
costing-on J e = record { job = J.job; d_len = J.d_len; work_len = e ∙ J.work_len }

module _ {w h : ℕ} {map : List ℕ} {r : Directions} {a : ℕ} {d work : List ℕ} (J : Costing w h map r a d work)
    (o : MasksIn (floor_of w h map) r work) where
  abbrev f : Floor
  f = floor_of w h map

  pub runnable : {shifts : List ℕ} {l : List Class} {x : ℕ} → Shifts w r shifts → Classes r l → x < vertices w h
      → Runnable (floor_graph f r) r shifts l x d work
  runnable s C inside =
      let lawful = listed-lawful J.job.listed in
      let sized = J.job.sized in
      record {
        few = vertices-le sized.wide sized.high;
        lawful = floor-lawful f r lawful;
        masked = floor-masked f r sized.wide sized.high lawful s o;
        classes = C;
        source = inside;
        d_len = J.d_len;
        work_len = J.work_len;
      }

  module _ {x n : ℕ} {d' work' : List ℕ} (S : SettledCosts (floor_graph f r) x n d' work work') where
    pub ordered-costs : d' ≡ tabulate (floor_graph f r).size (distance (floor_graph f r) a)
        → OrderedCosts f r a n d' work'
    ordered-costs costs = record {
      costs = costs;
      few = S.few;
      work_len = S.work_len;
      ordered = S.ordered;
      masks = masks-kept S.rest o;
    }

-- the costs, and a cleared working slice
pub filled-costs : {f : Floor} {r : Directions} {a n : ℕ} {d work work' : List ℕ} → OrderedCosts f r a n d work
    → work' ≡ replicate (length work) 0 → FilledCosts (floor_graph f r) a d work'
filled-costs O e = record { costs = O.costs; clear = e ∙ ap (λ (k : ℕ). replicate k 0) O.work_len }
