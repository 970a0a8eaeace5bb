-- Where the code has found costs and counts right, the next vertices can be tested.
use Prim.Native.Nat.{ℕ, ◌^◌, ◌<◌}
use mathlib.Core.Path.{◌≡◌}
use mathlib.Core.Bool.{true}
use mathlib.Core.List.{List}
use Rattle.floor.specs.Floor.{floor_of}
use Rattle.moves.specs.declared.Directions.{Directions}
use Rattle.moves.proofs.Table.{listed-lawful}
use Rattle.paths.specs.Distance.{unreachable}
use Rattle.paths.specs.Sheet.{Sheet}
use Rattle.paths.specs.Local.{entry}
use Rattle.grid.specs.Grid.{floor_graph}
use Rattle.grid.proofs.Lawful.{floor-lawful}
use Rattle.checker.specs.Tests.{vertices_test, CheckInput, Choosable}
use Rattle.checker.proofs.Exact.{counts-fit, counts-lead}
use Rattle.checker.proofs.Leaving.{pinches-far}
use Rattle.checker.proofs.CheckInput.{input-goal}

pub input-choosable : {w h : ℕ} {l : List ℕ} {r : Directions} {a b : ℕ} {s : Sheet} → CheckInput w h l r a b s
    → entry s.d b < unreachable → entry s.d a ≡ 0 → entry s.e b ≡ 0
    → vertices_test true (floor_graph (floor_of w h l) r) a b s ≡ true → entry s.f b < 2 ^ 64 → Choosable w h l r b s
input-choosable {w} {h} {l} {r} {a} {b} {s} p near start end all total =
    let g = floor_graph (floor_of w h l) r in
    let L = floor-lawful (floor_of w h l) r (listed-lawful p.job.listed) in
    record {
      input = input-goal p;
      counted = counts-fit g a b s near start end all L p.job.start_in p.job.goal_in p.shape total;
      pinches = pinches-far p.job s all;
      reached = near;
      leads = counts-lead g a b s near start end all L p.job.start_in p.job.goal_in;
    }
