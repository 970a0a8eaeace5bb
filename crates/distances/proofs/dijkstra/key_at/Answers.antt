-- `distances::dijkstra::key_at` meets its contract: a place before n has its cost in reach. Assumes nothing.
use native.Mathlib.Omega.{arith}
use mathlib.Core.Path.{◌≡◌, sym, ap}
use Rattle.paths.specs.Local.{entry}
use Rattle.distances.proofs.Turn.{key_in, key-out}
use Rattle.distances.proofs.dijkstra.key_at.Goals.{After-settled_at-u}
use Rattle.distances.proofs.dijkstra.key_at.Goals as goal

cost : (c : After-settled_at-u)
    → entry c.args.d.now c.settled_at-u.result
    ≡ entry c.args.d.now (entry c.args.work.now c.args.p)
cost c = ap (entry c.args.d.now) c.settled_at-u.ensures

pub returns-then-n-p : goal.returns-then-n-p
returns-then-n-p c = sym (key-out _ _ _ _ _ c.if-n-p.true)

pub offset_bounds-d-u : goal.offset_bounds-d-u
offset_bounds-d-u c = omega (arith, c.requires.0.inside c.args.p (omega arith))

pub bounds-d-u : goal.bounds-d-u
bounds-d-u c = omega (arith, c.requires.0.inside c.args.p (omega arith))

pub overflow_add-result : goal.overflow_add-result
overflow_add-result c = omega (arith, c.requires.0.small c.args.p (omega arith), cost (goal.at.overflow_add-result c).After-settled_at-u)

pub returns : goal.returns
returns c =
    let k = key_in c.args.n c.args.p c.args.c c.args.d.now c.args.work.now (omega arith) in
    omega (arith, k, cost (goal.at.returns c).After-settled_at-u)
