-- `checker::vertices::vertex_right` meets its contract: each return is one case of `vertex_test`. Assumes nothing.
use native.Mathlib.Omega.{arith}
use Rattle.paths.specs.Sheet.{sheet_in}
use Rattle.neighbours.proofs.Classed.{classes-lent}
use Rattle.checker.proofs.Vertex.{vertex-costs, vertex-counts, vertex-cost, vertex-blank}
use Rattle.checker.proofs.vertices.vertex_right.Goals as goal

pub costs_right-requires : goal.costs_right-requires
costs_right-requires c = let p = c.requires in (classes-lent p.1 _ _ _ p.0, p.3.e)

pub returns-then-costs_right : goal.returns-then-costs_right
returns-then-costs_right c =
    let a = c.args in
    vertex-counts a.joined a.a a.b (sheet_in a.sheet) c.requires.0 c.requires.1 (omega arith) c.if-joined.true
    (omega arith) c.costs_right.ensures c.if-costs_right.true c.counts_right.ensures

pub returns-else-costs_right : goal.returns-else-costs_right
returns-else-costs_right c =
    let a = c.args in
    vertex-costs a.joined a.a a.b (sheet_in a.sheet) c.requires.0 c.requires.1 (omega arith) c.if-joined.true
    (omega arith) c.costs_right.ensures c.if-costs_right.false

pub cost_right-requires : goal.cost_right-requires
cost_right-requires c = let p = c.requires in classes-lent p.1 _ _ _ p.0

pub returns-then-cost_right : goal.returns-then-cost_right
returns-then-cost_right c =
    let a = c.args in
    vertex-blank a.joined a.a a.b (sheet_in a.sheet) c.requires.0 c.requires.1 (omega arith) c.if-joined.false
    c.cost_right.ensures c.if-cost_right.true c.blank_at.ensures

pub returns-else-cost_right : goal.returns-else-cost_right
returns-else-cost_right c =
    let a = c.args in
    vertex-cost a.joined a.a a.b (sheet_in a.sheet) c.requires.0 c.requires.1 (omega arith) c.if-joined.false
    c.cost_right.ensures c.if-cost_right.false
