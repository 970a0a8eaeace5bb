-- `changes::report_shape` meets its contract: each return is one case of `report_shape`. Assumes nothing.
use mathlib.Core.Path.{◌≡◌, sym, ap, ◌∙◌}
use Rattle.std.proofs.Common.{rules, Ok, Err}
use Rattle.floor.specs.Floor.{vertices}
use Rattle.grid.specs.Grid.{job_shape}
use Rattle.changes.specs.Changes.{given_floor_of, floors_shape, slices_shape}
use Rattle.changes.proofs.Shaped.{good-floors}
use Rattle.changes.proofs.Jobs.{report-first, report-second, report-lengths, report-fit}
use Rattle.changes.proofs.report_shape.Goals.{After-slices_shape, In_ok-dirs, In_ok-floors_shape, In_ok-job_shape}
use Rattle.changes.proofs.report_shape.Goals as goal

floors-are : (c : In_ok-floors_shape) → let a = c.args in
    floors_shape (given_floor_of a.w a.h a.map.now) (given_floor_of a.w2 a.h2 a.map2.now) ≡ Ok tt
floors-are c = sym c.floors_shape.ensures ∙ c.in_ok-floors_shape.was

first-is : (c : In_ok-dirs) → let a = c.args in job_shape a.w a.h a.map.now a.nb a.a a.a ≡ Ok c.in_ok-dirs.dirs
first-is c = sym c.job_shape.ensures ∙ c.in_ok-dirs.was

lengths-are : (c : After-slices_shape) → let a = c.args in
    c.slices_shape.result ≡ slices_shape (vertices a.w a.h) a.costs a.costs2 a.changes a.work
lengths-are c =
    let a = c.args in
    c.slices_shape.ensures
    ∙ ap (λ n. slices_shape n a.costs a.costs2 a.changes a.work) c.vertex_count.ensures.0

pub returns-in_err-dirs : goal.returns-in_err-dirs
returns-in_err-dirs c =
    let e : c.from_residual-in_err-dirs.result ≡ c.job_shape.result = search rules in
    e ∙ c.job_shape.ensures
    ∙ report-first _ _ _ _ _ _ _ _ (floors-are (goal.at.returns-in_err-dirs c).In_ok-floors_shape)
    (sym c.job_shape.ensures ∙ c.in_err-dirs.was)

pub returns-in_err-job_shape : goal.returns-in_err-job_shape
returns-in_err-job_shape c =
    let e : c.from_residual-in_err-job_shape.result ≡ c.job_shape-2.result = search rules in
    e ∙ c.job_shape-2.ensures
    ∙ report-second _ _ _ _ _ _ _ _ (floors-are (goal.at.returns-in_err-job_shape c).In_ok-floors_shape)
    (first-is (goal.at.returns-in_err-job_shape c).In_ok-dirs)
    (sym c.job_shape-2.ensures ∙ c.in_err-job_shape.was)

pub vertex_count-requires : goal.vertex_count-requires
vertex_count-requires c =
    let s = (good-floors _ _ (floors-are (goal.at.vertex_count-requires c).In_ok-floors_shape)).first.sized in
    (s.wide, s.high)

pub returns-in_err-slices_shape : goal.returns-in_err-slices_shape
returns-in_err-slices_shape c =
    let t = goal.at.returns-in_err-slices_shape c in
    let e : c.from_residual-in_err-slices_shape.result ≡ Err c.in_err-slices_shape.field-0.0 = search rules in
    e
    ∙ report-lengths _ _ _ _ _ _ _ _ (floors-are t.In_ok-floors_shape) (first-is t.In_ok-dirs)
    (sym c.job_shape-2.ensures ∙ c.in_ok-job_shape.was)
    (sym (lengths-are t.After-slices_shape) ∙ c.in_err-slices_shape.was)

pub returns : goal.returns
returns c =
    let t = goal.at.returns c in
    report-fit _ _ _ _ _ _ _ _ (floors-are t.In_ok-floors_shape) (first-is t.In_ok-dirs)
    (sym c.job_shape-2.ensures ∙ c.in_ok-job_shape.was)
    (sym (lengths-are t.After-slices_shape) ∙ c.in_ok-slices_shape.was)
