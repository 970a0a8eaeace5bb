-- `replay::replay_shape` meets its contract: a refusal of the floor or the neighbourhood, else the shape of the lengths
-- decides. Assumes nothing.
use mathlib.Core.Path.{◌≡◌, sym, ap, ◌∙◌}
use Rattle.std.proofs.Common.{rules, Ok, Err}
use Rattle.floor.specs.Floor.{vertices}
use Rattle.floor.specs.Refusals.{and_then}
use Rattle.grid.proofs.Jobs.{dirs-floor}
use Rattle.replay.specs.Replay.{log_shape}
use Rattle.replay.proofs.Shaped.{replay-refused, replay-rest}
use Rattle.replay.proofs.replay_shape.Goals.{After-log_shape}
use Rattle.replay.proofs.replay_shape.Goals as goal

lengths-are : (c : After-log_shape) → let a = c.args in
    c.log_shape.result ≡ log_shape (vertices a.w a.h) a.log a.costs a.work
lengths-are c =
    let a = c.args in c.log_shape.ensures ∙ ap (λ n. log_shape n a.log a.costs a.work) c.vertex_count.ensures.0

pub returns-in_err-dirs : goal.returns-in_err-dirs
returns-in_err-dirs c =
    let e : c.from_residual.result ≡ Err c.in_err-dirs.field-0.0 = search rules in
    e ∙ replay-refused _ _ _ _ _ _ _ (sym c.dirs_shape.ensures ∙ c.in_err-dirs.was)

pub vertex_count-requires : goal.vertex_count-requires
vertex_count-requires c =
    let s = (dirs-floor _ _ _ _ c.dirs_shape.ensures c.in_ok-dirs.was).sized in
    (s.wide, s.high)

pub returns-in_err-log_shape : goal.returns-in_err-log_shape
returns-in_err-log_shape c =
    let e : c.from_residual-in_err-log_shape.result ≡ Err c.in_err-log_shape.field-0.0 = search rules in
    let s = sym (lengths-are (goal.at.returns-in_err-log_shape c).After-log_shape) ∙ c.in_err-log_shape.was in
    e ∙ sym (ap (λ x. and_then x (Ok c.in_ok-dirs.dirs)) s)
    ∙ replay-rest _ _ _ _ _ _ _ (sym c.dirs_shape.ensures ∙ c.in_ok-dirs.was)

pub returns : goal.returns
returns c =
    let s = sym (lengths-are (goal.at.returns c).After-log_shape) ∙ c.in_ok-log_shape.was in
    sym (ap (λ x. and_then x (Ok c.in_ok-dirs.dirs)) s)
    ∙ replay-rest _ _ _ _ _ _ _ (sym c.dirs_shape.ensures ∙ c.in_ok-dirs.was)
