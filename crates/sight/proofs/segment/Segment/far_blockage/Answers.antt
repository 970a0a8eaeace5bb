-- `sight::segment::Segment::far_blockage` meets its contract: each return is one kind of segment. Assumes nothing.
use Prim.Native.Nat.{ℕ}
use mathlib.Core.Path.{◌≡◌, sym, ap, ◌∙◌}
use mathlib.Core.Logic.{◌≢◌}
use native.Mathlib.Omega.{arith}
use Rattle.sight.specs.Obstacle.{span, first, blockage, upright_step, level_step}
use Rattle.sight.specs.Travel.{row_obstacle}
use Rattle.sight.specs.Drawn.{floor_under, drawn}
use Rattle.sight.specs.declared.segment.Segment.{Segment}
use Rattle.sight.proofs.Obstacles.{upright-obstacle, level-obstacle, slanted-obstacle}
use Rattle.sight.proofs.segment.Segment.far_blockage.Goals as goal

same : (a b n : ℕ) → n ≡ span a b → n ≡ 0 → a ≡ b
unfolding span
same a b n e z = omega arith

differ : (a b n : ℕ) → n ≡ span a b → n ≢ 0 → a ≢ b
unfolding span
differ a b n e z q = z (omega arith)

pub returns-then-self-eq0 : goal.returns-then-self-eq0
returns-then-self-eq0 c =
    let s = c.args.self in
    c.upright_obstacle.ensures
    ∙ ap (λ n. first n (upright_step (floor_under s) s.x0 s.y0 s.y1)) s.apart.rows_are
    ∙ sym (upright-obstacle (floor_under s) s.x0 s.y0 s.x1 s.y1
    (same s.x0 s.x1 s.columns s.apart.columns_are c.if-self-eq0.true))

pub returns-then-self-eq0-2 : goal.returns-then-self-eq0-2
returns-then-self-eq0-2 c =
    let s = c.args.self in
    c.level_obstacle.ensures
    ∙ ap (λ n. first n (level_step (floor_under s) s.y0 s.x0 s.x1)) s.apart.columns_are
    ∙ sym (level-obstacle (floor_under s) s.x0 s.y0 s.x1 s.y1
    (differ s.x0 s.x1 s.columns s.apart.columns_are c.if-self-eq0.false)
    (same s.y0 s.y1 s.rows s.apart.rows_are c.if-self-eq0-2.true))

-- The blockage of a slanted segment, by rows.
by_rows : (s : Segment) → s.columns ≢ 0 → s.rows ≢ 0
    → first s.rows (row_obstacle (floor_under s) (drawn s)) ≡ blockage (floor_under s) (drawn s)
by_rows s n m =
    ap (λ k. first k (row_obstacle (floor_under s) (drawn s))) s.apart.rows_are
    ∙ sym (slanted-obstacle (floor_under s) s.x0 s.y0 s.x1 s.y1
    (differ s.x0 s.x1 s.columns s.apart.columns_are n) (differ s.y0 s.y1 s.rows s.apart.rows_are m))

pub returns-then-self : goal.returns-then-self
returns-then-self c =
    c.steep_obstacle.ensures ∙ by_rows c.args.self c.if-self-eq0.false c.if-self-eq0-2.false

pub returns : goal.returns
returns c =
    c.slanted_obstacle.ensures ∙ by_rows c.args.self c.if-self-eq0.false c.if-self-eq0-2.false
