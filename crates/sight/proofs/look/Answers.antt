-- `sight::look` meets its contract: nothing is in the way from a vertex to itself. Assumes nothing.
use mathlib.Core.Path.{sym, ap, ◌∙◌}
use Rattle.floor.specs.Plan.{floor_on}
use Rattle.sight.specs.Sight.{segment}
use Rattle.sight.specs.Obstacle.{obstacle}
use Rattle.sight.proofs.First.{clear-is}
use Rattle.sight.proofs.Passed.{obstacle-sees-segment}
use Rattle.sight.proofs.Symmetry.{sees-segment-self}
use Rattle.sight.proofs.look.Goals as goal

pub returns-then-a-b : goal.returns-then-a-b
returns-then-a-b c =
    let f = floor_on c.args.floor in
    let a = c.args.a.0 in
    let clear = clear-is (obstacle f (segment f.wide a a))
    (obstacle-sees-segment f a a c.requires.0 c.requires.0 ∙ sees-segment-self f f.wide a) in
    sym clear ∙ ap (λ b. obstacle f (segment f.wide a b)) c.if-a-b.true
