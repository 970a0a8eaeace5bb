-- The worked sight questions: antt computes each answer.
use mathlib.Core.Path.{refl}
use Rattle.basics.specs.Bounded.{bounded-opened}
use Rattle.basics.specs.Lists.{lists-opened}
use Rattle.floor.specs.Floor.{floor-opened}
use Rattle.floor.specs.Refusals.{sides_shape, unused_clear, floor_shape, end_shape}
use Rattle.sight.specs.Sight.{sight-opened}
use Rattle.sight.specs.Obstacle.{obstacle-opened}
use Rattle.sight.specs.Question.{sight_answer}
use Rattle.worked.specs.Sights.{SightsHold}

pub sights-hold : SightsHold
unfolding sight_answer sides_shape unused_clear floor_shape end_shape bounded-opened lists-opened floor-opened sight-opened
    obstacle-opened
sights-hold = (
  refl,
  (
    refl,
    (refl, (refl, (refl, (refl, (refl, (refl, (refl, (refl, (refl, (refl, (refl, (refl, (refl, (refl, tt)))))))))))))),
  ),
)
