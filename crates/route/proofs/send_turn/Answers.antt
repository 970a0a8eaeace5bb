-- `route::send_turn` meets its contract: the text of the turn stands at the place that it is written to, and past it
-- the text from the turn's cursor on is due, or none.
use mathlib.Core.Path.{refl}
use Rattle.route.proofs.Sending.{turn-sent}
use Rattle.route.proofs.send_turn.Goals as goal

pub returns : goal.returns
returns c = record { follows = turn-sent c.requires.0 c.requires.1 c.requires.2 refl c.requires.3 }
