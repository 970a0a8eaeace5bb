-- The three demands and the promises of the requests hold: the statements of specs/Demands.antt, proved.
use Rattle.demands.specs.Demands.{Demand1, Demand2, Demand3, Requests}
use Rattle.demands.proofs.Answers.{sight-answers, costs-answers, plan-answers, check-answers, thin-answers}
use Rattle.demands.proofs.ClosureAnswers.{post-answers, strike-answers, working-answers, stored-post-answers}
use Rattle.demands.proofs.ClosureAnswers.{stored-strike-answers, stored-map-answers}
use Rattle.demands.proofs.RequestAnswers.{replay-answers, cells-answers, changes-answers, write-answers}
use Rattle.demands.proofs.RequestAnswers.{legs-answers, proposal-answers, mend-answers}
use Rattle.demands.proofs.Routes.{costs-true, plans, planner, thins}
use Rattle.demands.proofs.Checks.{checks}
use Rattle.demands.proofs.Requests.{closures-read, stored-read, packed-read, cheapest-called, reads-back}
use Rattle.demands.proofs.Requests.{writes-back, stops-judged, stops-proposed, flows, sheet-mended}

pub demand-1 : Demand1
demand-1 = record {
  sight = sight-answers;
  costs = costs-answers;
  plan = plan-answers;
  check = check-answers;
  thin = thin-answers;
  post = post-answers;
  strike = strike-answers;
  the_working_map = working-answers;
  stored_post = stored-post-answers;
  stored_strike = stored-strike-answers;
  stored_map = stored-map-answers;
  replay = replay-answers;
  cells = cells-answers;
  changes = changes-answers;
  write = write-answers;
  legs = legs-answers;
  proposal = proposal-answers;
  mend = mend-answers;
}

pub demand-2 : Demand2
demand-2 = record { costs = costs-true; plan = plans; planner = planner; thin = thins }

pub demand-3 : Demand3
demand-3 = record { check = checks }

pub requests : Requests
requests = record {
  closures = closures-read;
  stored_closures = stored-read;
  packed = packed-read;
  cheapest = cheapest-called;
  read_back = reads-back;
  write_back = writes-back;
  judged = stops-judged;
  proposed = stops-proposed;
  flow = flows;
  mended = sheet-mended;
}
