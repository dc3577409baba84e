use Rattle.std.proofs.Common.{◌≡◌, true}
use Rattle.crossbeam_channel.specs.Claims.{IsSeatAt}
use Rattle.crossbeam_channel.specs.Ends.{receives_on}
use Rattle.fleet_jobs.specs.Answers.{AreOutcomesOf}
use Rattle.fleet_jobs.specs.Queue.{known_by, tickets}
use Rattle.fleet_jobs.proofs.worker.work.Given as goal

abbrev pub invariant-loop : goal.invariant-loop
invariant-loop g l =
    IsSeatAt (receives_on l.orders) l.mine
    × ((known_by l.mine).works ≡ true)
    × ((known_by l.mine).seat ≡ (known_by l.initial.mine).seat)
    × AreOutcomesOf (g.J.Runner.may_answer l.runner) (tickets (known_by l.mine).taken) l.outcomes.items
