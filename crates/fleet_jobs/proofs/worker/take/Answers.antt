use Rattle.fleet_jobs.proofs.Moves.{takes}
use Rattle.fleet_jobs.proofs.Tickets.{taken_more, taken_no_more}
use Rattle.fleet_jobs.proofs.worker.take.Goals as goal

pub recv_as-requires-clause-rule : goal.recv_as-requires-clause-rule
recv_as-requires-clause-rule g c = (takes _ _ c.requires.works, λ items views h at. tt)

pub returns-in-Ok-clause-taken : goal.returns-in-Ok-clause-taken
returns-in-Ok-clause-taken g c = taken_more _ _ c.in-Ok.message c.in-Ok.ensures.rule

pub returns-in-Ok-clause-none : goal.returns-in-Ok-clause-none
returns-in-Ok-clause-none g c = taken_no_more _ _ c.in-Ok.message c.in-Ok.ensures.rule
