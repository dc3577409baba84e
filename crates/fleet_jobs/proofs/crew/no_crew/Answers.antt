use Rattle.fleet_jobs.proofs.Moves.{begins}
use Rattle.fleet_jobs.proofs.crew.no_crew.Goals as goal

pub bounded_with-requires-clause-rule : goal.bounded_with-requires-clause-rule
bounded_with-requires-clause-rule g c = begins
