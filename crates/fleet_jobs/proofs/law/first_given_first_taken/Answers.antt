use Rattle.fleet_jobs.proofs.Moves.{settles, shares}
use Rattle.fleet_jobs.proofs.law.first_given_first_taken.Goals as goal

pub returns-clause-order : goal.returns-clause-order
returns-clause-order c waiting views h port v at may = settles port v may waiting views h at

pub returns-clause-workers : goal.returns-clause-workers
returns-clause-workers c waiting views h = shares waiting views h
