use Rattle.fleet_jobs.proofs.Moves.{merges}
use Rattle.fleet_jobs.proofs.crew.take_back.Goals as goal

pub absorb-requires-clause-rule : goal.absorb-requires-clause-rule
absorb-requires-clause-rule g c = merges _ _ _ _ c.requires.gives c.join-ran.ensures.1.0
