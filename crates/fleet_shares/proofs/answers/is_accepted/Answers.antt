use Rattle.fleet_shares.proofs.Giving.{accepted_none, accepted_one}
use Rattle.fleet_shares.proofs.answers.is_accepted.Goals as goal

pub returns-in-Ok-clause-accepted : goal.returns-in-Ok-clause-accepted
returns-in-Ok-clause-accepted g c = accepted_one _ _ _ _ c.in-Ok.ensures.accepted

pub returns-in-Err-clause-accepted : goal.returns-in-Err-clause-accepted
returns-in-Err-clause-accepted g c = accepted_none _ _ c.in-Err.ensures.back.1
