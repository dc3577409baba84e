use Rattle.std.proofs.Common.{Ok, Err, refl}
use Rattle.sync_job.specs.Questions.{Latest}
use Rattle.sync_job.proofs.Questions.{leads_on}
use Rattle.ra_client.specs.Deltas.{IsDeltaExchange}
use Rattle.ra_client.proofs.delta_port.DeltaPortMasterPort.latest.Goals as goal

pub returns-in-Ok-clause-answered : goal.returns-in-Ok-clause-answered
returns-in-Ok-clause-answered g c = λ first made h. leads_on IsDeltaExchange first c.args.self.now _ made (Latest (Ok c.in-Ok.number)) h (c.in-Ok.ensures.call, c.in-Ok.ensures.told)

pub returns-in-Err-clause-answered : goal.returns-in-Err-clause-answered
returns-in-Err-clause-answered g c = λ first made h.
    leads_on IsDeltaExchange first c.args.self.now _ made (Latest (Err c.from.result)) h
    ((c.in-Err.fault, c.in-Err.ensures.call, c.from.ensures), (c.in-Err.fault, c.in-Err.ensures.told, c.from.ensures))
