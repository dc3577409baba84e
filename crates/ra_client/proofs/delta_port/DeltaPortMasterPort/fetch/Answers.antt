use Rattle.std.proofs.Common.{Some, Ok, Err, refl, arith}
use Rattle.sync_job.specs.Questions.{Fetch}
use Rattle.sync_job.proofs.Questions.{leads_on}
use Rattle.ra_client.specs.Deltas.{IsDeltaExchange}
use Rattle.ra_client.proofs.delta_port.DeltaPortMasterPort.fetch.Goals as goal

pub returns-then-trees-index-clause-answered : goal.returns-then-trees-index-clause-answered
returns-then-trees-index-clause-answered g c = λ first made h. leads_on IsDeltaExchange first c.args.self.now c.args.self.now made (Fetch c.args.number c.args.trees.now (Err _)) h (λ e. absurd (omega (arith, c.if-trees-index.true, c.index.ensures.number, e)))

pub returns-in-Ok-clause-answered : goal.returns-in-Ok-clause-answered
returns-in-Ok-clause-answered g c = λ first made h.
    leads_on IsDeltaExchange first c.args.self.now _ made (Fetch c.args.number c.args.trees.now (Ok _)) h (λ e. (_, refl, c.in-Ok.ensures.call))

pub returns-in-Err-clause-answered : goal.returns-in-Err-clause-answered
returns-in-Err-clause-answered g c = λ first made h.
    leads_on IsDeltaExchange first c.args.self.now _ made (Fetch c.args.number c.args.trees.now (Err c.from.result)) h
    (λ e. (c.in-Err.fault, c.in-Err.ensures.call, c.from.ensures))
