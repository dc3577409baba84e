use Rattle.std.proofs.Common.{Ok, Err, refl, ap, ◌∙◌}
use Rattle.uuid.specs.Text.{hyphenated_text, lower}
use Rattle.sync_job.specs.Questions.{Identity}
use Rattle.sync_job.proofs.Questions.{leads_on}
use Rattle.ra_client.specs.Deltas.{IsDeltaExchange}
use Rattle.ra_client.proofs.delta_port.DeltaPortMasterPort.identity.Goals as goal

pub returns-in-Ok-clause-answered : goal.returns-in-Ok-clause-answered
returns-in-Ok-clause-answered g c = λ first made h. leads_on IsDeltaExchange first c.args.self.now c.args.self.now made (Identity (Ok c.in-Ok.text)) h (refl, c.in-Ok.ensures ∙ ap (λ x. hyphenated_text lower x) c.identity.ensures)

pub returns-in-Err-clause-answered : goal.returns-in-Err-clause-answered
returns-in-Err-clause-answered g c = λ first made h. leads_on IsDeltaExchange first c.args.self.now c.args.self.now made (Identity (Err _)) h (refl, refl)
