use Rattle.std.proofs.Common.{refl}
use Rattle.sync_job.specs.Questions.{Identity}
use Rattle.session_road.proofs.Masters.{heard_so, true_now, identity_value}
use Rattle.session_road.proofs.served.ServedMasterMasterPort.identity.Goals as goal

pub returns-clause-value : goal.returns-clause-value
returns-clause-value c = true_now _ _ (λ o m. identity_value c.args.self.now.repo.now o c.identity_heard.result m c.identity_heard.ensures)

pub returns-clause-answered : goal.returns-clause-answered
returns-clause-answered c = λ first made h. heard_so c.args.self.now c.args.self.now first made (Identity c.identity_heard.result) refl h c.identity_heard.ensures
