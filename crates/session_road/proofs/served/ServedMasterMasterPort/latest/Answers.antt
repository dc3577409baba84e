use Rattle.std.proofs.Common.{refl}
use Rattle.sync_job.specs.Questions.{Latest}
use Rattle.session_road.proofs.Masters.{heard_so, true_now, latest_value}
use Rattle.session_road.proofs.served.ServedMasterMasterPort.latest.Goals as goal

pub returns-clause-value : goal.returns-clause-value
returns-clause-value c = true_now _ _ (λ o m. latest_value c.args.self.now.repo.now o c.latest_heard.result m c.latest_heard.ensures)

pub returns-clause-answered : goal.returns-clause-answered
returns-clause-answered c = λ first made h. heard_so c.args.self.now c.args.self.now first made (Latest c.latest_heard.result) refl h c.latest_heard.ensures
