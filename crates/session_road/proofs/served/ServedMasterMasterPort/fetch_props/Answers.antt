use Rattle.std.proofs.Common.{refl}
use Rattle.sync_job.specs.Questions.{FetchProps}
use Rattle.session_road.proofs.Masters.{heard_so, true_now, props_value}
use Rattle.session_road.proofs.served.ServedMasterMasterPort.fetch_props.Goals as goal

pub returns-clause-value : goal.returns-clause-value
returns-clause-value c = true_now _ _ (λ o m. props_value c.args.self.now.repo.now o c.args.number c.props_heard.result m c.props_heard.ensures)

pub returns-clause-answered : goal.returns-clause-answered
returns-clause-answered c = λ first made h. heard_so c.args.self.now c.args.self.now first made (FetchProps c.args.number c.props_heard.result) refl h c.props_heard.ensures
