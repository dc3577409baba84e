use Rattle.std.proofs.Common.{refl}
use Rattle.sync_job.specs.Questions.{Fetch}
use Rattle.session_road.proofs.Masters.{heard_so, true_now, revision_value}
use Rattle.session_road.proofs.served.ServedMasterMasterPort.fetch.Goals as goal

pub returns-clause-set : goal.returns-clause-set
returns-clause-set c = true_now _ _ (λ o m are. revision_value c.args.self.now.repo.now o c.args.number c.args._trees.now c.revision_heard.result m (c.revision_heard.ensures.answered c.args._trees.now))

pub returns-clause-answered : goal.returns-clause-answered
returns-clause-answered c = λ first made h. heard_so c.args.self.now c.args.self.now first made (Fetch c.args.number c.args._trees.now c.revision_heard.result) refl h (c.revision_heard.ensures.answered c.args._trees.now)
