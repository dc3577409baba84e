use Rattle.std.proofs.Common.{refl}
use Rattle.repo_store.specs.Words.{repository_of}
use Rattle.sync_job.specs.Questions.{Fetch}
use Rattle.sync_job.proofs.Answering.{answered_so}
use Rattle.sync_job.proofs.lent.LentMasterMasterPort.fetch.Goals as goal

pub returns-clause-answered : goal.returns-clause-answered
returns-clause-answered g c = λ first made h. answered_so (λ a. repository_of a.store.now) c.args.self.now c.args.self.now first made (Fetch c.args.number c.args._trees.now c.revision_of.result) refl h (c.revision_of.ensures.answered c.args._trees.now)
