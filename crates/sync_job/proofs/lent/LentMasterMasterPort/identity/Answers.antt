use Rattle.std.proofs.Common.{refl}
use Rattle.repo_store.specs.Words.{repository_of}
use Rattle.sync_job.specs.Questions.{Identity}
use Rattle.sync_job.proofs.Answering.{answered_so}
use Rattle.sync_job.proofs.lent.LentMasterMasterPort.identity.Goals as goal

pub returns-clause-answered : goal.returns-clause-answered
returns-clause-answered g c = λ first made h. answered_so (λ a. repository_of a.store.now) c.args.self.now c.args.self.now first made (Identity c.identity_of.result) refl h c.identity_of.ensures.answered
