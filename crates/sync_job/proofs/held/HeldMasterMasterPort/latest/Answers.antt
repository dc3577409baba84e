use Rattle.std.proofs.Common.{refl, Ok, ap, ◌∙◌}
use Rattle.repo_core.specs.Repository.{head_of}
use Rattle.repo_store.specs.Words.{repository_of}
use Rattle.sync_job.specs.Questions.{Latest}
use Rattle.sync_job.proofs.Answering.{answered_so}
use Rattle.sync_job.proofs.held.HeldMasterMasterPort.latest.Goals as goal

pub returns-clause-answered : goal.returns-clause-answered
returns-clause-answered g c = λ first made h. answered_so (λ a. repository_of a.store) c.args.self.now c.args.self.now first made (Latest (Ok c.head.result)) refl h (c.head.ensures.head ∙ ap (λ r. head_of r.revisions) c.repo.ensures.value, tt, tt)
