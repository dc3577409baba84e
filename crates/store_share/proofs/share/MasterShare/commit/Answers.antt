use Rattle.store_share.proofs.share.MasterShare.commit.Goals as goal

pub returns-clause-commits : goal.returns-clause-commits
returns-clause-commits g c = record { old = c.deref_mut.result.now; new = c.commit_by.ensures.commits.new; commits = c.commit_by.ensures.commits.commits }
