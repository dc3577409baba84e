use Rattle.sync_core.proofs.StateLemmas.{follows, lawful, asked}
use Rattle.sync_core.proofs.law.jobs_follow.Goals as goal

pub returns-clause-lawful : goal.returns-clause-lawful
returns-clause-lawful c = lawful

pub returns-clause-asked : goal.returns-clause-asked
returns-clause-asked c = asked

pub returns-clause-follows : goal.returns-clause-follows
returns-clause-follows c = follows
