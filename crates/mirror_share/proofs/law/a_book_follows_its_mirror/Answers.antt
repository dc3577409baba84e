use Rattle.mirror_share.proofs.Following.{books-follow, calls-may-happen}
use Rattle.mirror_share.proofs.law.a_book_follows_its_mirror.Goals as goal

pub returns-clause-replayed : goal.returns-clause-replayed
returns-clause-replayed c = books-follow c.every_run.ensures.mirrors

pub returns-clause-happens : goal.returns-clause-happens
returns-clause-happens c = calls-may-happen
