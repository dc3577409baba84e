use Rattle.mirror_share.proofs.Locks.{entered, kept_out}
use Rattle.mirror_share.proofs.share.MirrorShare.enter_job.Goals as goal

pub returns-clause-entered : goal.returns-clause-entered
returns-clause-entered g c = entered c.args.self.now c.deref_mut.result.now.book c.enter_job.new.self.book c.args.token.now c.enter_job.result c.enter_job.ensures.alone c.enter_job.ensures.free c.enter_job.ensures.there

pub returns-clause-refused : goal.returns-clause-refused
returns-clause-refused g c = kept_out c.args.self.now c.deref_mut.result.now.book c.args.token.now c.enter_job.result c.enter_job.ensures.refused
