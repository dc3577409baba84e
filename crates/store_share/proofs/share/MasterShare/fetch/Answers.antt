use Rattle.store_share.specs.Seats.{seen_by}
use Rattle.store_share.proofs.Locks.{above_head, has_both}
use Rattle.store_share.proofs.share.MasterShare.fetch.Goals as goal

pub returns-clause-props : goal.returns-clause-props
returns-clause-props g c = has_both c.args.self.now c.deref_mut.result.now c.args.number (seen_by c.fetch.new.reader) c.fetch.result c.fetch.ensures.within c.fetch.ensures.props

pub returns-clause-above : goal.returns-clause-above
returns-clause-above g c = above_head c.args.self.now c.deref_mut.result.now c.args.number c.fetch.result c.fetch.ensures.refused
