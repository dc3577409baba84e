use Rattle.store_share.proofs.Locks.{above_head, has_props}
use Rattle.store_share.proofs.share.MasterShare.fetch_props.Goals as goal

pub returns-clause-props : goal.returns-clause-props
returns-clause-props g c = has_props c.args.self.now c.deref.result.now c.args.number c.fetch_props.result c.fetch_props.ensures.props

pub returns-clause-above : goal.returns-clause-above
returns-clause-above g c = above_head c.args.self.now c.deref.result.now c.args.number c.fetch_props.result c.fetch_props.ensures.refused
