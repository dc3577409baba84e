use Rattle.mirror_share.proofs.Locks.{above_head, has_props}
use Rattle.mirror_share.proofs.share.MirrorShare.rev_props.Goals as goal

pub returns-clause-props : goal.returns-clause-props
returns-clause-props g c = has_props c.args.self.now c.deref.result.now.book c.args.number c.rev_props.result c.rev_props.ensures.props

pub returns-clause-above : goal.returns-clause-above
returns-clause-above g c = above_head c.args.self.now c.deref.result.now.book c.args.number c.rev_props.result c.rev_props.ensures.refused
