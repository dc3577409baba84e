use Rattle.sync_core.proofs.Nearer.{nearer_by}
use Rattle.sync_core.proofs.state.absorb.Goals as goal

pub returns-clause-nearer : goal.returns-clause-nearer
returns-clause-nearer c = nearer_by c.args.state c.args.answer c.moved.result c.moved.ensures c.can_be.ensures
