use Rattle.node_base.specs.PathText.{path_text}
use Rattle.node_base.proofs.ReadBack.{path_of_read}
use Rattle.path_tree.proofs.limits.path_limits.Goals as goal

pub returns : goal.returns
returns c = path_of_read (path_text c.args.path.now) c.args.path.now c.names.ensures.read
