use Rattle.ra_browse.proofs.Laws.{stat_told_node}
use Rattle.ra_browse.proofs.law.stat_is_the_node.Goals as goal

pub returns : goal.returns
returns c = stat_told_node
