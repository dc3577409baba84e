use Rattle.browse_wire.proofs.UrlsRead.{below}
use Rattle.browse_wire.proofs.law.below_is_not_root.Goals as goal

pub returns : goal.returns
returns c = below
