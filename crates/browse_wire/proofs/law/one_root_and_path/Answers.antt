use Rattle.browse_wire.proofs.UrlsRead.{one_url}
use Rattle.browse_wire.proofs.law.one_root_and_path.Goals as goal

pub returns : goal.returns
returns c = one_url
