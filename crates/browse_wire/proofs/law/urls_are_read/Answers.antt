use Rattle.browse_wire.proofs.UrlsRead.{urls_read}
use Rattle.browse_wire.proofs.law.urls_are_read.Goals as goal

pub returns : goal.returns
returns c = urls_read
