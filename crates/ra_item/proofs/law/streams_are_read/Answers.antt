use Rattle.ra_item.proofs.Spelled.{stream_read}
use Rattle.ra_item.proofs.law.streams_are_read.Goals as goal

pub returns : goal.returns
returns c = stream_read
