use Rattle.std.proofs.Common.{sym, ◌∙◌, ap}
use Rattle.dump_text.specs.Streams.{records_of}
use Rattle.dump_text.proofs.Records.{dump_read}
use Rattle.dump_text.proofs.law.one_reading.Goals as goal

pub returns : goal.returns
returns c = λ deltas bytes rs others a b. ap records_of (sym (dump_read deltas a.0 bytes rs a.1) ∙ dump_read deltas b.0 bytes others b.1)
