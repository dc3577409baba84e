use Rattle.std.proofs.Common.{false}
use Rattle.dump_text.proofs.Records.{dump_read}
use Rattle.dump_text.proofs.Written.{dump_written, reads_back}
use Rattle.dump_text.specs.Written.{canon_dump, read_dump}
use Rattle.dump_text.proofs.law.written_is_read.Goals as goal

pub returns : goal.returns
returns c = λ id revisions n v. let d = dump_written id revisions (reads_back id n) v in ((2, d), dump_read false 2 (canon_dump id revisions) (read_dump id revisions) d)
