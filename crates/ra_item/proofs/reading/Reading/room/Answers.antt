use Rattle.std.proofs.Common.{arith}
use Rattle.ra_item.proofs.Runs.{may_keep_text}
use Rattle.ra_item.proofs.reading.Reading.room.Goals as goal

pub returns-in-Text-clause-keep : goal.returns-in-Text-clause-keep
returns-in-Text-clause-keep c = may_keep_text c.args.self.now c.in-Text.n c.min.result c.in-Text.is (λ x. omega arith) (λ x. omega arith)
