use Rattle.dump_text.proofs.Written.{entry_again}
use Rattle.dump_text.proofs.law.entries_are_read_again.Goals as goal

pub returns : goal.returns
returns c = entry_again
