use Rattle.dump_text.proofs.Written.{revision_again}
use Rattle.dump_text.proofs.law.revisions_are_read_again.Goals as goal

pub returns : goal.returns
returns c = revision_again
