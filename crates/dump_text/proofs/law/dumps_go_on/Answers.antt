use Rattle.dump_text.proofs.Written.{dump_goes_on}
use Rattle.dump_text.proofs.law.dumps_go_on.Goals as goal

pub returns : goal.returns
returns c = dump_goes_on
