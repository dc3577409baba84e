use Rattle.dump_text.proofs.Converse.{no_front}
use Rattle.dump_text.proofs.law.refused_is_no_front.Goals as goal

pub returns : goal.returns
returns c = no_front
