use Rattle.dump_text.proofs.Converse.{first_fault}
use Rattle.dump_text.proofs.law.refusals_have_a_byte.Goals as goal

pub returns : goal.returns
returns c = first_fault
