use Rattle.svndiff.proofs.Read.{one_text}
use Rattle.svndiff.proofs.law.one_text.Goals as goal

pub returns : goal.returns
returns c = one_text
