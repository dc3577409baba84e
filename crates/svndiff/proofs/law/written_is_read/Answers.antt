use Rattle.svndiff.specs.Spelling.{spelled}
use Rattle.svndiff.proofs.Read.{texts_are_read}
use Rattle.svndiff.proofs.Spelled.{written_is_text}
use Rattle.svndiff.proofs.law.written_is_read.Goals as goal

pub returns : goal.returns
returns c = λ text h. texts_are_read (spelled text) text (written_is_text text h)
