use Rattle.dump_text.proofs.Converse.{read_is_dump}
use Rattle.dump_text.proofs.law.reads_are_dumps.Goals as goal

pub returns : goal.returns
returns c = read_is_dump
