use Rattle.command_words.proofs.Sources.{no_port}
use Rattle.command_words.proofs.command_line.port_in.Goals as goal

pub returns-in-None-clause-none : goal.returns-in-None-clause-none
returns-in-None-clause-none c = no_port c.args.source.now c.in-None.ensures.none
