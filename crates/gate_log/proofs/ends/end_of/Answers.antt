use Rattle.gate_log.proofs.EndLemmas.{last_at}
use Rattle.gate_log.proofs.ends.end_of.Goals as goal

pub returns-in-len1-up : goal.returns-in-len1-up
returns-in-len1-up c = last_at 0 c.args.ends.now c.in-len1-up.len_at_least
