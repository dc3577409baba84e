use Rattle.std.proofs.Common.{◌≡◌, ◌<◌, arith}
use Rattle.gate_log.proofs.EndLemmas.{part_behind, below_last}
use Rattle.gate_log.proofs.ends.bounds.Goals as goal

pub returns-then-entry-eq0-clause-last : goal.returns-then-entry-eq0-clause-last
returns-then-entry-eq0-clause-last c = below_last 0 c.args.ends.now c.args.entry c.requires.rising c.requires.inside

pub returns-else-entry-eq0-clause-last : goal.returns-else-entry-eq0-clause-last
returns-else-entry-eq0-clause-last c = below_last 0 c.args.ends.now c.args.entry c.requires.rising c.requires.inside

pub returns-else-entry-eq0-clause-part : goal.returns-else-entry-eq0-clause-part
returns-else-entry-eq0-clause-part c = (part_behind c.args.ends.now c.args.entry c.requires.rising (omega arith) c.requires.inside).part

pub returns-else-entry-eq0-clause-order : goal.returns-else-entry-eq0-clause-order
returns-else-entry-eq0-clause-order c = (part_behind c.args.ends.now c.args.entry c.requires.rising (omega arith) c.requires.inside).order
