use Rattle.dump_text.proofs.Written.{entry_written}
use Rattle.dump_text.proofs.limits.entry_reads_again.Goals as goal

pub returns : goal.returns
returns c = λ version stage. entry_written version stage c.args.number c.args.props.now c.number_limit.ensures c.props_limits.ensures
