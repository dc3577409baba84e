use Rattle.ra_wire.proofs.Listed.{props_again}
use Rattle.ra_wire.proofs.law.props_are_read_again.Goals as goal

pub returns : goal.returns
returns c = props_again c.args.props.now c.entries-entries.ensures.rules
