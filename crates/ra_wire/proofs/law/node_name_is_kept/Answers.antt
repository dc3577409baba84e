use Rattle.ra_wire.proofs.Kept.{node_name_again}
use Rattle.ra_wire.proofs.law.node_name_is_kept.Goals as goal

pub returns : goal.returns
returns c = node_name_again c.args.name.now c.as_str-text.ensures.name c.as_str-text.ensures.small
