use Rattle.std.proofs.Common.{length, ap, ◌∙◌, sym}
use Rattle.std.specs.FinMap.{len-entries}
use Rattle.node_base.proofs.props.Props.len.Goals as goal

pub returns : goal.returns
returns c = ap length c.entries.ensures.entries ∙ sym (len-entries _)
