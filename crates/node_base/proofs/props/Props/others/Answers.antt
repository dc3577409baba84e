use Rattle.std.proofs.Common.{ap, ◌∙◌}
use Rattle.node_base.specs.Props.{without_sync}
use Rattle.node_base.proofs.PropLemmas.{without_empty}
use Rattle.node_base.proofs.props.Props.others.Goals as goal

pub returns-in-None : goal.returns-in-None
returns-in-None c = c.new.ensures ∙ without_empty ∙ ap without_sync (rw c.in-None.is at c.self.view_is)
